-- Sides in the order of their places: rows before columns, by their numbers, a lower end before an upper one.
use Rattle.std.specs.Prelude.{ℕ, ◌+◌, ◌*◌, ◌^◌, ◌≤◌, List, [], ◌∷◌, length}
use Rattle.cgl_model.specs.declared.places.End.{End}
use Rattle.cgl_model.specs.declared.places.End.TheVariants.{Lower, Upper}
use Rattle.cgl_model.specs.declared.places.Place.{Place}
use Rattle.cgl_model.specs.declared.places.Place.TheVariants.{Row, Bound}
use Rattle.cgl_model.specs.declared.places.Side.{Side}

abbrev pub end_rank : End → ℕ
end_rank Lower = 0
end_rank Upper = 1

abbrev pub rank : Place → ℕ
rank (Row r e) = 2 * r + end_rank e
rank (Bound j e) = 2 ^ 33 + (2 * j + end_rank e)

-- ranks rise, the first one at least n
abbrev pub RanksRise : ℕ → List Side → Type 0
RanksRise n [] = Unit {0}
RanksRise n (s ∷ sides) = (n ≤ rank s.place) × RanksRise (rank s.place + 1) sides

-- at most two for each row and column, in order
pub record IsSideList (sides : List Side) : Type 0 where
  pub size : length sides ≤ 2 ^ 22
  pub order : RanksRise 0 sides
