-- A point of a model: a whole number for each column, over one denominator.
use Rattle.std.specs.Prelude.{ℕ, ℤ, pos, List, unwrap_or, slice_get}

pub record Point : Type 0 where
  pub p : List ℤ
  pub d : ℤ

-- the number of column j
abbrev pub number_at : List ℤ → ℕ → ℤ
number_at p j = unwrap_or (slice_get p j) (pos 0)
