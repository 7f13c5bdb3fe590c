-- The integer forms of a model's rows, and all sides.
use Rattle.std.specs.Prelude.{ℕ, ◌+◌, ◌==◌, ◌&&◌, Bool, true, false, List, [], ◌∷◌, Option, Some, None, option_map, slice_get, if◌then◌else◌}
use Rattle.cgl_model.specs.declared.integer_forms.RowShape.{RowShape}
use Rattle.cgl_model.specs.declared.integer_forms.RowForm.{RowForm}
use Rattle.cgl_model.specs.declared.integer_forms.RowShape.TheVariants.{Free, Wide, Form}
use Rattle.cgl_model.specs.declared.places.End.{End}
use Rattle.cgl_model.specs.declared.places.End.TheVariants.{Lower, Upper}
use Rattle.cgl_model.specs.declared.places.Place.{Place}
use Rattle.cgl_model.specs.declared.places.Place.TheVariants.{Row, Bound}
use Rattle.cgl_model.specs.declared.places.Side.{Side}

pub record FormList : Type 0 where
  pub rows : List RowShape
  pub sides : List Side

-- the form of row r, where the row is there and is neither N nor wide
abbrev pub form_in : Option RowShape → Option RowForm
form_in None = None
form_in (Some Free) = None
form_in (Some Wide) = None
form_in (Some (Form f)) = Some f

abbrev pub form_at : List RowShape → ℕ → Option RowForm
form_at shapes r = form_in (slice_get shapes r)

abbrev pub is_wide_in : Option RowShape → Bool
is_wide_in None = false
is_wide_in (Some Free) = false
is_wide_in (Some Wide) = true
is_wide_in (Some (Form f)) = false

abbrev pub is_wide_at : List RowShape → ℕ → Bool
is_wide_at shapes r = is_wide_in (slice_get shapes r)

abbrev pub same_end : End → End → Bool
same_end Lower Lower = true
same_end Lower Upper = false
same_end Upper Lower = false
same_end Upper Upper = true

abbrev pub same_place : Place → Place → Bool
same_place (Row r e) (Row s f) = r == s && same_end e f
same_place (Row r e) (Bound j f) = false
same_place (Bound j e) (Row r f) = false
same_place (Bound j e) (Bound k f) = j == k && same_end e f

-- the number of the side at this place, from 0
abbrev pub side_number : Place → List Side → Option ℕ
side_number place [] = None
side_number place (s ∷ sides) = if same_place place s.place then Some 0 else option_map (λ n. n + 1) (side_number place sides)
