-- What simple rounding says of a side, and of the items of a site.
use Rattle.std.specs.Prelude.{ℕ, ◌==◌, ℤ, pos, Bool, ◌||◌, not, [], ◌∷◌, length, if◌then◌else◌, Option, Some, None, slice_get}
use Rattle.std.specs.List.{list_all}
use Rattle.cgl_model.specs.declared.linear.Ineq.{Ineq}
use Rattle.cgl_model.specs.declared.mip.Model.{Model}
use Rattle.cgl_model.specs.declared.places.Place.{Place}
use Rattle.cgl_model.specs.declared.places.Side.{Side}
use Rattle.cgl_model.specs.Inequality.{violation}
use Rattle.cgl_model.specs.IntegerForm.{forms_of}
use Rattle.cgl_model.specs.Point.{Point}
use Rattle.cgl_derive.specs.declared.answer.Answer.{Answer}
use Rattle.cgl_derive.specs.declared.answer.Answer.TheVariants.{Nothing, Cut, Wide}
use Rattle.cgl_derive.specs.declared.step.Derivation.{Derivation}
use Rattle.cgl_derive.specs.declared.step.Ref.TheVariants as by
use Rattle.cgl_derive.specs.declared.step.Step.TheOpen as step
use Rattle.cgl_derive.specs.Derives.{Layer, is_integer}
use Rattle.cgl_derive.specs.Layers.{derivation}
use Rattle.cgl_derive.specs.Rounding.{divides, divisor_of, rounded}
use Rattle.cgl_gen.specs.Listable.{is_large_cut, is_violated, is_wide_at}
use Rattle.cgl_gen.specs.Setting.{Setting}

-- rounding gives nothing: there are no terms, a column is not integer, or the divisor divides the right side
abbrev pub is_idle : Model → Ineq → Bool
is_idle m c = length c.terms == 0 || not (list_all (λ t. is_integer m t.0) c.terms) || divides (pos (divisor_of c.terms)) c.rhs

-- one rounding step from an end
abbrev pub round_step : Place → ℤ → Ineq → Layer
round_step place g c = step.Round (record { from = by.Side place; g = g; claim = c })

unfoldable pub round_from : Place → ℤ → Ineq → Derivation
round_from place g c = derivation (round_step place g c ∷ [])

-- the answer with the cut that the divisor g gives
abbrev pub answer_with : Side → Point → ℤ → Ineq → Answer
answer_with side x g c =
    if is_large_cut c || is_wide_at c x then Wide
    else if is_violated c x then Cut (record { cut = c; derivation = round_from side.place g c; violation = violation c x })
    else Nothing

unfoldable pub round_member : Model → Point → Side → Answer
round_member m x side =
    if is_idle m side.ineq then Nothing
    else answer_with side x (pos (divisor_of side.ineq.terms)) (rounded (pos (divisor_of side.ineq.terms)) side.ineq)

-- ---- items

abbrev pub answer_at : Model → Point → Option Side → Answer
answer_at m x None = Nothing
answer_at m x (Some side) = round_member m x side

-- each side is an item
unfoldable pub round_count : Setting → ℕ
round_count s = length (forms_of s.model).sides

unfoldable pub round_says : Setting → ℕ → Answer
round_says s item = answer_at s.model s.point (slice_get (forms_of s.model).sides item)
