-- Rounding has no failure exactly where it is right.
use Rattle.std.proofs.Common.{◌≡◌, ◌↔◌, ℤ, pos, List, [], ◌∷◌, Option, Some, None, Bool, true, false, not, ◌||◌, refl, sym, ap, ◌∙◌, subst}
use Rattle.std.specs.Prelude.{int_lt}
use Rattle.cgl_model.specs.declared.linear.Ineq.{Ineq}
use Rattle.cgl_model.specs.declared.mip.Model.{Model}
use Rattle.cgl_model.specs.Inequality.{Term}
use Rattle.cgl_derive.specs.declared.step.Ref.{Ref}
use Rattle.cgl_derive.specs.declared.step.Round.{Round}
use Rattle.cgl_derive.specs.Derives.{AreColumns, IsRightRound, RoundIsRight}
use Rattle.cgl_derive.specs.Rounding.{divides_all, rounded}
use Rattle.cgl_derive.proofs.RoundingLaws.{right_divides, right_is_rounded, rounded_right}
use Rattle.cgl_check.specs.FirstFailure.{quotient_failure, round_failure, bad_ref, bad_divisor, not_integer, other_claim}
use Rattle.cgl_check.specs.Tests.{are_columns, are_integers, same_ineq}
use Rattle.cgl_check.proofs.TestLaws.{not_false, or_false, false_or, not_of_true, fails_none, none_fails, columns_hold, columns_pass, integers_hold, integers_pass, ineq_same, same_from, above_zero, zero_above}

from_right : (m : Model) (round : Round) (o : Option Ineq) → quotient_failure m round o ≡ None → IsRightRound m o round
from_right m round None e = cc
from_right m round (Some from) e =
    let g = round.g in
    let first = fails_none (int_lt g (pos 1) || not (divides_all g from.terms)) bad_divisor _ e in
    let second = fails_none (not (are_integers m from.terms)) not_integer _ first.1 in
    let third = fails_none (not (same_ineq round.claim (rounded g from))) other_claim None second.1 in
    let both = or_false (int_lt g (pos 1)) (not (divides_all g from.terms)) first.0 in
    let same = ineq_same round.claim (rounded g from) (not_false _ third.0) in
    let right = rounded_right m from g (above_zero g both.0) (not_false _ both.1) (integers_hold m from.terms (not_false _ second.0)) in
    subst (λ (claim : Ineq). RoundIsRight m from g claim) (sym same) right

right_from : (m : Model) (round : Round) (o : Option Ineq) → IsRightRound m o round → (quotient_failure m round o ≡ None) × AreColumns m round.claim.terms
right_from m round None right = absurd right
right_from m round (Some from) right =
    let g = round.g in
    let same = right_is_rounded m from round.claim g right in (
      none_fails (int_lt g (pos 1) || not (divides_all g from.terms)) bad_divisor _ (false_or _ _ (zero_above g right.positive) (not_of_true _ (right_divides m from round.claim g right)))
          (none_fails (not (are_integers m from.terms)) not_integer _ (not_of_true _ (integers_pass m from.terms right.integer))
          (none_fails (not (same_ineq round.claim (rounded g from))) other_claim None (not_of_true _ (same_from round.claim (rounded g from) same)) refl)),
      right.columns,
    )

pub round_exact : (m : Model) (means : Ref → Option Ineq) (round : Round) → (round_failure m means round ≡ None) ↔ IsRightRound m (means round.from) round
round_exact m means round = (
  (λ e. from_right m round (means round.from) (fails_none (not (are_columns m round.claim.terms)) bad_ref _ e).1),
  (λ right.
      let both = right_from m round (means round.from) right in
      none_fails (not (are_columns m round.claim.terms)) bad_ref _ (not_of_true _ (columns_pass m round.claim.terms both.1)) both.0),
)
