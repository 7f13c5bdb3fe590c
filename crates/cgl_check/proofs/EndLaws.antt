-- The last claim of a list.
use Rattle.std.proofs.Common.{◌≡◌, ◌-◌, List, [], ◌∷◌, length, Option, Some, None, Bool, true, false, ◌||◌, refl, sym, ap, ◌∙◌, subst, arith}
use Rattle.std.specs.Prelude.{slice_get}
use Rattle.cgl_model.specs.declared.linear.Ineq.{Ineq}
use Rattle.cgl_derive.specs.declared.step.Step.{Step}
use Rattle.cgl_derive.specs.Derives.{claim_of}
use Rattle.cgl_check.specs.Tests.{ends_in, is_absurd, same_ineq}
use Rattle.cgl_check.proofs.TestLaws.{ineq_same, same_from}

abbrev ends_at : Option Step → Ineq → Bool
ends_at None goal = false
ends_at (Some s) goal = same_ineq (claim_of s) goal || is_absurd (claim_of s)

ends_last : (s : Step) (steps : List Step) (goal : Ineq) → ends_at (slice_get (s ∷ steps) (length steps)) goal ≡ ends_in (s ∷ steps) goal
ends_last s [] goal = refl
ends_last s (t ∷ rest) goal = ends_last t rest goal

-- the test of the last step is that of the list
pub ends_is : (steps : List Step) (s : Step) (goal : Ineq) → slice_get steps (length steps - 1) ≡ Some s → (same_ineq (claim_of s) goal || is_absurd (claim_of s)) ≡ ends_in steps goal
ends_is [] s goal e = cc
ends_is (t ∷ rest) s goal e =
    let at : length (t ∷ rest) - 1 ≡ length rest = omega arith in
    let is : slice_get (t ∷ rest) (length rest) ≡ Some s = ap (slice_get (t ∷ rest)) (sym at) ∙ e in
    subst (λ (o : Option Step). ends_at o goal ≡ ends_in (t ∷ rest) goal) is (ends_last t rest goal)

pub ends_same : (steps : List Step) (s : Step) (c goal : Ineq) → slice_get steps (length steps - 1) ≡ Some s → c ≡ claim_of s → c ≡ goal → true ≡ ends_in steps goal
ends_same steps s c goal e is same =
    ap (λ b. b || is_absurd (claim_of s)) (sym (same_from (claim_of s) goal (sym is ∙ same))) ∙ ends_is steps s goal e

or_of_false : (a b : Bool) → (a ≡ true → ⊥) → b ≡ (a || b)
or_of_false true b h = absurd (h refl)
or_of_false false b h = refl

pub ends_other : (steps : List Step) (s : Step) (c goal : Ineq) → slice_get steps (length steps - 1) ≡ Some s → c ≡ claim_of s → (c ≡ goal → ⊥) → is_absurd c ≡ ends_in steps goal
ends_other steps s c goal e is other =
    ap is_absurd is ∙ or_of_false (same_ineq (claim_of s) goal) (is_absurd (claim_of s)) (λ h. other (is ∙ ineq_same (claim_of s) goal h)) ∙ ends_is steps s goal e
