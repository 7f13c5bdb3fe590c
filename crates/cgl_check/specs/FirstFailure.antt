-- The first failure of a derivation, going through the steps in order, the left branch of a split before the right.
use Rattle.std.specs.Prelude.{ℕ, zero, suc, ◌+◌, ℤ, pos, ◌+ℤ◌, int_lt, Bool, true, false, ◌||◌, not, List, [], ◌∷◌, ◌++◌, Option, Some, None, if◌then◌else◌}
use Rattle.std.specs.List.{list_any}
use Rattle.cgl_model.specs.declared.linear.Ineq.{Ineq}
use Rattle.cgl_model.specs.declared.mip.Model.{Model}
use Rattle.cgl_model.specs.IntegerForm.{forms_of}
use Rattle.cgl_derive.specs.declared.step.Ref.{Ref}
use Rattle.cgl_derive.specs.declared.step.Lin.{Lin}
use Rattle.cgl_derive.specs.declared.step.Round.{Round}
use Rattle.cgl_derive.specs.declared.step.Knap.{Knap}
use Rattle.cgl_derive.specs.declared.step.Step.{Step, out-Step}
use Rattle.cgl_derive.specs.declared.step.Step.TheOpen as step
use Rattle.cgl_derive.specs.declared.step.Split.{Split, out-Split}
use Rattle.cgl_derive.specs.declared.step.Derivation.{Derivation, out-Derivation}
use Rattle.cgl_derive.specs.Binary.{holds_at_bits}
use Rattle.cgl_derive.specs.Derives.{Layer, Part, above, below, claim_of, parts_of}
use Rattle.cgl_derive.specs.Meaning.{meaning}
use Rattle.cgl_derive.specs.Rounding.{divides_all, rounded}
use Rattle.cgl_derive.specs.Totals.{is_wide_claim}
use Rattle.cgl_check.specs.declared.path.Branch.{Branch}
use Rattle.cgl_check.specs.declared.path.Branch.TheVariants.{Left, Right}
use Rattle.cgl_check.specs.declared.path.Reject.{Reject}
use Rattle.cgl_check.specs.Places.{at_branch, at_list, at_step, inside, or_else}
use Rattle.cgl_check.specs.Tests.{are_columns, are_integers, are_narrow_sums, ends_in, is_claimed, is_knapsack, is_wide_number, same_ineq}

-- ---- why a step fails

abbrev pub bad_ref : ℕ
bad_ref = 1

abbrev pub bad_sum : ℕ
bad_sum = 2

abbrev pub wide : ℕ
wide = 3

abbrev pub not_integer : ℕ
not_integer = 4

abbrev pub bad_divisor : ℕ
bad_divisor = 5

abbrev pub branch_end : ℕ
branch_end = 6

abbrev pub knapsack_form : ℕ
knapsack_form = 7

abbrev pub knapsack_value : ℕ
knapsack_value = 8

abbrev pub too_deep : ℕ
too_deep = 9

abbrev pub other_claim : ℕ
other_claim = 10

-- the failure where the test holds, and otherwise the next: a table of failures is read downwards
abbrev pub fails : Bool → ℕ → Option ℕ → Option ℕ
fails test why next = if test then Some why else next

-- ---- Lin

abbrev pub sum_failure : Model → Lin → Option (List Part) → Option ℕ
sum_failure m lin None = Some bad_ref
sum_failure m lin (Some parts) =
    fails (not (are_narrow_sums m parts) || is_wide_claim lin.q lin.claim) wide
    (fails (not (is_claimed m parts lin.q lin.claim)) bad_sum None)

abbrev pub lin_failure : Model → (Ref → Option Ineq) → Lin → Option ℕ
lin_failure m means lin =
    fails (not (are_columns m lin.claim.terms)) bad_ref
    (fails (list_any (λ r. int_lt r.1 (pos 0)) lin.refs || int_lt lin.q (pos 1)) bad_sum
    (sum_failure m lin (parts_of means lin.refs)))

-- ---- Round

abbrev pub quotient_failure : Model → Round → Option Ineq → Option ℕ
quotient_failure m round None = Some bad_ref
quotient_failure m round (Some from) =
    fails (int_lt round.g (pos 1) || not (divides_all round.g from.terms)) bad_divisor
    (fails (not (are_integers m from.terms)) not_integer
    (fails (not (same_ineq round.claim (rounded round.g from))) other_claim None))

abbrev pub round_failure : Model → (Ref → Option Ineq) → Round → Option ℕ
round_failure m means round = fails (not (are_columns m round.claim.terms)) bad_ref (quotient_failure m round (means round.from))

-- ---- Split

-- before its branches; no further split may be entered where `enter` is false
abbrev pub head_failure : Model → Bool → Split → Option ℕ
head_failure m enter s =
    fails (not (are_columns m (out-Split s).claim.terms) || not (are_columns m (out-Split s).p)) bad_ref
    (fails (not enter) too_deep
    (fails (not (are_integers m (out-Split s).p)) not_integer
    (fails (is_wide_number (out-Split s).p0 || is_wide_number ((out-Split s).p0 +ℤ pos 1)) wide None)))

-- ---- Knap

abbrev pub knapsack_failure : Model → Knap → Option Ineq → Option ℕ
knapsack_failure m knap None = Some bad_ref
knapsack_failure m knap (Some from) =
    fails (not (is_knapsack m from knap.claim)) knapsack_form
    (fails (not (holds_at_bits m from knap.claim)) knapsack_value None)

abbrev pub knap_failure : Model → (Ref → Option Ineq) → Knap → Option ℕ
knap_failure m means knap = fails (not (are_columns m knap.claim.terms)) bad_ref (knapsack_failure m knap (means knap.from))

-- ---- lists

-- the end of a branch of step i
abbrev pub end_failure : ℕ → Branch → List Step → Ineq → Option Reject
end_failure i branch steps goal = if ends_in steps goal then None else Some (at_branch i branch branch_end)

-- the first failure in a list of steps, by the givens and the visible claims
abbrev pub Search : Type 0
Search = List Ineq → List Ineq → List Step → Option Reject

abbrev pub branch_failure : Search → List Ineq → List Ineq → ℕ → Branch → List Step → Ineq → Option Reject
branch_failure inner givens claims i branch steps goal = or_else (inside i branch (inner givens claims steps)) (end_failure i branch steps goal)

abbrev pub split_failure : Model → Bool → Search → List Ineq → List Ineq → ℕ → Split → Option Reject
split_failure m enter inner givens claims i s =
    or_else (at_step i (head_failure m enter s))
    (or_else (branch_failure inner (givens ++ below (out-Split s).p (out-Split s).p0 ∷ []) claims i Left (out-Derivation (out-Split s).left).steps (out-Split s).claim)
    (branch_failure inner (givens ++ above (out-Split s).p (out-Split s).p0 ∷ []) claims i Right (out-Derivation (out-Split s).right).steps (out-Split s).claim))

abbrev pub step_failure : Model → List Ineq → Bool → Search → List Ineq → List Ineq → ℕ → Layer → Option Reject
step_failure m shared enter inner givens claims i (step.Lin lin) = at_step i (lin_failure m (meaning (forms_of m).sides shared givens claims) lin)
step_failure m shared enter inner givens claims i (step.Round round) = at_step i (round_failure m (meaning (forms_of m).sides shared givens claims) round)
step_failure m shared enter inner givens claims i (step.Split s) = split_failure m enter inner givens claims i s
step_failure m shared enter inner givens claims i (step.Knap knap) = at_step i (knap_failure m (meaning (forms_of m).sides shared givens claims) knap)

-- the first of these steps has the number i
abbrev pub list_failure : Model → List Ineq → Bool → Search → List Ineq → List Ineq → ℕ → List Step → Option Reject
list_failure m shared enter inner givens claims i [] = None
list_failure m shared enter inner givens claims i (s ∷ steps) =
    or_else (step_failure m shared enter inner givens claims i (out-Step s))
    (list_failure m shared enter inner givens (claims ++ claim_of s ∷ []) (i + 1) steps)

-- with at most n splits inside each other
unfoldable pub failure_within : Model → List Ineq → ℕ → Search
failure_within m shared zero givens claims steps = list_failure m shared false (λ givens claims steps. None) givens claims 0 steps
failure_within m shared (suc n) givens claims steps = list_failure m shared true (failure_within m shared n) givens claims 0 steps

-- the first failure of a derivation of a cut from the model and the shared inequalities; none where it proves the cut
abbrev pub first_failure : Model → List Ineq → Derivation → Ineq → Option Reject
first_failure m shared d cut =
    or_else (failure_within m shared 64 [] [] (out-Derivation d).steps)
    (if ends_in (out-Derivation d).steps cut then None else Some (at_list other_claim))
