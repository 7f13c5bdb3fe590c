-- First failures of known derivations, by computation.
use Rattle.std.proofs.Common.{◌≡◌, ℕ, zero, suc, pos, negsuc, ◌^◌, ◌||◌, true, false, ◌+◌, List, [], ◌∷◌, ◌++◌, Some, None, refl, ap, ◌∙◌, if◌then◌else◌}
use Rattle.std.specs.Prelude.{replicate}
use Rattle.cgl_num.specs.Gcd.{gcd, gcd_of}
use Rattle.cgl_num.specs.Fraction.{lowest}
use Rattle.cgl_model.specs.declared.linear.Ineq.{Ineq}
use Rattle.cgl_model.specs.declared.places.End.TheVariants.{Upper}
use Rattle.cgl_model.specs.IntegerForm.{forms_of, row_shape}
use Rattle.cgl_derive.specs.declared.step.Derivation.{out-Derivation}
use Rattle.cgl_derive.specs.declared.step.Split.{out-Split}
use Rattle.cgl_derive.specs.Derives.{above, below}
use Rattle.cgl_derive.specs.declared.step.Ref.TheVariants as by
use Rattle.cgl_derive.specs.declared.step.Step.{roll-Step, out-Step}
use Rattle.cgl_derive.specs.KnownDerivations.{at_most_one, by_cases, by_three, cases, contradiction, end_of_row, halved, ineq, infeasible, left_case, nested, one_column, other_cases, other_column, other_end, over_continuous, summed, too_great, two_columns}
use Rattle.cgl_derive.specs.declared.step.Step.TheOpen as steps
use Rattle.cgl_derive.specs.Layers.{derivation}
use Rattle.cgl_check.specs.declared.path.Branch.TheVariants.{Left, Right}
use Rattle.cgl_check.specs.FirstFailure.{branch_failure, end_failure, failure_within}
use Rattle.cgl_check.specs.Places.{at_list, inside, or_else}
use Rattle.cgl_check.specs.Tests.{ends_in, same_ineq}
use Rattle.cgl_check.proofs.KnownLayers.{first_layers, last_layers, within_layers}
use Rattle.cgl_check.specs.KnownFailures.{FailsAt, Passes, right, step}

pub empty_list : FailsAt [] 10 one_column [] (derivation []) at_most_one
unfolding failure_within out-Step denote.Hole.Carrier.out roll-Step denote.Hole.Carrier.roll
empty_list = refl

pub divided : Passes one_column [] halved at_most_one
unfolding failure_within out-Step denote.Hole.Carrier.out roll-Step denote.Hole.Carrier.roll forms_of row_shape gcd gcd_of lowest
divided = refl

pub other_divisor : FailsAt (step 0) 5 one_column [] by_three at_most_one
unfolding failure_within out-Step denote.Hole.Carrier.out roll-Step denote.Hole.Carrier.roll forms_of row_shape gcd gcd_of lowest
other_divisor = refl

pub other_quotient : FailsAt (step 0) 10 one_column [] too_great at_most_one
unfolding failure_within out-Step denote.Hole.Carrier.out roll-Step denote.Hole.Carrier.roll forms_of row_shape gcd gcd_of lowest
other_quotient = refl

pub no_claim : FailsAt (step 0) 1 one_column [] (summed ((by.Step 0, pos 1) ∷ []) at_most_one) at_most_one
unfolding failure_within out-Step denote.Hole.Carrier.out roll-Step denote.Hole.Carrier.roll
no_claim = refl

pub negative : FailsAt (step 0) 2 one_column [] (summed ((end_of_row Upper, negsuc 0) ∷ []) at_most_one) at_most_one
unfolding failure_within out-Step denote.Hole.Carrier.out roll-Step denote.Hole.Carrier.roll
negative = refl

pub too_wide : FailsAt (step 0) 3 one_column [] (summed ((end_of_row Upper, pos (2 ^ 126)) ∷ []) at_most_one) at_most_one
unfolding failure_within out-Step denote.Hole.Carrier.out roll-Step denote.Hole.Carrier.roll forms_of row_shape gcd gcd_of lowest
too_wide = refl

pub no_column : FailsAt (step 0) 1 one_column [] (summed [] other_column) at_most_one
unfolding failure_within out-Step denote.Hole.Carrier.out roll-Step denote.Hole.Carrier.roll
no_column = refl

pub no_given : FailsAt (step 0) 1 one_column [] (summed ((by.Given 0, pos 1) ∷ []) at_most_one) at_most_one
unfolding failure_within out-Step denote.Hole.Carrier.out roll-Step denote.Hole.Carrier.roll
no_given = refl

pub two_cases : Passes one_column [] by_cases at_most_one
unfolding failure_within out-Step denote.Hole.Carrier.out roll-Step denote.Hole.Carrier.roll forms_of row_shape gcd gcd_of lowest
two_cases = first_layers one_column [] (steps.Split (cases 0 (left_case 0)) ∷ []) at_most_one

pub branch_end : FailsAt (right 0 []) 6 one_column [] other_end at_most_one
unfolding failure_within out-Step denote.Hole.Carrier.out roll-Step denote.Hole.Carrier.roll forms_of row_shape gcd gcd_of lowest
branch_end = first_layers one_column [] (steps.Split other_cases ∷ []) at_most_one

pub continuous : FailsAt (step 0) 4 two_columns [] over_continuous at_most_one
unfolding failure_within out-Step denote.Hole.Carrier.out roll-Step denote.Hole.Carrier.roll forms_of row_shape gcd gcd_of lowest
continuous = refl

pub each_cut : (cut : Ineq) → Passes infeasible [] contradiction cut
unfolding failure_within out-Step denote.Hole.Carrier.out roll-Step denote.Hole.Carrier.roll forms_of row_shape gcd gcd_of lowest
each_cut cut = elim (same_ineq (ineq [] (pos 1)) cut) as (λ b. (if b || true then None else Some (at_list 10)) ≡ None) [ true ↦ refl | false ↦ refl ]

-- ---- splits inside each other

-- 65 splits, where n of them are inside the one that is looked at and as many may be entered
deep_failure : (n d : ℕ) (givens : List Ineq) → failure_within one_column [] n givens [] (out-Derivation (nested n d)).steps ≡ Some (record { path = replicate n (0, Some Left) ++ step 0; why = 9 })
unfolding nested
deep_failure zero d givens = last_layers one_column [] givens [] (steps.Split (cases d (left_case d)) ∷ [])
deep_failure (suc n) d givens =
    let s = cases d (nested n (d + 1)) in
    let inner = deep_failure n (d + 1) (givens ++ below ((0, pos 1) ∷ []) (pos 1) ∷ []) in
    let right = branch_failure (failure_within one_column [] n) (givens ++ above ((0, pos 1) ∷ []) (pos 1) ∷ []) [] 0 Right (out-Derivation (out-Split s).right).steps at_most_one in
    let left_end = end_failure 0 Left (out-Derivation (nested n (d + 1))).steps at_most_one in
    within_layers one_column [] n givens [] (steps.Split s ∷ [])
    ∙ ap (λ found. or_else (or_else (or_else (inside 0 Left found) left_end) right) None) inner

pub too_deep : FailsAt (replicate 64 (0, Some Left) ++ step 0) 9 one_column [] (nested 64 0) at_most_one
too_deep = ap (λ found. or_else found (if ends_in (out-Derivation (nested 64 0)).steps at_most_one then None else Some (at_list 10))) (deep_failure 64 0 [])
