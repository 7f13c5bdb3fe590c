-- First failures inside splits, of known derivations.
use Rattle.std.proofs.Common.{◌≡◌, ℕ, zero, suc, pos, false, List, [], ◌∷◌, ◌++◌, Some, None, refl, ap, ◌∙◌, if◌then◌else◌}
use Rattle.std.specs.Prelude.{replicate}
use Rattle.cgl_num.specs.Gcd.{gcd, gcd_of}
use Rattle.cgl_num.specs.Fraction.{lowest}
use Rattle.cgl_model.specs.declared.linear.Ineq.{Ineq}
use Rattle.cgl_model.specs.IntegerForm.{forms_of, row_shape}
use Rattle.cgl_derive.specs.declared.step.Step.{roll-Step, out-Step}
use Rattle.cgl_derive.specs.declared.step.Derivation.{out-Derivation}
use Rattle.cgl_derive.specs.declared.step.Ref.TheVariants as by
use Rattle.cgl_derive.specs.declared.step.Step.TheOpen as steps
use Rattle.cgl_derive.specs.Derives.{Layer, above, below}
use Rattle.cgl_derive.specs.KnownDerivations.{at_most_one, one_column, two_columns}
use Rattle.cgl_derive.specs.KnownSplits.{nothing_said, split}
use Rattle.cgl_derive.specs.Layers.{derivation, rolled}
use Rattle.cgl_check.specs.declared.path.Branch.TheVariants.{Left, Right}
use Rattle.cgl_check.specs.declared.path.Reject.{Reject}
use Rattle.cgl_check.specs.FirstFailure.{branch_failure, end_failure, failure_within}
use Rattle.cgl_check.specs.KnownFailures.{FailsAt, left, right, step}
use Rattle.cgl_check.specs.KnownOrders.{after_halving, cases_beyond, cases_by, cases_inside, cases_over_beyond, cases_over_continuous, halving, over, take_of, weak, within}
use Rattle.cgl_check.specs.Places.{at_list, inside, or_else}
use Rattle.cgl_check.specs.Tests.{ends_in}
use Rattle.cgl_check.proofs.KnownLayers.{first_layers, last_layers, layers_failure, within_layers}

-- ---- the 65th of splits inside each other

deep_failure : (why : ℕ) (layer : Layer) → ((givens : List Ineq) → layers_failure two_columns [] false (λ givens claims steps. None) givens [] 0 (layer ∷ []) ≡ Some (record { path = step 0; why = why }))
    → (n : ℕ) (givens : List Ineq) → failure_within two_columns [] n givens [] (out-Derivation (within n layer)).steps ≡ Some (record { path = replicate n (0, Some Left) ++ step 0; why = why })
unfolding within
deep_failure why layer fails zero givens = last_layers two_columns [] givens [] (layer ∷ []) ∙ fails givens
deep_failure why layer fails (suc n) givens =
    let inner = deep_failure why layer fails n (givens ++ below (over 0) (pos 0) ∷ []) in
    let right = branch_failure (failure_within two_columns [] n) (givens ++ above (over 0) (pos 0) ∷ []) [] 0 Right [] weak in
    let left_end = end_failure 0 Left (out-Derivation (within n layer)).steps weak in
    within_layers two_columns [] n givens [] (cases_by (within n layer) (derivation []) ∷ [])
    ∙ ap (λ found. or_else (or_else (or_else (inside 0 Left found) left_end) right) None) inner

deep_first : (why : ℕ) (layer : Layer) → ((givens : List Ineq) → layers_failure two_columns [] false (λ givens claims steps. None) givens [] 0 (layer ∷ []) ≡ Some (record { path = step 0; why = why }))
    → FailsAt (replicate 64 (0, Some Left) ++ step 0) why two_columns [] (within 64 layer) nothing_said
deep_first why layer fails =
    ap (λ found. or_else found (if ends_in (out-Derivation (within 64 layer)).steps nothing_said then None else Some (at_list 10))) (deep_failure why layer fails 64 [])

pub deep_column : FailsAt (replicate 64 (0, Some Left) ++ step 0) 1 two_columns [] (within 64 (steps.Split cases_beyond)) nothing_said
deep_column = deep_first 1 (steps.Split cases_beyond) (λ givens. refl)

pub deep_over : FailsAt (replicate 64 (0, Some Left) ++ step 0) 1 two_columns [] (within 64 (steps.Split cases_over_beyond)) nothing_said
deep_over = deep_first 1 (steps.Split cases_over_beyond) (λ givens. refl)

pub deep_depth : FailsAt (replicate 64 (0, Some Left) ++ step 0) 9 two_columns [] (within 64 (steps.Split cases_over_continuous)) nothing_said
deep_depth = deep_first 9 (steps.Split cases_over_continuous) (λ givens. refl)

-- ---- paths

pub third_inside : FailsAt (left 1 (step 2)) 1 one_column [] (after_halving (take_of (by.Step 0) ∷ take_of (by.Step 1) ∷ take_of (by.Step 9) ∷ []) []) at_most_one
unfolding failure_within out-Step denote.Hole.Carrier.out roll-Step denote.Hole.Carrier.roll forms_of row_shape gcd gcd_of lowest
third_inside =
    let list = take_of (by.Step 0) ∷ take_of (by.Step 1) ∷ take_of (by.Step 9) ∷ [] in
    first_layers one_column [] (halving ∷ steps.Split (split (over 0) (pos 1) (derivation list) (derivation []) at_most_one) ∷ []) at_most_one

-- in the right list of the second step, from what is found in that list
found_right : (list : List Layer) (r : Reject)
    → failure_within one_column [] 63 (above (over 0) (pos 1) ∷ []) (at_most_one ∷ []) (rolled list) ≡ Some r
    → FailsAt ((1, Some Right) ∷ r.path) r.why one_column [] (after_halving (take_of (by.Step 0) ∷ []) list) at_most_one
unfolding failure_within out-Step denote.Hole.Carrier.out roll-Step denote.Hole.Carrier.roll forms_of row_shape gcd gcd_of lowest
found_right list r found =
    first_layers one_column [] (halving ∷ steps.Split (split (over 0) (pos 1) (derivation (take_of (by.Step 0) ∷ [])) (derivation list) at_most_one) ∷ []) at_most_one
    ∙ ap (λ o. or_else (or_else (or_else (inside 1 Right o) (end_failure 1 Right (rolled list) at_most_one)) None) None) found

pub step_inside : FailsAt (right 1 (left 1 (step 0))) 1 one_column [] (after_halving (take_of (by.Step 0) ∷ []) (take_of (by.Step 0) ∷ cases_inside (take_of (by.Step 9) ∷ []) ∷ [])) at_most_one
unfolding failure_within out-Step denote.Hole.Carrier.out roll-Step denote.Hole.Carrier.roll forms_of row_shape gcd gcd_of lowest
step_inside =
    let list = take_of (by.Step 0) ∷ cases_inside (take_of (by.Step 9) ∷ []) ∷ [] in
    found_right list (record { path = left 1 (step 0); why = 1 }) (within_layers one_column [] 62 (above (over 0) (pos 1) ∷ []) (at_most_one ∷ []) list)

pub end_inside : FailsAt (right 1 (left 1 [])) 6 one_column [] (after_halving (take_of (by.Step 0) ∷ []) (take_of (by.Step 0) ∷ cases_inside [] ∷ [])) at_most_one
unfolding failure_within out-Step denote.Hole.Carrier.out roll-Step denote.Hole.Carrier.roll forms_of row_shape gcd gcd_of lowest
end_inside =
    let list = take_of (by.Step 0) ∷ cases_inside [] ∷ [] in
    found_right list (record { path = left 1 []; why = 6 }) (within_layers one_column [] 62 (above (over 0) (pos 1) ∷ []) (at_most_one ∷ []) list)
