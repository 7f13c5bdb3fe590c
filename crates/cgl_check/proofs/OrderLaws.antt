-- Which failure of a step is the first, of known steps: by computation.
use Rattle.std.proofs.Common.{pos, negsuc, ◌^◌, [], ◌∷◌, refl}
use Rattle.cgl_num.specs.Gcd.{gcd, gcd_of}
use Rattle.cgl_num.specs.Fraction.{lowest}
use Rattle.cgl_model.specs.IntegerForm.{forms_of, row_shape}
use Rattle.cgl_derive.specs.declared.step.Step.{roll-Step, out-Step}
use Rattle.cgl_derive.specs.declared.step.Ref.TheVariants as by
use Rattle.cgl_derive.specs.declared.step.Step.TheOpen as steps
use Rattle.cgl_derive.specs.Binary.{holds_at_bits, holds_of_all, meets_at}
use Rattle.cgl_derive.specs.KnownDerivations.{at_least, at_most_one, by_three, halved, ineq, infeasible, lin, one_column, two_columns}
use Rattle.cgl_derive.specs.KnownKnapsacks.{both_signs}
use Rattle.cgl_derive.specs.KnownSplits.{nothing_said, opposite_ends}
use Rattle.cgl_derive.specs.Layers.{derivation}
use Rattle.cgl_check.specs.FirstFailure.{failure_within}
use Rattle.cgl_check.specs.KnownFailures.{FailsAt, Passes, StepFails, StepPasses, left, right, step}
use Rattle.cgl_check.specs.KnownOrders.{by_two, by_zero, cases_by, cases_over_beyond, cases_over_continuous, ending, failing, greater_value, halving, knapsack_beyond, knapsack_of_nothing, negative_last, of_continuous, other_quotient, other_sign, other_sum, proving, quotient_beyond, quotient_of_nothing, right_knapsack, right_quotient, right_sum, sum_beyond, sum_by_zero, sum_negative, sum_of_nothing, take_of, thirding, weak, wide_beyond, wide_by_zero, wide_cases, wide_negative, wide_of_nothing, wide_sum}
use Rattle.cgl_check.proofs.KnownLayers.{first_layers}

-- ---- known sums

pub sum_column : StepFails 1 one_column [] sum_beyond
unfolding failure_within out-Step denote.Hole.Carrier.out roll-Step denote.Hole.Carrier.roll forms_of row_shape gcd gcd_of lowest
sum_column = refl

pub sum_multiplier : StepFails 2 one_column [] sum_negative
unfolding failure_within out-Step denote.Hole.Carrier.out roll-Step denote.Hole.Carrier.roll forms_of row_shape gcd gcd_of lowest
sum_multiplier = refl

pub sum_zero : StepFails 2 one_column [] sum_by_zero
unfolding failure_within out-Step denote.Hole.Carrier.out roll-Step denote.Hole.Carrier.roll forms_of row_shape gcd gcd_of lowest
sum_zero = refl

pub sum_none : StepFails 1 one_column [] sum_of_nothing
unfolding failure_within out-Step denote.Hole.Carrier.out roll-Step denote.Hole.Carrier.roll forms_of row_shape gcd gcd_of lowest
sum_none = refl

pub sum_wide : StepFails 3 one_column [] wide_sum
unfolding failure_within out-Step denote.Hole.Carrier.out roll-Step denote.Hole.Carrier.roll forms_of row_shape gcd gcd_of lowest
sum_wide = refl

pub sum_other : StepFails 2 one_column [] other_sum
unfolding failure_within out-Step denote.Hole.Carrier.out roll-Step denote.Hole.Carrier.roll forms_of row_shape gcd gcd_of lowest
sum_other = refl

pub sum_right : StepPasses one_column [] right_sum
unfolding failure_within out-Step denote.Hole.Carrier.out roll-Step denote.Hole.Carrier.roll forms_of row_shape gcd gcd_of lowest
sum_right = refl

-- ---- known widths

pub wide_left : FailsAt (step 0) 3 infeasible [] (opposite_ends (pos (2 ^ 125))) nothing_said
unfolding failure_within out-Step denote.Hole.Carrier.out roll-Step denote.Hole.Carrier.roll forms_of row_shape gcd gcd_of lowest
wide_left = refl

pub narrow_left : Passes infeasible [] (opposite_ends (pos (2 ^ 124))) nothing_said
unfolding failure_within out-Step denote.Hole.Carrier.out roll-Step denote.Hole.Carrier.roll forms_of row_shape gcd gcd_of lowest
narrow_left = refl

pub wide_right : StepFails 3 one_column (ineq [] (pos (2 ^ 126)) ∷ []) (lin (pos 1) ((by.Shared 0, pos 2) ∷ []) nothing_said)
unfolding failure_within out-Step denote.Hole.Carrier.out roll-Step denote.Hole.Carrier.roll forms_of row_shape gcd gcd_of lowest
wide_right = refl

pub wide_coefficient : StepFails 3 one_column [] (lin (pos (2 ^ 126)) [] (at_least (negsuc 1) (pos 0)))
unfolding failure_within out-Step denote.Hole.Carrier.out roll-Step denote.Hole.Carrier.roll forms_of row_shape gcd gcd_of lowest
wide_coefficient = refl

pub wide_rhs : StepFails 3 one_column [] (lin (pos (2 ^ 126)) [] (ineq [] (negsuc 1)))
unfolding failure_within out-Step denote.Hole.Carrier.out roll-Step denote.Hole.Carrier.roll forms_of row_shape gcd gcd_of lowest
wide_rhs = refl

pub narrow_rhs : StepPasses one_column [] (lin (pos (2 ^ 126)) [] (ineq [] (negsuc 0)))
unfolding failure_within out-Step denote.Hole.Carrier.out roll-Step denote.Hole.Carrier.roll forms_of row_shape gcd gcd_of lowest
narrow_rhs = refl

-- ---- known divisions

pub quotient_column : StepFails 1 two_columns [] quotient_beyond
unfolding failure_within out-Step denote.Hole.Carrier.out roll-Step denote.Hole.Carrier.roll forms_of row_shape gcd gcd_of lowest
quotient_column = refl

pub quotient_none : StepFails 1 two_columns [] quotient_of_nothing
unfolding failure_within out-Step denote.Hole.Carrier.out roll-Step denote.Hole.Carrier.roll forms_of row_shape gcd gcd_of lowest
quotient_none = refl

pub divided_by_zero : StepFails 5 two_columns [] by_zero
unfolding failure_within out-Step denote.Hole.Carrier.out roll-Step denote.Hole.Carrier.roll forms_of row_shape gcd gcd_of lowest
divided_by_zero = refl

pub divided_by_two : StepFails 5 two_columns [] by_two
unfolding failure_within out-Step denote.Hole.Carrier.out roll-Step denote.Hole.Carrier.roll forms_of row_shape gcd gcd_of lowest
divided_by_two = refl

pub divided_continuous : StepFails 4 two_columns [] of_continuous
unfolding failure_within out-Step denote.Hole.Carrier.out roll-Step denote.Hole.Carrier.roll forms_of row_shape gcd gcd_of lowest
divided_continuous = refl

pub quotient_other : StepFails 10 two_columns [] other_quotient
unfolding failure_within out-Step denote.Hole.Carrier.out roll-Step denote.Hole.Carrier.roll forms_of row_shape gcd gcd_of lowest
quotient_other = refl

pub quotient_right : StepPasses two_columns [] right_quotient
unfolding failure_within out-Step denote.Hole.Carrier.out roll-Step denote.Hole.Carrier.roll forms_of row_shape gcd gcd_of lowest
quotient_right = refl

-- ---- known cases

pub cases_column : StepFails 1 two_columns [] (steps.Split cases_over_beyond)
unfolding failure_within out-Step denote.Hole.Carrier.out roll-Step denote.Hole.Carrier.roll forms_of row_shape gcd gcd_of lowest
cases_column = first_layers two_columns [] (steps.Split cases_over_beyond ∷ []) weak

pub cases_continuous : StepFails 4 two_columns [] (steps.Split cases_over_continuous)
unfolding failure_within out-Step denote.Hole.Carrier.out roll-Step denote.Hole.Carrier.roll forms_of row_shape gcd gcd_of lowest
cases_continuous = first_layers two_columns [] (steps.Split cases_over_continuous ∷ []) weak

pub cases_wide : StepFails 3 two_columns [] (steps.Split wide_cases)
unfolding failure_within out-Step denote.Hole.Carrier.out roll-Step denote.Hole.Carrier.roll forms_of row_shape gcd gcd_of lowest
cases_wide = first_layers two_columns [] (steps.Split wide_cases ∷ []) weak

pub left_failure : FailsAt (left 0 (step 0)) 1 two_columns [] (derivation (cases_by failing failing ∷ [])) nothing_said
unfolding failure_within out-Step denote.Hole.Carrier.out roll-Step denote.Hole.Carrier.roll forms_of row_shape gcd gcd_of lowest
left_failure = first_layers two_columns [] (cases_by failing failing ∷ []) nothing_said

pub left_end : FailsAt (left 0 []) 6 two_columns [] (derivation (cases_by ending failing ∷ [])) nothing_said
unfolding failure_within out-Step denote.Hole.Carrier.out roll-Step denote.Hole.Carrier.roll forms_of row_shape gcd gcd_of lowest
left_end = first_layers two_columns [] (cases_by ending failing ∷ []) nothing_said

pub right_failure : FailsAt (right 0 (step 0)) 1 two_columns [] (derivation (cases_by proving failing ∷ [])) nothing_said
unfolding failure_within out-Step denote.Hole.Carrier.out roll-Step denote.Hole.Carrier.roll forms_of row_shape gcd gcd_of lowest
right_failure = first_layers two_columns [] (cases_by proving failing ∷ []) nothing_said

pub right_end : FailsAt (right 0 []) 6 two_columns [] (derivation (cases_by proving ending ∷ [])) nothing_said
unfolding failure_within out-Step denote.Hole.Carrier.out roll-Step denote.Hole.Carrier.roll forms_of row_shape gcd gcd_of lowest
right_end = first_layers two_columns [] (cases_by proving ending ∷ []) nothing_said

pub both_right : StepPasses two_columns [] (cases_by proving proving)
unfolding failure_within out-Step denote.Hole.Carrier.out roll-Step denote.Hole.Carrier.roll forms_of row_shape gcd gcd_of lowest
both_right = first_layers two_columns [] (cases_by proving proving ∷ []) weak

-- ---- known knapsack steps

pub knapsack_column : StepFails 1 both_signs [] knapsack_beyond
unfolding failure_within out-Step denote.Hole.Carrier.out roll-Step denote.Hole.Carrier.roll forms_of row_shape gcd gcd_of lowest holds_at_bits holds_of_all meets_at
knapsack_column = refl

pub knapsack_none : StepFails 1 both_signs [] knapsack_of_nothing
unfolding failure_within out-Step denote.Hole.Carrier.out roll-Step denote.Hole.Carrier.roll forms_of row_shape gcd gcd_of lowest holds_at_bits holds_of_all meets_at
knapsack_none = refl

pub knapsack_other_sign : StepFails 7 both_signs [] other_sign
unfolding failure_within out-Step denote.Hole.Carrier.out roll-Step denote.Hole.Carrier.roll forms_of row_shape gcd gcd_of lowest holds_at_bits holds_of_all meets_at
knapsack_other_sign = refl

pub knapsack_greater : StepFails 8 both_signs [] greater_value
unfolding failure_within out-Step denote.Hole.Carrier.out roll-Step denote.Hole.Carrier.roll forms_of row_shape gcd gcd_of lowest holds_at_bits holds_of_all meets_at
knapsack_greater = refl

pub knapsack_right : StepPasses both_signs [] right_knapsack
unfolding failure_within out-Step denote.Hole.Carrier.out roll-Step denote.Hole.Carrier.roll forms_of row_shape gcd gcd_of lowest holds_at_bits holds_of_all meets_at
knapsack_right = refl

-- ---- known lists

pub first_step : FailsAt (step 0) 5 one_column [] (derivation (thirding ∷ take_of (by.Step 9) ∷ [])) at_most_one
unfolding failure_within out-Step denote.Hole.Carrier.out roll-Step denote.Hole.Carrier.roll forms_of row_shape gcd gcd_of lowest
first_step = refl

pub second_step : FailsAt (step 1) 1 one_column [] (derivation (halving ∷ take_of (by.Step 9) ∷ [])) at_most_one
unfolding failure_within out-Step denote.Hole.Carrier.out roll-Step denote.Hole.Carrier.roll forms_of row_shape gcd gcd_of lowest
second_step = refl

pub step_before_end : FailsAt (step 0) 5 one_column [] by_three (at_least (pos 1) (pos 7))
unfolding failure_within out-Step denote.Hole.Carrier.out roll-Step denote.Hole.Carrier.roll forms_of row_shape gcd gcd_of lowest
step_before_end = refl

pub other_cut : FailsAt [] 10 one_column [] halved (at_least (pos 1) (pos 7))
unfolding failure_within out-Step denote.Hole.Carrier.out roll-Step denote.Hole.Carrier.roll forms_of row_shape gcd gcd_of lowest
other_cut = refl

-- ---- more pairs

pub sum_column_wide : StepFails 1 one_column [] wide_beyond
unfolding failure_within out-Step denote.Hole.Carrier.out roll-Step denote.Hole.Carrier.roll forms_of row_shape gcd gcd_of lowest
sum_column_wide = refl

pub sum_negative_wide : StepFails 2 one_column [] wide_negative
unfolding failure_within out-Step denote.Hole.Carrier.out roll-Step denote.Hole.Carrier.roll forms_of row_shape gcd gcd_of lowest
sum_negative_wide = refl

pub sum_zero_wide : StepFails 2 one_column [] wide_by_zero
unfolding failure_within out-Step denote.Hole.Carrier.out roll-Step denote.Hole.Carrier.roll forms_of row_shape gcd gcd_of lowest
sum_zero_wide = refl

pub sum_negative_last : StepFails 2 one_column [] negative_last
unfolding failure_within out-Step denote.Hole.Carrier.out roll-Step denote.Hole.Carrier.roll forms_of row_shape gcd gcd_of lowest
sum_negative_last = refl

pub knapsack_none_wide : StepFails 1 both_signs [] wide_of_nothing
unfolding failure_within out-Step denote.Hole.Carrier.out roll-Step denote.Hole.Carrier.roll forms_of row_shape gcd gcd_of lowest holds_at_bits holds_of_all meets_at
knapsack_none_wide = refl
