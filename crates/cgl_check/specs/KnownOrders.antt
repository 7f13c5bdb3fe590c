-- Steps that fail in each way at once, and then the same with one failure mended after the other.
use Rattle.std.specs.Prelude.{ℕ, zero, suc, ◌^◌, ℤ, pos, negsuc, ◌-ℤ◌, List, [], ◌∷◌}
use Rattle.cgl_model.specs.declared.linear.Ineq.{Ineq}
use Rattle.cgl_model.specs.declared.places.End.TheVariants.{Lower, Upper}
use Rattle.cgl_model.specs.Inequality.{Term}
use Rattle.cgl_derive.specs.declared.step.Derivation.{Derivation}
use Rattle.cgl_derive.specs.declared.step.Ref.{Ref}
use Rattle.cgl_derive.specs.declared.step.Ref.TheVariants as by
use Rattle.cgl_derive.specs.declared.step.Split.{Split}
use Rattle.cgl_derive.specs.declared.step.Step.TheOpen as step
use Rattle.cgl_derive.specs.Derives.{Layer}
use Rattle.cgl_derive.specs.KnownDerivations.{at_least, at_most_one, end_of_row, ineq, lin, other_column, round, summed}
use Rattle.cgl_derive.specs.KnownKnapsacks.{complemented, end_of_first, great_multiple, knap, turned}
use Rattle.cgl_derive.specs.KnownSplits.{greatest, nothing_said, split}
use Rattle.cgl_derive.specs.Layers.{derivation}

-- ---- sums over `-2x >= -3`

abbrev pub row_by : ℤ → List (Ref × ℤ)
row_by times = (end_of_row Upper, times) ∷ []

-- the row, and a claim that is not there
abbrev pub lacking : ℤ → List (Ref × ℤ)
lacking times = (end_of_row Upper, times) ∷ (by.Step 0, pos 1) ∷ []

-- a column beyond the model, a negative multiplier and q = 0, no reference, too wide, and another sum
abbrev pub sum_beyond : Layer
sum_beyond = lin (pos 0) (lacking (pos 0 -ℤ pos (2 ^ 126))) other_column

abbrev pub sum_negative : Layer
sum_negative = lin (pos 0) (lacking (pos 0 -ℤ pos (2 ^ 126))) at_most_one

abbrev pub sum_by_zero : Layer
sum_by_zero = lin (pos 0) (lacking (pos (2 ^ 126))) at_most_one

abbrev pub sum_of_nothing : Layer
sum_of_nothing = lin (pos 1) (lacking (pos (2 ^ 126))) at_most_one

-- two of these ways without a reference to nothing: each with a sum that is too wide
abbrev pub wide_beyond : Layer
wide_beyond = lin (pos 1) (row_by (pos (2 ^ 126))) other_column

abbrev pub wide_negative : Layer
wide_negative = lin (pos 1) (row_by (pos 0 -ℤ pos (2 ^ 126))) at_most_one

abbrev pub wide_by_zero : Layer
wide_by_zero = lin (pos 0) (row_by (pos (2 ^ 126))) at_most_one

-- a negative multiplier behind a reference to nothing
abbrev pub negative_last : Layer
negative_last = lin (pos 1) ((by.Step 0, pos 1) ∷ (end_of_row Upper, negsuc 0) ∷ []) at_most_one

abbrev pub wide_sum : Layer
wide_sum = lin (pos 1) (row_by (pos (2 ^ 126))) at_most_one

abbrev pub other_sum : Layer
other_sum = lin (pos 1) (row_by (pos 1)) at_most_one

abbrev pub right_sum : Layer
right_sum = lin (pos 1) (row_by (pos 1)) (at_least (negsuc 1) (negsuc 2))

-- ---- divisions over `-2x + s >= -3`

-- z >= 1 for a third column
abbrev pub third_column : Ineq
third_column = ineq ((2, pos 1) ∷ []) (pos 1)

-- a column beyond the model, or no reference; no divisor, a continuous column, and another quotient
abbrev pub quotient_beyond : Layer
quotient_beyond = round (pos 0) (end_of_row Upper) third_column

abbrev pub quotient_of_nothing : Layer
quotient_of_nothing = round (pos 0) (by.Step 0) at_most_one

abbrev pub by_zero : Layer
by_zero = round (pos 0) (end_of_row Upper) at_most_one

abbrev pub by_two : Layer
by_two = round (pos 2) (end_of_row Upper) at_most_one

abbrev pub of_continuous : Layer
of_continuous = round (pos 1) (end_of_row Upper) at_most_one

-- from x >= 0
abbrev pub other_quotient : Layer
other_quotient = round (pos 1) (end_of_first Lower) at_most_one

abbrev pub right_quotient : Layer
right_quotient = round (pos 1) (end_of_first Lower) (at_least (pos 1) (pos 0))

-- ---- cases

-- 0 >= -1
abbrev pub weak : Ineq
weak = ineq [] (negsuc 0)

-- a list with a failure that ends in another claim, one that ends in another claim, and one that is right
abbrev pub failing : Derivation
failing = summed ((by.Step 0, pos 1) ∷ []) nothing_said

abbrev pub ending : Derivation
ending = summed [] nothing_said

abbrev pub proving : Derivation
proving = summed [] weak

-- over the column j
abbrev pub over : ℕ → List Term
over j = (j, pos 1) ∷ []

-- a column beyond the model in the claim or in p; p over a continuous column; p0 too great; and both lists
abbrev pub cases_beyond : Split
cases_beyond = split (over 1) greatest failing failing third_column

abbrev pub cases_over_beyond : Split
cases_over_beyond = split (over 2) greatest failing failing weak

abbrev pub cases_over_continuous : Split
cases_over_continuous = split (over 1) greatest failing failing weak

abbrev pub wide_cases : Split
wide_cases = split (over 0) greatest failing failing weak

abbrev pub cases_by : Derivation → Derivation → Layer
cases_by left right = step.Split (split (over 0) (pos 0) left right weak)

-- a step in the left list of a split, which is in the left list of a split, and so on: n of them
unfoldable pub within : ℕ → Layer → Derivation
within zero layer = derivation (layer ∷ [])
within (suc n) layer = derivation (cases_by (within n layer) (derivation []) ∷ [])

-- ---- knapsacks over `-3a - 4b + 5c >= -3`

-- d >= 1 for a fourth column
abbrev pub fourth_column : Ineq
fourth_column = ineq ((3, pos 1) ∷ []) (pos 1)

-- -b + c >= 1
abbrev pub too_strong : Ineq
too_strong = ineq ((1, negsuc 0) ∷ (2, pos 1) ∷ []) (pos 1)

-- a column beyond the model, or no reference; another sign, and a value that is too great
abbrev pub knapsack_beyond : Layer
knapsack_beyond = knap (end_of_row Upper) fourth_column

abbrev pub knapsack_of_nothing : Layer
knapsack_of_nothing = knap (by.Step 0) turned

-- no reference, and a claim that is too wide
abbrev pub wide_of_nothing : Layer
wide_of_nothing = knap (by.Step 0) (great_multiple (pos (2 ^ 126)))

abbrev pub other_sign : Layer
other_sign = knap (end_of_row Upper) turned

abbrev pub greater_value : Layer
greater_value = knap (end_of_row Upper) too_strong

abbrev pub right_knapsack : Layer
right_knapsack = knap (end_of_row Upper) complemented

-- ---- lists over `-2x >= -3`

-- -2x >= -3 divided by 2 and by 3
abbrev pub halving : Layer
halving = round (pos 2) (end_of_row Upper) at_most_one

abbrev pub thirding : Layer
thirding = round (pos 3) (end_of_row Upper) at_most_one

-- what a reference means, as it stands
abbrev pub take_of : Ref → Layer
take_of from = lin (pos 1) ((from, pos 1) ∷ []) at_most_one

-- behind the first claim, cases by these lists
abbrev pub after_halving : List Layer → List Layer → Derivation
after_halving left right = derivation (halving ∷ step.Split (split (over 0) (pos 1) (derivation left) (derivation right) at_most_one) ∷ [])

-- the cases inside the right list, with this left list
abbrev pub cases_inside : List Layer → Layer
cases_inside left = step.Split (split (over 0) (pos 3) (derivation left) (derivation (take_of (by.Step 0) ∷ [])) at_most_one)
