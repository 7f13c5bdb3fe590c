-- The items of a knapsack step: the literals of the inequality that it starts from, each with the magnitude of its
-- coefficient as its weight, and the magnitude of the claim's coefficient as its value.
use Rattle.std.specs.Prelude.{ℕ, ◌==◌, ℤ, ◌-ℤ◌, unsigned_abs, List, length, map, Option, Some, None, if◌then◌else◌}
use Rattle.cgl_model.specs.declared.linear.Ineq.{Ineq}
use Rattle.cgl_derive.specs.Knapsack.{capacity, coefficients, positive_total}
use Rattle.cgl_derive.specs.KnapsackLists.{coefficients_at, sizes}
use Rattle.cgl_check.specs.Tests.{is_small}

abbrev pub weights_of : Ineq → List ℕ
weights_of from = map (λ a. unsigned_abs a) (coefficients from.terms)

abbrev pub values_of : Ineq → Ineq → List ℤ
values_of from claim = sizes (coefficients_at from.terms claim.terms)

-- what the literals may count for together
abbrev pub leftover : Ineq → Ineq → ℤ
leftover from claim = positive_total (coefficients_at from.terms claim.terms) -ℤ claim.rhs

-- the capacity that a table is needed for: 0 where there are no items, which any capacity has room for
abbrev pub table_capacity : Ineq → ℕ
table_capacity from = if length from.terms == 0 then 0 else unsigned_abs (capacity from)

abbrev pub small_capacity : Ineq → Option ℕ
small_capacity from = if is_small from then Some (table_capacity from) else None
