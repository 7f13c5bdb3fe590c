use Rattle.cgl_check.proofs.OrderLaws.{knapsack_column, knapsack_greater, knapsack_none, knapsack_none_wide, knapsack_other_sign, knapsack_right}
use Rattle.cgl_check.proofs.orders.known_knapsack_steps.Goals as goal

pub returns-clause-column : goal.returns-clause-column
returns-clause-column c = knapsack_column

pub returns-clause-none : goal.returns-clause-none
returns-clause-none c = knapsack_none

pub returns-clause-form : goal.returns-clause-form
returns-clause-form c = knapsack_other_sign

pub returns-clause-value : goal.returns-clause-value
returns-clause-value c = knapsack_greater

pub returns-clause-right : goal.returns-clause-right
returns-clause-right c = knapsack_right

pub returns-clause-none_wide : goal.returns-clause-none_wide
returns-clause-none_wide c = knapsack_none_wide
