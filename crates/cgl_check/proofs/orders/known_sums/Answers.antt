use Rattle.cgl_check.proofs.OrderLaws.{sum_column, sum_column_wide, sum_multiplier, sum_negative_last, sum_negative_wide, sum_none, sum_other, sum_right, sum_wide, sum_zero, sum_zero_wide}
use Rattle.cgl_check.proofs.orders.known_sums.Goals as goal

pub returns-clause-column : goal.returns-clause-column
returns-clause-column c = sum_column

pub returns-clause-negative : goal.returns-clause-negative
returns-clause-negative c = sum_multiplier

pub returns-clause-zero : goal.returns-clause-zero
returns-clause-zero c = sum_zero

pub returns-clause-none : goal.returns-clause-none
returns-clause-none c = sum_none

pub returns-clause-wide : goal.returns-clause-wide
returns-clause-wide c = sum_wide

pub returns-clause-other : goal.returns-clause-other
returns-clause-other c = sum_other

pub returns-clause-right : goal.returns-clause-right
returns-clause-right c = sum_right

pub returns-clause-column_wide : goal.returns-clause-column_wide
returns-clause-column_wide c = sum_column_wide

pub returns-clause-negative_wide : goal.returns-clause-negative_wide
returns-clause-negative_wide c = sum_negative_wide

pub returns-clause-zero_wide : goal.returns-clause-zero_wide
returns-clause-zero_wide c = sum_zero_wide

pub returns-clause-negative_last : goal.returns-clause-negative_last
returns-clause-negative_last c = sum_negative_last
