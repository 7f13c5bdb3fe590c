use Rattle.cgl_check.proofs.OrderLaws.{divided_by_two, divided_by_zero, divided_continuous, quotient_column, quotient_none, quotient_other, quotient_right}
use Rattle.cgl_check.proofs.orders.known_divisions.Goals as goal

pub returns-clause-column : goal.returns-clause-column
returns-clause-column c = quotient_column

pub returns-clause-none : goal.returns-clause-none
returns-clause-none c = quotient_none

pub returns-clause-zero : goal.returns-clause-zero
returns-clause-zero c = divided_by_zero

pub returns-clause-divisor : goal.returns-clause-divisor
returns-clause-divisor c = divided_by_two

pub returns-clause-continuous : goal.returns-clause-continuous
returns-clause-continuous c = divided_continuous

pub returns-clause-quotient : goal.returns-clause-quotient
returns-clause-quotient c = quotient_other

pub returns-clause-right : goal.returns-clause-right
returns-clause-right c = quotient_right
