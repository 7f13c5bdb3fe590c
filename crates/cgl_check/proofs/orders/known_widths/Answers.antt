use Rattle.cgl_check.proofs.OrderLaws.{narrow_left, narrow_rhs, wide_coefficient, wide_left, wide_rhs, wide_right}
use Rattle.cgl_check.proofs.orders.known_widths.Goals as goal

pub returns-clause-left : goal.returns-clause-left
returns-clause-left c = wide_left

pub returns-clause-narrow : goal.returns-clause-narrow
returns-clause-narrow c = narrow_left

pub returns-clause-right : goal.returns-clause-right
returns-clause-right c = wide_right

pub returns-clause-coefficient : goal.returns-clause-coefficient
returns-clause-coefficient c = wide_coefficient

pub returns-clause-rhs : goal.returns-clause-rhs
returns-clause-rhs c = wide_rhs

pub returns-clause-small : goal.returns-clause-small
returns-clause-small c = narrow_rhs
