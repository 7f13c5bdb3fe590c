use Rattle.cgl_check.proofs.DeepLaws.{deep_column, deep_depth, deep_over}
use Rattle.cgl_check.proofs.OrderLaws.{both_right, cases_column, cases_continuous, cases_wide, left_end, left_failure, right_end, right_failure}
use Rattle.cgl_check.proofs.orders.known_cases.Goals as goal

pub returns-clause-column : goal.returns-clause-column
returns-clause-column c = deep_column

pub returns-clause-over : goal.returns-clause-over
returns-clause-over c = cases_column

pub returns-clause-deep : goal.returns-clause-deep
returns-clause-deep c = deep_depth

pub returns-clause-continuous : goal.returns-clause-continuous
returns-clause-continuous c = cases_continuous

pub returns-clause-wide : goal.returns-clause-wide
returns-clause-wide c = cases_wide

pub returns-clause-left : goal.returns-clause-left
returns-clause-left c = left_failure

pub returns-clause-left_end : goal.returns-clause-left_end
returns-clause-left_end c = left_end

pub returns-clause-right : goal.returns-clause-right
returns-clause-right c = right_failure

pub returns-clause-right_end : goal.returns-clause-right_end
returns-clause-right_end c = right_end

pub returns-clause-both : goal.returns-clause-both
returns-clause-both c = both_right

pub returns-clause-over_deep : goal.returns-clause-over_deep
returns-clause-over_deep c = deep_over
