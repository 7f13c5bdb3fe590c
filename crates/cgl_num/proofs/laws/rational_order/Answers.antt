use Rattle.cgl_num.proofs.OrderLaws.{one_floor}
use Rattle.cgl_num.proofs.TotalOrderLaws.{order_is}
use Rattle.cgl_num.proofs.laws.rational_order.Goals as goal

pub returns-clause-rationals : goal.returns-clause-rationals
returns-clause-rationals c = order_is

pub returns-clause-floor : goal.returns-clause-floor
returns-clause-floor c = one_floor
