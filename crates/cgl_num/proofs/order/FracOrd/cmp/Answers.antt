use Rattle.std.proofs.Common.{sym, ◌∙◌}
use Rattle.cgl_num.proofs.TotalOrderLaws.{order_is}
use Rattle.cgl_num.proofs.order.FracOrd.cmp.Goals as goal

pub returns : goal.returns
returns c = c.compare.ensures.order ∙ sym (order_is c.args.self.now c.args.other.now c.compare.ensures.left c.compare.ensures.right)
