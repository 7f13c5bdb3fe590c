use Rattle.std.proofs.Common.{arith}
use Rattle.cgl_prooftext.proofs.OrderLaws.{by_length, by_bytes, before_is}
use Rattle.cgl_prooftext.proofs.order.is_below.Goals as goal

pub returns-then-a-b : goal.returns-then-a-b
returns-then-a-b c = by_length c.args.a.now c.args.b.now c.requires.a c.requires.b c.if-a-b.true

pub returns : goal.returns
returns c =
    by_bytes c.args.a.now c.args.b.now c.lt.result c.requires.a c.requires.b (omega arith)
    (before_is c.args.a.now c.args.b.now c.lt.result c.lt.ensures)
