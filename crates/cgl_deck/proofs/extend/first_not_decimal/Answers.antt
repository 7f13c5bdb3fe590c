use Rattle.std.proofs.Common.{arith}
use Rattle.cgl_deck.specs.Extended.{is_decimal}
use Rattle.cgl_deck.proofs.ListLaws.{all_pass, first_fails, next_passes}
use Rattle.cgl_deck.proofs.extend.first_not_decimal.Goals as goal

pub loop-k-preserved : goal.loop-k-preserved
loop-k-preserved c = next_passes is_decimal c.args.cuts.now c.loop-k.k c.index-cuts-k.result c.has_decimals.result (omega arith) c.index-cuts-k.is c.has_decimals.ensures c.if-not-has_decimals.false c.loop-k.invariant

pub returns-then-not-has_decimals : goal.returns-then-not-has_decimals
returns-then-not-has_decimals c = first_fails is_decimal c.args.cuts.now c.loop-k.k c.index-cuts-k.result c.has_decimals.result (omega arith) c.index-cuts-k.is c.has_decimals.ensures c.if-not-has_decimals.true c.loop-k.invariant

pub returns : goal.returns
returns c = all_pass is_decimal c.args.cuts.now c.loop-k.k (omega arith) c.loop-k.invariant
