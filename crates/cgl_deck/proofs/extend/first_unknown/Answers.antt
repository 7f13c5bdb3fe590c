use Rattle.std.proofs.Common.{arith}
use Rattle.cgl_deck.specs.Extended.{is_known}
use Rattle.cgl_deck.proofs.ListLaws.{all_pass, first_fails, next_passes}
use Rattle.cgl_deck.proofs.extend.first_unknown.Goals as goal

pub loop-k-preserved : goal.loop-k-preserved
loop-k-preserved c = next_passes (is_known c.args.model.now) c.args.cuts.now c.loop-k.k c.index-cuts-k.result c.names_known_columns.result (omega arith) c.index-cuts-k.is c.names_known_columns.ensures c.if-not-names_known_columns.false c.loop-k.invariant

pub returns-then-not-names_known_columns : goal.returns-then-not-names_known_columns
returns-then-not-names_known_columns c = first_fails (is_known c.args.model.now) c.args.cuts.now c.loop-k.k c.index-cuts-k.result c.names_known_columns.result (omega arith) c.index-cuts-k.is c.names_known_columns.ensures c.if-not-names_known_columns.true c.loop-k.invariant

pub returns : goal.returns
returns c = all_pass (is_known c.args.model.now) c.args.cuts.now c.loop-k.k (omega arith) c.loop-k.invariant
