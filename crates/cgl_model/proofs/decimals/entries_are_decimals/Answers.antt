use Rattle.std.proofs.Common.{arith}
use Rattle.cgl_num.specs.Decimal.{IsDecimal}
use Rattle.cgl_model.proofs.ListLaws.{more_hold, all_hold}
use Rattle.cgl_model.proofs.decimals.entries_are_decimals.Goals as goal

pub loop-entry-preserved : goal.loop-entry-preserved
loop-entry-preserved c = more_hold (λ e. IsDecimal e.1) c.args.entries.now c.loop-entry.entry-index c.entry-item.result (omega arith) c.entry-item.is c.loop-entry.invariant c.m-m.ensures.valid

pub returns : goal.returns
returns c = all_hold (λ e. IsDecimal e.1) c.args.entries.now c.loop-entry.entry-index (omega arith) c.loop-entry.invariant
