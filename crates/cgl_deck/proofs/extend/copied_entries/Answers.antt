use Rattle.std.proofs.Common.{arith}
use Rattle.cgl_deck.proofs.CutListLaws.{copy_turn}
use Rattle.cgl_deck.proofs.extend.copied_entries.Goals as goal

pub loop-entry-preserved : goal.loop-entry-preserved
loop-entry-preserved c =
    copy_turn c.loop-entry.copy c.push.new.self _ c.args.entries.now c.loop-entry.entry-index c.entry-item.result (omega arith) c.entry-item.is c.in_ok-push.ensures.ok c.loop-entry.invariant
