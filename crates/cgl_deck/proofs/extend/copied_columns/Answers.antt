use Rattle.std.proofs.Common.{arith}
use Rattle.cgl_deck.proofs.CutListLaws.{copy_turn}
use Rattle.cgl_deck.proofs.extend.copied_columns.Goals as goal

pub loop-column-preserved : goal.loop-column-preserved
loop-column-preserved c =
    copy_turn c.loop-column.copies c.add_column_copy.new.copies _ c.args.columns.now c.loop-column.column-index c.column-item.result (omega arith) c.column-item.is c.in_ok-add_column_copy.ensures c.loop-column.invariant
