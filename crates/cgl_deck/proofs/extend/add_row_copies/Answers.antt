use Rattle.std.proofs.Common.{arith}
use Rattle.cgl_deck.proofs.CutListLaws.{copy_turn}
use Rattle.cgl_deck.proofs.extend.add_row_copies.Goals as goal

pub loop-row-preserved : goal.loop-row-preserved
loop-row-preserved c =
    let added = rw c.as_slice-name.ensures at c.in_ok-add_row.ensures in
    copy_turn c.loop-row.copies c.add_row.new.rows _ c.args.rows.now c.loop-row.row-index c.row-item.result (omega arith) c.row-item.is added c.loop-row.invariant
