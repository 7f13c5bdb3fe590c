use Rattle.cgl_deck.specs.DeckText.{entry_text}
use Rattle.cgl_deck.proofs.TurnLaws.{item_turn, items_ended}
use Rattle.cgl_deck.proofs.write.add_column.Goals as goal

pub loop-entry-preserved : goal.loop-entry-preserved
loop-entry-preserved c =
    let column = c.args.column.now in
    let below = rw c.as_slice-entries.ensures at c.loop-entry-test.true in
    let is = rw c.as_slice-entries.ensures at c.entry-item.is in
    let line = rw (c.as_slice-name.ensures, c.name_of_row.ensures) at c.add_number_line.ensures in
    item_turn (entry_text c.args.rows.now column.name) column.entries c.loop-entry.entry-index c.entry-item.result _ _ _ below is c.loop-entry.invariant line

pub returns : goal.returns
returns c =
    let end = rw c.as_slice-entries.ensures at c.loop-entry-test.false in
    items_ended (entry_text c.args.rows.now c.args.column.now.name) c.args.column.now.entries c.loop-entry.entry-index _ _ end c.loop-entry.invariant
