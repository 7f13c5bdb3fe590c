use Rattle.std.proofs.Common.{false}
use Rattle.cgl_deck.specs.DeckText.{columns_text}
use Rattle.cgl_deck.proofs.TurnLaws.{all_to_come, column_turn, columns_ended}
use Rattle.cgl_deck.proofs.write.add_columns.Goals as goal

pub loop-column-init : goal.loop-column-init
loop-column-init c = all_to_come (columns_text c.args.rows.now false c.args.columns.now) c.args.output.now

pub loop-column-preserved : goal.loop-column-preserved
loop-column-preserved c =
    column_turn c.args.rows.now c.args.columns.now c.loop-column.column-index c.column-item.result c.loop-column.before _ _ _ _ _ c.loop-column-test.true c.column-item.is
    c.loop-column.invariant c.add_marker.ensures c.add_column.ensures

pub returns : goal.returns
returns c =
    columns_ended c.args.rows.now c.args.columns.now c.loop-column.column-index c.loop-column.before _ _ _ _ c.loop-column-test.false c.loop-column.invariant c.add_marker-2.ensures
