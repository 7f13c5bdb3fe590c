use Rattle.cgl_deck.specs.DeckText.{row_text}
use Rattle.cgl_deck.proofs.TurnLaws.{item_turn, items_ended, longer_nothing}
use Rattle.cgl_deck.proofs.write.add_rows.Goals as goal

pub loop-row-init : goal.loop-row-init
loop-row-init c = longer_nothing c.args.output.now

pub loop-row-preserved : goal.loop-row-preserved
loop-row-preserved c =
    item_turn row_text c.args.rows.now c.loop-row.row-index c.row-item.result _ _ _ c.loop-row-test.true c.row-item.is c.loop-row.invariant c.add_row.ensures

pub returns : goal.returns
returns c = items_ended row_text c.args.rows.now c.loop-row.row-index _ _ c.loop-row-test.false c.loop-row.invariant
