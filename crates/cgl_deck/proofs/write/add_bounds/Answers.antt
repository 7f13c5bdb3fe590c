use Rattle.cgl_deck.specs.DeckText.{bound_text}
use Rattle.cgl_deck.proofs.TurnLaws.{item_turn, items_ended, longer_nothing}
use Rattle.cgl_deck.proofs.write.add_bounds.Goals as goal

pub loop-column-init : goal.loop-column-init
loop-column-init c = longer_nothing c.args.output.now

pub loop-column-preserved : goal.loop-column-preserved
loop-column-preserved c =
    item_turn bound_text c.args.columns.now c.loop-column.column-index c.column-item.result _ _ _ c.loop-column-test.true c.column-item.is c.loop-column.invariant c.add_bound.ensures

pub returns : goal.returns
returns c = items_ended bound_text c.args.columns.now c.loop-column.column-index _ _ c.loop-column-test.false c.loop-column.invariant
