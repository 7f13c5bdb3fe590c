use Rattle.cgl_deck.proofs.TurnLaws.{lower_and_upper}
use Rattle.cgl_deck.proofs.write.add_both.Goals as goal

pub returns : goal.returns
returns c =
    lower_and_upper c.args.name.now c.args.lo c.args.up c.is_upper_alone.result _ _ _ c.is_upper_alone.ensures c.if-is_upper_alone.false c.add_value-2.ensures c.add_value-3.ensures
