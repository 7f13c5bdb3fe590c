use Rattle.std.proofs.Common.{[], ◌∷◌}
use Rattle.cgl_num.specs.Decimal.{decimal_text}
use Rattle.cgl_deck.proofs.TurnLaws.{longer_then}
use Rattle.cgl_deck.proofs.write.add_number.Goals as goal

pub returns : goal.returns
returns c = longer_then (32 ∷ []) (decimal_text c.args.number) _ _ _ c.append.ensures c.append_number.ensures
