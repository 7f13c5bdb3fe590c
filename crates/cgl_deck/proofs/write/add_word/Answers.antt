use Rattle.std.proofs.Common.{[], ◌∷◌}
use Rattle.cgl_deck.proofs.TurnLaws.{longer_then}
use Rattle.cgl_deck.proofs.write.add_word.Goals as goal

pub returns : goal.returns
returns c = longer_then (32 ∷ []) c.args.word.now _ _ _ c.append.ensures c.append-2.ensures
