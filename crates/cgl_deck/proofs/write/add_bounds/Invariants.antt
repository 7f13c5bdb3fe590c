use Rattle.std.proofs.Common.{flat_map, take}
use Rattle.cgl_deck.specs.DeckOutput.{Longer}
use Rattle.cgl_deck.specs.DeckText.{bound_text}
use Rattle.cgl_deck.proofs.write.add_bounds.Given as goal

abbrev pub invariant-loop-column : goal.invariant-loop-column
invariant-loop-column l = Longer (flat_map bound_text (take l.column-index l.columns)) l.initial.output l.output
