use Rattle.std.proofs.Common.{flat_map, take}
use Rattle.cgl_deck.specs.DeckOutput.{Longer}
use Rattle.cgl_deck.specs.DeckText.{entry_text}
use Rattle.cgl_deck.proofs.write.add_column.Given as goal

abbrev pub invariant-loop-entry : goal.invariant-loop-entry
invariant-loop-entry l = Longer (flat_map (entry_text l.rows l.column.name) (take l.entry-index l.column.entries)) l.initial.output l.output
