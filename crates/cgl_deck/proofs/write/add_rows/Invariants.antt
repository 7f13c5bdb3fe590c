use Rattle.std.proofs.Common.{flat_map, take}
use Rattle.cgl_deck.specs.DeckOutput.{Longer}
use Rattle.cgl_deck.specs.DeckText.{row_text}
use Rattle.cgl_deck.proofs.write.add_rows.Given as goal

abbrev pub invariant-loop-row : goal.invariant-loop-row
invariant-loop-row l = Longer (flat_map row_text (take l.row-index l.rows)) l.initial.output l.output
