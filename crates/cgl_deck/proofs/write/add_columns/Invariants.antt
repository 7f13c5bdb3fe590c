use Rattle.std.proofs.Common.{drop, false}
use Rattle.cgl_deck.specs.DeckText.{columns_text}
use Rattle.cgl_deck.proofs.TurnLaws.{Awaits}
use Rattle.cgl_deck.proofs.write.add_columns.Given as goal

abbrev pub invariant-loop-column : goal.invariant-loop-column
invariant-loop-column l = Awaits (columns_text l.rows l.before (drop l.column-index l.columns)) (columns_text l.rows false l.columns) l.initial.output l.output
