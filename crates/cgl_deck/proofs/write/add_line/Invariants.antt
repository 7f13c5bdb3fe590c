use Rattle.std.proofs.Common.{map, drop}
use Rattle.cgl_deck.specs.DeckText.{data_line}
use Rattle.cgl_deck.proofs.TurnLaws.{Awaits}
use Rattle.cgl_deck.proofs.write.add_line.Given as goal

abbrev pub invariant-loop-word : goal.invariant-loop-word
invariant-loop-word l = Awaits (data_line (map (λ word. word.now) (drop l.word-index l.words))) (data_line (map (λ word. word.now) l.words)) l.initial.output l.output
