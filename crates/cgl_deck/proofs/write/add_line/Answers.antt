use Rattle.std.proofs.Common.{map}
use Rattle.cgl_deck.specs.DeckText.{data_line}
use Rattle.cgl_deck.proofs.TurnLaws.{all_to_come, line_ended, word_turn}
use Rattle.cgl_deck.proofs.write.add_line.Goals as goal

pub loop-word-init : goal.loop-word-init
loop-word-init c = all_to_come (data_line (map (λ word. word.now) c.args.words.now)) c.args.output.now

pub loop-word-preserved : goal.loop-word-preserved
loop-word-preserved c =
    word_turn (λ word. word.now) c.args.words.now c.loop-word.word-index _ _ _ _ _ c.loop-word-test.true c.loop-word.invariant c.add_word.ensures

pub returns : goal.returns
returns c = line_ended (λ word. word.now) c.args.words.now c.loop-word.word-index _ _ _ _ c.loop-word-test.false c.loop-word.invariant c.append.ensures
