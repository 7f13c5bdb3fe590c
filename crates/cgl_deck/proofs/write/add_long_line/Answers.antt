use Rattle.cgl_num.specs.Decimal.{decimal_text}
use Rattle.cgl_deck.proofs.TurnLaws.{three_words}
use Rattle.cgl_deck.proofs.write.add_long_line.Goals as goal

pub returns : goal.returns
returns c =
    three_words c.args.first.now c.args.second.now (decimal_text c.args.number) _ _ _ _ _ c.add_word.ensures c.add_word-2.ensures c.add_number.ensures c.append.ensures
