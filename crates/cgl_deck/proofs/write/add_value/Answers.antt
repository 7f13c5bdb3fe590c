use Rattle.std.proofs.Common.{◌∷◌, codes}
use Rattle.cgl_num.specs.Decimal.{decimal_text}
use Rattle.cgl_deck.proofs.TurnLaws.{longer_then, three_words}
use Rattle.cgl_deck.proofs.write.add_value.Goals as goal

pub returns : goal.returns
returns c =
    longer_then (32 ∷ c.args.kind.now) _ _ _ _ c.add_word.ensures
    (three_words (codes "BND") c.args.name.now (decimal_text c.args.value) _ _ _ _ _ c.add_word-2.ensures c.add_word-3.ensures c.add_number.ensures c.append.ensures)
