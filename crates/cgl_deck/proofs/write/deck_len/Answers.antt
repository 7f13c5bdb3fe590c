use Rattle.std.proofs.Common.{arith}
use Rattle.cgl_deck.proofs.write.deck_len.Goals as goal

pub returns : goal.returns
returns c = omega (arith, c.add_deck.ensures.len 0 c.counting-output.ensures)
