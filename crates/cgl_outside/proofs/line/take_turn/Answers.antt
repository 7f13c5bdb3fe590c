use Rattle.std.proofs.Common.{◌≡◌, ◌<◌, false, [], refl, sym, ◌∙◌, arith}
use Rattle.cgl_outside.proofs.AheadLaws.{nothing_ahead}
use Rattle.cgl_outside.proofs.line.take_turn.Goals as goal

pub returns-then-is_empty-clause-says : goal.returns-then-is_empty-clause-says
returns-then-is_empty-clause-says c =
    let empty : c.args.ahead.now.ahead ≡ [] = sym c.bytes-bytes.ensures ∙ nothing_ahead c.bytes-bytes.result.now (sym c.if-is_empty.true ∙ c.is_empty.ensures) in
    let some : 0 < c.args.size = omega arith in
    (0, false, (record { empty = empty; some = some; new_is = refl }, refl), omega arith)
