use Rattle.std.proofs.Common.{◌≡◌, ◌==◌, ℕ, List, Bool, false, ◌<◌, ◌-◌, length, get_or, arith, sym, refl}
use Rattle.std.proofs.lemmas.Bool.Decides.{nat_tests}
use Rattle.cgl_prooftext.proofs.NameLaws.{lower, upper, none}
use Rattle.cgl_prooftext.proofs.names.end.Goals as goal

filled : (text : List ℕ) (empty : Bool) → empty ≡ (length text == 0) → empty ≡ false → 0 < length text
filled text empty is found = grind (arith, nat_tests)

pub returns-then-letter-eq76 : goal.returns-then-letter-eq76
returns-then-letter-eq76 c =
    let some : 0 < length c.args.text.now = filled c.args.text.now c.is_empty.result c.is_empty.ensures c.if-is_empty.false in
    sym (lower c.args.text.now (get_or c.args.text.now (length c.args.text.now - 1) 0) some refl (omega arith))

pub returns-then-letter-eq85 : goal.returns-then-letter-eq85
returns-then-letter-eq85 c =
    let some : 0 < length c.args.text.now = filled c.args.text.now c.is_empty.result c.is_empty.ensures c.if-is_empty.false in
    sym (upper c.args.text.now (get_or c.args.text.now (length c.args.text.now - 1) 0) some refl (omega arith))

pub returns : goal.returns
returns c =
    let some : 0 < length c.args.text.now = filled c.args.text.now c.is_empty.result c.is_empty.ensures c.if-is_empty.false in
    sym (none c.args.text.now (get_or c.args.text.now (length c.args.text.now - 1) 0) some refl c.if-letter-eq76.false c.if-letter-eq85.false)
