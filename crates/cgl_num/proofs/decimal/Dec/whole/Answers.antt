use Rattle.std.proofs.Common.{rules, arith, ◌≡◌, sym, ◌∙◌, ap, Some, cond}
use Rattle.std.specs.Prelude.{unsigned_abs, pos}
use Rattle.std.specs.Int.{w128, w16}
use Rattle.std.specs.Int.Signed.{lt_z}
use Rattle.std.proofs.Common.{to_z, of_z}
use Rattle.std.proofs.lemmas.Int.{to_z-of_z, ints}
use Rattle.std.proofs.Math.IntN.{neg_ℤ}
use Rattle.cgl_num.specs.Decimal.{decimal_of}
use Rattle.cgl_num.proofs.DecimalLaws.{decimal-is, too_long, too_large, zero-is, with_sign, two}
use Rattle.cgl_num.proofs.decimal.Dec.whole.Goals as goal

pub returns-then-n-eq0 : goal.returns-then-n-eq0
returns-then-n-eq0 c = sym (ap decimal_of (search rules) ∙ zero-is ∙ ap Some (sym c.default.ensures))

pub returns-then-magnitude-ge-SIZE_END : goal.returns-then-magnitude-ge-SIZE_END
returns-then-magnitude-ge-SIZE_END c =
    let is : c.unsigned_abs-magnitude.result ≡ unsigned_abs c.args.n = search rules in
    sym (too_large c.args.n (omega (arith, is)))

pub returns-then-m-ge-MANTISSA_END : goal.returns-then-m-ge-MANTISSA_END
returns-then-m-ge-MANTISSA_END c = sym (too_long c.args.n c.without_zeros-m.result.0 c.without_zeros-m.result.1 c.without_zeros-m.ensures.normal (search rules) (omega arith))

pub returns : goal.returns
returns c =
    let is : c.unsigned_abs-magnitude.result ≡ unsigned_abs c.args.n = search rules in
    let sign : lt_z (to_z w128 (of_z w128 c.args.n)) (pos 0) ≡ lt_z c.args.n (pos 0) = ap (λ z. lt_z z (pos 0)) (to_z-of_z w128 c.args.n c.ranges.n) in
    let zeros : to_z w16 c.without_zeros-m.result.1 ≡ pos c.without_zeros-m.result.1 = omega (arith, ints) in
    let made : c.with_sign.result ≡ with_sign (lt_z c.args.n (pos 0)) c.without_zeros-m.result.0 c.without_zeros-m.result.1 =
    c.with_sign.ensures ∙ two _ _ _ _ (ap (λ b. cond b (neg_ℤ (pos c.without_zeros-m.result.0)) (pos c.without_zeros-m.result.0)) sign) zeros in
    ap Some made ∙ sym (decimal-is c.args.n _ _ c.without_zeros-m.ensures.normal (c.without_zeros-m.ensures.value ∙ is) c.if-m-ge-MANTISSA_END.false (omega (arith, is)))
