use Rattle.std.proofs.Common.{◌≡◌, ◌+◌, arith, ap, sym, ◌∙◌, decimal, length, max, to_z, of_z}
use Rattle.std.specs.Prelude.{unsigned_abs, pos}
use Rattle.std.specs.Int.{w16}
use Rattle.std.specs.Int.Signed.{lt_z}
use Rattle.std.proofs.lemmas.Int.{to_z-of_z}
use Rattle.cgl_num.specs.Decimal.{minus}
use Rattle.cgl_num.proofs.TextLengthLaws.{point_text, whole_text}
use Rattle.cgl_num.proofs.decimal.Dec.text_len.Goals as goal

pub returns-then-e-lt0 : goal.returns-then-e-lt0
returns-then-e-lt0 c =
    let read_e : to_z w16 (of_z w16 c.e-e.result) ≡ c.args.self.e = to_z-of_z w16 _ (record { sfits = c.e-e.type_inv }) ∙ c.e-e.ensures.value in
    let h = ap (λ e. lt_z e (pos 0)) (sym read_e) ∙ c.if-e-lt0.true in
    let sign = c.sign_len-sign.ensures.len ∙ ap (λ b. length (minus b)) c.is_negative.ensures in
    let count = c.digit_count-count.ensures.count ∙ ap (λ m. length (decimal m)) c.magnitude.ensures.value in
    let scale = c.unsigned_abs-scale.ensures.value ∙ ap unsigned_abs read_e in
    let longer = c.max.ensures ∙ ap (λ k. max c.digit_count-count.result (k + 1)) scale in
    omega (arith, sign, longer, point_text c.args.self c.digit_count-count.result c.e-e.ensures.valid h count)

pub returns-else-e-lt0 : goal.returns-else-e-lt0
returns-else-e-lt0 c =
    let read_e : to_z w16 (of_z w16 c.e-e.result) ≡ c.args.self.e = to_z-of_z w16 _ (record { sfits = c.e-e.type_inv }) ∙ c.e-e.ensures.value in
    let h = ap (λ e. lt_z e (pos 0)) (sym read_e) ∙ c.if-e-lt0.false in
    let sign = c.sign_len-sign.ensures.len ∙ ap (λ b. length (minus b)) c.is_negative.ensures in
    let count = c.digit_count-count.ensures.count ∙ ap (λ m. length (decimal m)) c.magnitude.ensures.value in
    let scale = c.unsigned_abs-scale.ensures.value ∙ ap unsigned_abs read_e in
    omega (arith, sign, scale, whole_text c.args.self c.digit_count-count.result c.e-e.ensures.valid h count)
