use Rattle.std.proofs.Common.{rules, arith, ◌≡◌, ◌≤◌, ◌<◌, ◌-◌, ◌+◌, ◌^◌, refl, sym, ap, ◌∙◌, to_z, of_z, Some}
use Rattle.std.specs.Prelude.{pos, negsuc, int_lt, ◌+ℤ◌, ◌≤ℤ◌}
use Rattle.std.specs.Int.{w128, w16}
use Rattle.std.proofs.lemmas.Int.{ints, to_z-of_z}
use Rattle.cgl_num.proofs.DecimalLaws.{zero-is, tens_mono, two}
use Rattle.cgl_num.proofs.NumberLawsRange.{from_less, from_not_less, sum_read}
use Rattle.cgl_num.proofs.NumberLawsValue.{number_zero, number_long, number_large, number_small, number_some, times_under}
use Rattle.cgl_num.proofs.number_text.Parts.decimal.Goals as goal

pub returns-then-digits-eq0 : goal.returns-then-digits-eq0
returns-then-digits-eq0 c text is = c.whole.ensures ∙ zero-is ∙ sym (number_zero text _ _ _ _ _ is c.if-digits-eq0.true)

pub returns-then-digits-gt-KEPT : goal.returns-then-digits-gt-KEPT
returns-then-digits-gt-KEPT c text is =
    sym (number_long text _ _ _ _ _ is (omega arith) (c.args.self.digits.some (omega arith)) c.if-digits-gt-KEPT.true)

pub returns-then-above-gt-SIZE_END : goal.returns-then-above-gt-SIZE_END
returns-then-above-gt-SIZE_END c text is =
    let sum : to_z w128 (of_z w128 c.sum-above.result) ≡ c.args.self.scale +ℤ pos c.args.self.digits.size = sum_read c.sum-above.result c.args.self.scale c.args.self.digits.size (search rules) (search rules) c.sum-above.ensures in
    sym (number_large text _ _ _ _ _ is (omega arith) (from_less _ _ (ap (λ x. int_lt (pos 36) x) (sym sum) ∙ c.if-above-gt-SIZE_END.true)))

pub returns-then-e-lt-LEAST_SCALE : goal.returns-then-e-lt-LEAST_SCALE
returns-then-e-lt-LEAST_SCALE c text is =
    let sum : to_z w128 (of_z w128 c.sum-e.result) ≡ c.args.self.scale +ℤ pos c.args.self.digits.zeros = sum_read c.sum-e.result c.args.self.scale c.args.self.digits.zeros (search rules) (search rules) c.sum-e.ensures in
    sym (number_small text _ _ _ _ _ is (omega arith) (from_less _ _ (ap (λ x. int_lt x (negsuc 29)) (sym sum) ∙ c.if-e-lt-LEAST_SCALE.true)))

pub with_sign-requires-clause-digits : goal.with_sign-requires-clause-digits
with_sign-requires-clause-digits c =
    let below = c.args.self.digits.below (omega arith) in
    omega (arith, below, tens_mono (c.args.self.digits.size - c.args.self.digits.zeros) 24 (omega arith))

pub with_sign-requires-clause-size : goal.with_sign-requires-clause-size
with_sign-requires-clause-size c k at =
    let sum : to_z w128 (of_z w128 c.sum-above.result) ≡ c.args.self.scale +ℤ pos c.args.self.digits.size = sum_read c.sum-above.result c.args.self.scale c.args.self.digits.size (search rules) (search rules) c.sum-above.ensures in
    let size : (c.args.self.scale +ℤ pos c.args.self.digits.size) ≤ℤ pos 36 = from_not_less _ _ (ap (λ x. int_lt (pos 36) x) (sym sum) ∙ c.if-above-gt-SIZE_END.false) in
    let sum_e : to_z w128 (of_z w128 c.sum-e.result) ≡ c.args.self.scale +ℤ pos c.args.self.digits.zeros = sum_read c.sum-e.result c.args.self.scale c.args.self.digits.zeros (search rules) (search rules) c.sum-e.ensures in
    let e : to_z w16 (of_z w16 c.narrow.result) ≡ c.args.self.scale +ℤ pos c.args.self.digits.zeros = to_z-of_z w16 c.narrow.result (search rules) ∙ c.narrow.ensures ∙ sum_e in
    let e_at : c.args.self.scale +ℤ pos c.args.self.digits.zeros ≡ pos k = sym e ∙ at in
    let less = c.args.self.digits.some (omega arith) in
    let small : c.args.self.digits.size - c.args.self.digits.zeros + k ≤ 36 = omega (arith, ints, size, e_at, less) in
    times_under c.args.self.digits.value _ k 36 (c.args.self.digits.below (omega arith)) small

pub returns : goal.returns
returns c text is =
    let above : to_z w128 (of_z w128 c.sum-above.result) ≡ c.args.self.scale +ℤ pos c.args.self.digits.size = sum_read c.sum-above.result c.args.self.scale c.args.self.digits.size (search rules) (search rules) c.sum-above.ensures in
    let size : (c.args.self.scale +ℤ pos c.args.self.digits.size) ≤ℤ pos 36 = from_not_less _ _ (ap (λ x. int_lt (pos 36) x) (sym above) ∙ c.if-above-gt-SIZE_END.false) in
    let sum : to_z w128 (of_z w128 c.sum-e.result) ≡ c.args.self.scale +ℤ pos c.args.self.digits.zeros = sum_read c.sum-e.result c.args.self.scale c.args.self.digits.zeros (search rules) (search rules) c.sum-e.ensures in
    let fine : negsuc 29 ≤ℤ (c.args.self.scale +ℤ pos c.args.self.digits.zeros) = from_not_less _ _ (ap (λ x. int_lt x (negsuc 29)) (sym sum) ∙ c.if-e-lt-LEAST_SCALE.false) in
    let e : to_z w16 (of_z w16 c.narrow.result) ≡ c.args.self.scale +ℤ pos c.args.self.digits.zeros = to_z-of_z w16 c.narrow.result (search rules) ∙ c.narrow.ensures ∙ sum in
    let below = c.args.self.digits.below (omega arith) in
    let digits : c.args.self.digits.value < 10 ^ 24 =
    omega (arith, below, tens_mono (c.args.self.digits.size - c.args.self.digits.zeros) 24 (omega arith)) in
    ap Some (c.with_sign.ensures ∙ two _ _ _ _ refl e) ∙ sym (number_some text _ _ _ _ _ is (omega arith) (omega arith) digits size fine)

pub whole-requires : goal.whole-requires
whole-requires c = search rules

pub overflow_sub-digits : goal.overflow_sub-digits
overflow_sub-digits c = search rules

pub sum-above-requires : goal.sum-above-requires
sum-above-requires c = search rules

pub sum-e-requires : goal.sum-e-requires
sum-e-requires c = search rules

pub narrow-requires : goal.narrow-requires
narrow-requires c = search rules

pub with_sign-requires-clause-normal : goal.with_sign-requires-clause-normal
with_sign-requires-clause-normal c = search rules

pub with_sign-requires-clause-scale : goal.with_sign-requires-clause-scale
with_sign-requires-clause-scale c = search rules
