use Rattle.std.proofs.Common.{rules, sym, ap, ◌∙◌, subst, ◌≤◌, ◌≡◌, ◌^◌, to_z, of_z}
use Rattle.std.specs.Prelude.{unsigned_abs, pos}
use Rattle.std.specs.Int.{w16}
use Rattle.std.specs.Int.Signed.{lt_z}
use Rattle.std.proofs.lemmas.Int.{to_z-of_z}
use Rattle.cgl_num.specs.Decimal.{minus}
use Rattle.cgl_num.proofs.DecimalLaws.{power_fits, whole_length, whole_digits, point_digits}
use Rattle.cgl_num.proofs.decimal.Dec.digits.Goals as goal

pub pow-requires : goal.pow-requires
pow-requires c =
    let read_e : to_z w16 (of_z w16 c.e-e.result) ≡ c.args.self.e = to_z-of_z w16 _ (record { sfits = c.e-e.type_inv }) ∙ c.e-e.ensures.value in
    let h = ap (λ e. lt_z e (pos 0)) (sym read_e) ∙ c.if-e-lt0.false in
    let small = power_fits c.args.self c.e-e.ensures.valid h in
    search (rules, small)

pub put_number-requires : goal.put_number-requires
put_number-requires c =
    let read_e : to_z w16 (of_z w16 c.e-e.result) ≡ c.args.self.e = to_z-of_z w16 _ (record { sfits = c.e-e.type_inv }) ∙ c.e-e.ensures.value in
    let h = ap (λ e. lt_z e (pos 0)) (sym read_e) ∙ c.if-e-lt0.false in
    let p_is = c.pow.ensures ∙ ap (λ e. 10 ^ unsigned_abs e) read_e in
    whole_length c.args.self _ _ _ c.e-e.ensures.valid h c.magnitude-m.ensures.value p_is c.put_sign-at.ensures.within

pub returns-then-e-lt0-clause-text : goal.returns-then-e-lt0-clause-text
returns-then-e-lt0-clause-text c =
    let read_e : to_z w16 (of_z w16 c.e-e.result) ≡ c.args.self.e = to_z-of_z w16 _ (record { sfits = c.e-e.type_inv }) ∙ c.e-e.ensures.value in
    let h = ap (λ e. lt_z e (pos 0)) (sym read_e) ∙ c.if-e-lt0.true in
    let k_is = c.unsigned_abs.ensures.value ∙ ap unsigned_abs read_e in
    let sign = c.put_sign-at.ensures.text ∙ ap minus c.is_negative.ensures in
    point_digits c.args.self _ _ _ _ h c.magnitude-m.ensures.value k_is sign c.put_decimals.ensures.text

pub returns-else-e-lt0-clause-text : goal.returns-else-e-lt0-clause-text
returns-else-e-lt0-clause-text c =
    let read_e : to_z w16 (of_z w16 c.e-e.result) ≡ c.args.self.e = to_z-of_z w16 _ (record { sfits = c.e-e.type_inv }) ∙ c.e-e.ensures.value in
    let h = ap (λ e. lt_z e (pos 0)) (sym read_e) ∙ c.if-e-lt0.false in
    let p_is = c.pow.ensures ∙ ap (λ e. 10 ^ unsigned_abs e) read_e in
    let sign = c.put_sign-at.ensures.text ∙ ap minus c.is_negative.ensures in
    whole_digits c.args.self _ _ _ _ h c.magnitude-m.ensures.value p_is sign c.put_number.ensures.text

pub returns-else-e-lt0-clause-within : goal.returns-else-e-lt0-clause-within
returns-else-e-lt0-clause-within c =
    let read_e : to_z w16 (of_z w16 c.e-e.result) ≡ c.args.self.e = to_z-of_z w16 _ (record { sfits = c.e-e.type_inv }) ∙ c.e-e.ensures.value in
    let h = ap (λ e. lt_z e (pos 0)) (sym read_e) ∙ c.if-e-lt0.false in
    let p_is = c.pow.ensures ∙ ap (λ e. 10 ^ unsigned_abs e) read_e in
    subst (λ n. n ≤ 48) (sym c.put_number.ensures.end)
    (whole_length c.args.self _ _ _ c.e-e.ensures.valid h c.magnitude-m.ensures.value p_is c.put_sign-at.ensures.within)
