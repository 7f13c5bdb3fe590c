use Rattle.std.proofs.Common.{◌≡◌, ℕ, ◌*◌, arith, pos, ap, sym, ◌∙◌}
use Rattle.std.specs.Prelude.{unsigned_abs}
use Rattle.std.specs.Int.{w128}
use Rattle.std.specs.Int.Signed.{lt_z}
use Rattle.std.proofs.lemmas.Int.{to_z-of_z, to_z_pos}
use Rattle.cgl_model.proofs.BuildLaws.{below_zero, from_zero, minus_magnitude, minus_narrow, plus_narrow, too_large, scaled_size}
use Rattle.cgl_model.proofs.scaling.scale.Goals as goal

same_product : (a b f t : ℕ) → a ≡ b → f ≡ t → a * f ≡ b * t
same_product a b f t p q = cc

pub returns-in_default-clause-value : goal.returns-in_default-clause-value
returns-in_default-clause-value c =
    let size = scaled_size c.args.k c.args.number c.power_of_ten-power.result c.power_of_ten-power.ensures.power in
    let none = c.in_default.ensures in
    let large = too_large c.args.number.m c.power_of_ten-power.result c.power_of_ten-power.ensures.none (omega arith) in
    omega (arith, size, large)

pub returns-in_default-checked_mul-clause-value : goal.returns-in_default-checked_mul-clause-value
returns-in_default-checked_mul-clause-value c =
    let size = scaled_size c.args.k c.args.number c.power_of_ten-power.result c.power_of_ten-power.ensures.power in
    let magnitude = c.unsigned_abs.ensures.value ∙ ap unsigned_abs (to_z-of_z w128 c.m.result (record { sfits = c.m.type_inv }) ∙ c.m.ensures.value) in
    let product = same_product _ _ _ _ magnitude c.in-Some.ensures.1 in
    let none = c.in_default-checked_mul.ensures in
    omega (arith, none, product, size)

pub returns-then-magnitude-ge-WIDE-clause-value : goal.returns-then-magnitude-ge-WIDE-clause-value
returns-then-magnitude-ge-WIDE-clause-value c =
    let size = scaled_size c.args.k c.args.number c.power_of_ten-power.result c.power_of_ten-power.ensures.power in
    let magnitude = c.unsigned_abs.ensures.value ∙ ap unsigned_abs (to_z-of_z w128 c.m.result (record { sfits = c.m.type_inv }) ∙ c.m.ensures.value) in
    let product = same_product _ _ _ _ magnitude c.in-Some.ensures.1 in
    let is = c.in-Some-checked_mul.ensures.1 in
    omega (arith, is, product, size)

pub returns-then-m-lt0 : goal.returns-then-m-lt0
returns-then-m-lt0 c =
    let m = to_z-of_z w128 c.m-2.result (record { sfits = c.m-2.type_inv }) ∙ c.m-2.ensures.value in
    let negative = ap (λ z. lt_z z (pos 0)) (sym m) ∙ c.if-m-lt0.true in
    let magnitude = c.unsigned_abs.ensures.value ∙ ap unsigned_abs (to_z-of_z w128 c.m.result (record { sfits = c.m.type_inv }) ∙ c.m.ensures.value) in
    let product = same_product _ _ _ _ magnitude c.in-Some.ensures.1 in
    let is = c.in-Some-checked_mul.ensures.1 in
    let scaled_is = below_zero c.args.number.m _ c.power_of_ten-power.result c.in-Some-checked_mul.magnitude c.power_of_ten-power.ensures.power (is ∙ product) negative in
    let minus = minus_magnitude c.in-Some-checked_mul.magnitude (omega arith) in
    record {
      value = minus ∙ scaled_is;
      narrow = minus_narrow _ c.in-Some-checked_mul.magnitude minus (omega arith);
    }

pub returns-else-m-lt0 : goal.returns-else-m-lt0
returns-else-m-lt0 c =
    let m = to_z-of_z w128 c.m-2.result (record { sfits = c.m-2.type_inv }) ∙ c.m-2.ensures.value in
    let positive = ap (λ z. lt_z z (pos 0)) (sym m) ∙ c.if-m-lt0.false in
    let magnitude = c.unsigned_abs.ensures.value ∙ ap unsigned_abs (to_z-of_z w128 c.m.result (record { sfits = c.m.type_inv }) ∙ c.m.ensures.value) in
    let product = same_product _ _ _ _ magnitude c.in-Some.ensures.1 in
    let is = c.in-Some-checked_mul.ensures.1 in
    let scaled_is = from_zero c.args.number.m _ c.power_of_ten-power.result c.in-Some-checked_mul.magnitude c.power_of_ten-power.ensures.power (is ∙ product) positive in
    let plus = to_z_pos w128 c.in-Some-checked_mul.magnitude (omega arith) in
    record {
      value = plus ∙ scaled_is;
      narrow = plus_narrow _ c.in-Some-checked_mul.magnitude plus (omega arith);
    }
