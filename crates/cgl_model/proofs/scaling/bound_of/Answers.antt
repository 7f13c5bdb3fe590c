use Rattle.std.proofs.Common.{pos, ◌^◌, ◌∙◌, sym, ap, arith}
use Rattle.std.specs.Prelude.{FitsSigned}
use Rattle.std.specs.Int.{w128}
use Rattle.std.proofs.lemmas.Int.{ints, to_z-of_z}
use Rattle.cgl_num.specs.Decimal.{scaled}
use Rattle.cgl_model.proofs.ScaleLaws.{places_limit}
use Rattle.cgl_model.proofs.SideListLaws.{bound_is, fits_narrow, numerator, numerator_size, places_size, power_size, ten_above}
use Rattle.cgl_model.proofs.scaling.bound_of.Goals as goal

pub pow-requires : goal.pow-requires
pow-requires c =
    let whole = sym (ap (λ n. scaled n c.args.number) c.places_of-k.ensures.value) ∙ c.power_of_ten-power.ensures.power in
    let size = numerator_size c.args.number c.power_of_ten-power.result c.m.ensures.valid whole in
    let power = power_size c.args.number.m c.power_of_ten-power.result c.power_of_ten-power.ensures.none size in
    omega (arith, ints, power)

pub pow-requires-2 : goal.pow-requires-2
pow-requires-2 c =
    let limit = places_limit c.args.number c.m.ensures.valid in
    let power = places_size c.places_of-k.result (omega (arith, limit, c.places_of-k.ensures.value)) in
    omega (arith, ints, power)

pub new-requires-clause-positive : goal.new-requires-clause-positive
new-requires-clause-positive c =
    let above = ten_above c.places_of-k.result in
    omega (arith, ints, c.pow-2.ensures, above, c.pow-2.type_inv)

pub overflow_mul-num : goal.overflow_mul-num
overflow_mul-num c =
    let m : FitsSigned w128 c.m.result = record { sfits = c.m.type_inv } in
    let power : FitsSigned w128 c.pow.result = record { sfits = c.pow.type_inv } in
    let num = numerator c.args.number c.places_of-k.result c.power_of_ten-power.result _ _ c.m.ensures.valid c.places_of-k.ensures.value c.power_of_ten-power.ensures.power c.m.ensures.value c.pow.ensures m power in
    rw (num.is) (fits_narrow _ num.narrow)

pub new-requires-clause-narrow_num : goal.new-requires-clause-narrow_num
new-requires-clause-narrow_num c =
    let m : FitsSigned w128 c.m.result = record { sfits = c.m.type_inv } in
    let power : FitsSigned w128 c.pow.result = record { sfits = c.pow.type_inv } in
    let num = numerator c.args.number c.places_of-k.result c.power_of_ten-power.result _ _ c.m.ensures.valid c.places_of-k.ensures.value c.power_of_ten-power.ensures.power c.m.ensures.value c.pow.ensures m power in
    rw (num.is, to_z-of_z w128 _ (fits_narrow _ num.narrow)) num.narrow

pub returns-clause-value : goal.returns-clause-value
returns-clause-value c =
    let m : FitsSigned w128 c.m.result = record { sfits = c.m.type_inv } in
    let power : FitsSigned w128 c.pow.result = record { sfits = c.pow.type_inv } in
    let num = numerator c.args.number c.places_of-k.result c.power_of_ten-power.result _ _ c.m.ensures.valid c.places_of-k.ensures.value c.power_of_ten-power.ensures.power c.m.ensures.value c.pow.ensures m power in
    let den : FitsSigned w128 c.pow-2.result = record { sfits = c.pow-2.type_inv } in
    bound_is _ _ _ c.args.number c.new.ensures.value
    (rw (num.is, to_z-of_z w128 _ (fits_narrow _ num.narrow)))
    (rw (to_z-of_z w128 c.pow-2.result den, c.pow-2.ensures) (ap (λ n. pos (10 ^ n)) c.places_of-k.ensures.value))
