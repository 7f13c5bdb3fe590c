use Rattle.std.proofs.Common.{arith, rules, ◌≤◌, ◌<◌, ◌^◌}
use Rattle.std.specs.Int.{w128}
use Rattle.std.specs.Int.RustNames.{FitsSigned}
use Rattle.std.proofs.lemmas.Int.{ints, to_z-of_z}
use Rattle.cgl_num.proofs.DecimalLaws.{tens_mono, tens_pos}
use Rattle.cgl_where.proofs.values.fraction_of.Goals as goal

pub pow-requires : goal.pow-requires
pow-requires c =
    let scale = c.e-e.ensures.valid.within.scale in
    let small : c.unsigned_abs.result ≤ 30 = omega (arith, ints, scale, c.e-e.ensures.value, c.unsigned_abs.ensures.value) in
    let le : 10 ^ c.unsigned_abs.result ≤ 10 ^ 30 = tens_mono c.unsigned_abs.result 30 small in
    omega (arith, ints, le)

pub new-requires-clause-positive : goal.new-requires-clause-positive
new-requires-clause-positive c =
    let fits : FitsSigned w128 c.pow.result = search rules in
    let is = to_z-of_z w128 c.pow.result fits in
    let above : 0 < 10 ^ c.unsigned_abs.result = tens_pos c.unsigned_abs.result in
    rw is (omega (arith, ints, above, c.pow.ensures))
