use Rattle.std.proofs.Common.{rules}
use Rattle.std.specs.Int.{w128}
use Rattle.std.proofs.lemmas.Int.{to_z-of_z}
use Rattle.cgl_num.proofs.OrderLaws.{floor_is}
use Rattle.cgl_num.proofs.fraction.Frac.floor.Goals as goal

pub returns : goal.returns
returns c =
    let n_is = to_z-of_z w128 c.num.result (record { sfits = c.num.type_inv }) in
    let d_is = to_z-of_z w128 c.den.result (record { sfits = c.den.type_inv }) in
    let q_is = to_z-of_z w128 c.div_euclid.result (search rules) in
    let is = rw (n_is, d_is, c.num.ensures.num, c.den.ensures.den) at c.div_euclid.ensures in
    rw (q_is, is) (floor_is c.args.self c.den.ensures.lowest.positive)
