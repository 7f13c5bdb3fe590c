use Rattle.std.proofs.Common.{rules, ◌≡◌, pos, neg_ℤ, to_z, of_z, ◌<ℤ◌, ◌-ℤ◌, arith}
use Rattle.std.specs.Int.{w128}
use Rattle.std.proofs.lemmas.Int.{to_z-of_z, ints}
use Rattle.cgl_num.proofs.OverflowLaws.{upright_lowest, turned_lowest}
use Rattle.cgl_num.proofs.fraction.Frac.reciprocal.Goals as goal

pub of_lowest-requires : goal.of_lowest-requires
of_lowest-requires c =
    let n_is = to_z-of_z w128 c.num-then-num-gt0.result (record { sfits = c.num-then-num-gt0.type_inv }) in
    let d_is = to_z-of_z w128 c.den.result (record { sfits = c.den.type_inv }) in
    let above : pos 0 <ℤ c.args.self.num = omega (arith, ints, c.if-num-gt0.true, c.num.ensures.num) in
    record { lowest = rw (n_is, d_is, c.num-then-num-gt0.ensures.num, c.den.ensures.den) (upright_lowest c.args.self c.den.ensures.lowest above) }

pub of_lowest-requires-else-num-gt0 : goal.of_lowest-requires-else-num-gt0
of_lowest-requires-else-num-gt0 c =
    let low = c.den-else-num-gt0.ensures.lowest in
    let d_is : to_z w128 (of_z w128 (pos 0 -ℤ to_z w128 (of_z w128 c.den-else-num-gt0.result))) ≡ neg_ℤ c.args.self.den =
    omega (arith, ints, c.den-else-num-gt0.ensures.den, low.narrow_den) in
    let n_is : to_z w128 (of_z w128 (pos 0 -ℤ to_z w128 (of_z w128 c.num-else-num-gt0.result))) ≡ neg_ℤ c.args.self.num =
    omega (arith, ints, c.num-else-num-gt0.ensures.num, low.narrow_num) in
    let above : pos 0 <ℤ c.args.self.num → ⊥ = λ h. omega (arith, ints, h, c.num.ensures.num, c.if-num-gt0.false) in
    record { lowest = rw (n_is, d_is) (turned_lowest c.args.self low above c.requires.divisor) }

pub num-requires : goal.num-requires
num-requires c = search rules

pub den-requires : goal.den-requires
den-requires c = search rules

pub num-requires-then-num-gt0 : goal.num-requires-then-num-gt0
num-requires-then-num-gt0 c = search rules

pub den-requires-else-num-gt0 : goal.den-requires-else-num-gt0
den-requires-else-num-gt0 c = search rules

pub overflow_sub-den : goal.overflow_sub-den
overflow_sub-den c = search rules

pub num-requires-else-num-gt0 : goal.num-requires-else-num-gt0
num-requires-else-num-gt0 c = search rules

pub overflow_sub-num : goal.overflow_sub-num
overflow_sub-num c = search rules

pub returns-then-num-gt0 : goal.returns-then-num-gt0
returns-then-num-gt0 c = search rules

pub returns-else-num-gt0 : goal.returns-else-num-gt0
returns-else-num-gt0 c = search rules
