use Rattle.std.proofs.Common.{◌<◌, ◌^◌, subst, sym, arith, rules}
use Rattle.std.specs.Prelude.{unsigned_abs}
use Rattle.std.specs.Int.{w128}
use Rattle.std.specs.Int.RustNames.{FitsSigned}
use Rattle.std.proofs.lemmas.Int.{ints, to_z-of_z, quot_is, quot_fits}
use Rattle.cgl_num.specs.Fraction.{IsLowest}
use Rattle.cgl_num.proofs.FractionLaws.{quotients_are, positive_divisor, lowest_lowest}
use Rattle.cgl_num.proofs.fraction.Frac.new.Goals as goal

pub nonzero_div-result : goal.nonzero_div-result
nonzero_div-result c =
    let n_is = to_z-of_z w128 c.args.num c.ranges.num in
    let d_is = to_z-of_z w128 c.args.den c.ranges.den in
    let g_fits : FitsSigned w128 c.gcd-divisor.result = search rules in
    let g_is = to_z-of_z w128 c.gcd-divisor.result g_fits in
    let above = positive_divisor c.args.num c.args.den _ (rw (n_is, d_is) at c.gcd-divisor.ensures.divisor) c.requires.positive in
    (omega (arith, ints, above), rw (n_is, g_is) (quot_fits w128 c.args.num c.gcd-divisor.result c.ranges.num above))

pub nonzero_div-result-2 : goal.nonzero_div-result-2
nonzero_div-result-2 c =
    let n_is = to_z-of_z w128 c.args.num c.ranges.num in
    let d_is = to_z-of_z w128 c.args.den c.ranges.den in
    let g_fits : FitsSigned w128 c.gcd-divisor.result = search rules in
    let g_is = to_z-of_z w128 c.gcd-divisor.result g_fits in
    let above = positive_divisor c.args.num c.args.den _ (rw (n_is, d_is) at c.gcd-divisor.ensures.divisor) c.requires.positive in
    (omega (arith, ints, above), rw (d_is, g_is) (quot_fits w128 c.args.den c.gcd-divisor.result c.ranges.den above))

pub invariant_of-result : goal.invariant_of-result
invariant_of-result c =
    let n_is = to_z-of_z w128 c.args.num c.ranges.num in
    let d_is = to_z-of_z w128 c.args.den c.ranges.den in
    let g_fits : FitsSigned w128 c.gcd-divisor.result = search rules in
    let is = rw (n_is, d_is) at c.gcd-divisor.ensures.divisor in
    let above = positive_divisor c.args.num c.args.den _ is c.requires.positive in
    let p_is = quot_is w128 c.args.num c.gcd-divisor.result c.ranges.num g_fits (quot_fits w128 _ _ c.ranges.num above) in
    let q_is = quot_is w128 c.args.den c.gcd-divisor.result c.ranges.den g_fits (quot_fits w128 _ _ c.ranges.den above) in
    let narrow : unsigned_abs c.args.den < 2 ^ 127 = omega (arith, ints, c.ranges.den, c.requires.positive) in
    subst IsLowest (sym (quotients_are c.args.num c.args.den _ _ _ is p_is q_is)) (lowest_lowest c.args.num c.args.den c.requires.narrow_num narrow c.requires.positive)

pub returns-clause-value : goal.returns-clause-value
returns-clause-value c =
    let n_is = to_z-of_z w128 c.args.num c.ranges.num in
    let d_is = to_z-of_z w128 c.args.den c.ranges.den in
    let g_fits : FitsSigned w128 c.gcd-divisor.result = search rules in
    let is = rw (n_is, d_is) at c.gcd-divisor.ensures.divisor in
    let above = positive_divisor c.args.num c.args.den _ is c.requires.positive in
    let p_is = quot_is w128 c.args.num c.gcd-divisor.result c.ranges.num g_fits (quot_fits w128 _ _ c.ranges.num above) in
    let q_is = quot_is w128 c.args.den c.gcd-divisor.result c.ranges.den g_fits (quot_fits w128 _ _ c.ranges.den above) in
    quotients_are c.args.num c.args.den _ _ _ is p_is q_is

pub returns-clause-lowest : goal.returns-clause-lowest
returns-clause-lowest c = invariant_of-result c
