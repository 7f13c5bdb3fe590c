use Rattle.std.proofs.Common.{rules, ◌*ℤ◌, ◌<◌, ◌^◌, unsigned_abs, ap, sym, ◌∙◌, subst}
use Rattle.std.specs.Int.{w128}
use Rattle.std.proofs.lemmas.Int.{to_z-of_z}
use Rattle.cgl_num.specs.Gcd.{gcd}
use Rattle.cgl_num.specs.FractionArithmetic.{IsWide}
use Rattle.cgl_num.proofs.FractionLaws.{positive_divisor, quotient_narrow}
use Rattle.cgl_num.proofs.ArithmeticLaws.{reduced_is, reduced_made, lowest_as, positive_product}
use Rattle.cgl_num.proofs.arithmetic.reduced.Goals as goal

pub quotient-requires : goal.quotient-requires
quotient-requires c =
    let n_is = to_z-of_z w128 c.args.num c.ranges.num in
    let d_is = to_z-of_z w128 c.args.den c.ranges.den in
    let g_is = to_z-of_z w128 c.gcd-common.result (record { sfits = c.gcd-common.type_inv }) in
    record { above = rw g_is (positive_divisor c.args.num c.args.den _ (rw (n_is, d_is) at c.gcd-common.ensures.divisor) c.requires.den) }

pub quotient-requires-2 : goal.quotient-requires-2
quotient-requires-2 c =
    let n_is = to_z-of_z w128 c.args.num c.ranges.num in
    let d_is = to_z-of_z w128 c.args.den c.ranges.den in
    let g_is = to_z-of_z w128 c.gcd-common.result (record { sfits = c.gcd-common.type_inv }) in
    record { above = rw g_is (positive_divisor c.args.num c.args.den _ (rw (n_is, d_is) at c.gcd-common.ensures.divisor) c.requires.den) }

pub returns-in_default : goal.returns-in_default
returns-in_default c =
    let n_is = to_z-of_z w128 c.args.num c.ranges.num in
    let r_is = to_z-of_z w128 c.args.rest c.ranges.rest in
    let d_is = to_z-of_z w128 c.args.den c.ranges.den in
    let g_is = to_z-of_z w128 c.gcd-common.result (record { sfits = c.gcd-common.type_inv }) in
    let q_is = to_z-of_z w128 c.quotient.result (record { sfits = c.quotient.type_inv }) in
    let is = rw (n_is, d_is) at c.gcd-common.ensures.divisor in
    let q = rw (d_is, g_is) at c.quotient.ensures.quotient in
    let wide = rw (r_is, q_is) at c.in_default.ensures in
    let whole = reduced_is c.args.num c.args.rest c.args.den c.requires.rest c.requires.den c.requires.apart c.gcd-common.result is in
    subst IsWide (ap (λ z. c.args.rest *ℤ z) q ∙ ap (λ f. f.den) whole) wide

pub of_lowest-requires : goal.of_lowest-requires
of_lowest-requires c =
    let n_is = to_z-of_z w128 c.args.num c.ranges.num in
    let r_is = to_z-of_z w128 c.args.rest c.ranges.rest in
    let d_is = to_z-of_z w128 c.args.den c.ranges.den in
    let g_is = to_z-of_z w128 c.gcd-common.result (record { sfits = c.gcd-common.type_inv }) in
    let q_is = to_z-of_z w128 c.quotient.result (record { sfits = c.quotient.type_inv }) in
    let p_is = to_z-of_z w128 c.quotient-2.result (record { sfits = c.quotient-2.type_inv }) in
    let z_is = to_z-of_z w128 c.in-Some.den (search rules) in
    let is = rw (n_is, d_is) at c.gcd-common.ensures.divisor in
    let whole = reduced_made c.args.num c.args.rest c.args.den c.gcd-common.result c.quotient-2.result c.quotient.result c.in-Some.den c.requires.rest c.requires.den c.requires.apart is
    (rw (n_is, g_is) at c.quotient-2.ensures.quotient) (rw (d_is, g_is) at c.quotient.ensures.quotient) (rw (r_is, q_is) at c.in-Some.ensures.0) in
    let p = rw (n_is, g_is, is) at c.quotient-2.ensures.quotient in
    let narrow = quotient_narrow c.args.num (gcd (unsigned_abs c.args.num) (unsigned_abs c.args.den)) (2 ^ 127) c.requires.narrow in
    record {
      lowest = rw (p_is, z_is) (lowest_as _ c.args.num (c.args.rest *ℤ c.args.den) whole (positive_product c.args.rest c.args.den c.requires.rest c.requires.den)
          (subst (λ z. unsigned_abs z < 2 ^ 127) (sym p) narrow) c.in-Some.ensures.1);
    }

pub returns : goal.returns
returns c =
    let n_is = to_z-of_z w128 c.args.num c.ranges.num in
    let r_is = to_z-of_z w128 c.args.rest c.ranges.rest in
    let d_is = to_z-of_z w128 c.args.den c.ranges.den in
    let g_is = to_z-of_z w128 c.gcd-common.result (record { sfits = c.gcd-common.type_inv }) in
    let q_is = to_z-of_z w128 c.quotient.result (record { sfits = c.quotient.type_inv }) in
    let p_is = to_z-of_z w128 c.quotient-2.result (record { sfits = c.quotient-2.type_inv }) in
    let z_is = to_z-of_z w128 c.in-Some.den (search rules) in
    let is = rw (n_is, d_is) at c.gcd-common.ensures.divisor in
    let whole = reduced_made c.args.num c.args.rest c.args.den c.gcd-common.result c.quotient-2.result c.quotient.result c.in-Some.den c.requires.rest c.requires.den c.requires.apart is
    (rw (n_is, g_is) at c.quotient-2.ensures.quotient) (rw (d_is, g_is) at c.quotient.ensures.quotient) (rw (r_is, q_is) at c.in-Some.ensures.0) in
    ((rw (p_is, z_is) at c.of_lowest.ensures.value) ∙ whole, c.of_lowest.ensures.lowest)
