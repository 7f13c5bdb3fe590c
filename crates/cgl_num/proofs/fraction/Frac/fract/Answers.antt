use Rattle.std.proofs.Common.{rules, arith, pos, subst, sym, ◌∙◌}
use Rattle.std.specs.Prelude.{◌≤ℤ◌, ◌<ℤ◌}
use Rattle.std.specs.Int.{w128}
use Rattle.std.proofs.lemmas.Int.{ints, to_z-of_z}
use Rattle.cgl_num.proofs.OrderLaws.{fract_lowest, fract_is}
use Rattle.cgl_num.proofs.fraction.Frac.fract.Goals as goal

pub of_lowest-requires : goal.of_lowest-requires
of_lowest-requires c =
    let n_is = to_z-of_z w128 c.num.result (record { sfits = c.num.type_inv }) in
    let d_is = to_z-of_z w128 c.den.result (record { sfits = c.den.type_inv }) in
    let r_is = to_z-of_z w128 c.rem_euclid.result (search rules) in
    let e_is = to_z-of_z w128 c.den-2.result (record { sfits = c.den-2.type_inv }) in
    let is = rw (n_is, d_is, c.num.ensures.num, c.den.ensures.den) at c.rem_euclid.ensures.value in
    record { lowest = rw (r_is, e_is, is, c.den-2.ensures.den) (fract_lowest c.args.self c.den.ensures.lowest) }

pub returns-clause-value : goal.returns-clause-value
returns-clause-value c n floor =
    let n_is = to_z-of_z w128 c.num.result (record { sfits = c.num.type_inv }) in
    let d_is = to_z-of_z w128 c.den.result (record { sfits = c.den.type_inv }) in
    let r_is = to_z-of_z w128 c.rem_euclid.result (search rules) in
    let e_is = to_z-of_z w128 c.den-2.result (record { sfits = c.den-2.type_inv }) in
    let is = rw (n_is, d_is, c.num.ensures.num, c.den.ensures.den) at c.rem_euclid.ensures.value in
    (rw (r_is, e_is, is, c.den-2.ensures.den) at c.of_lowest.ensures.value) ∙ fract_is c.args.self n c.den.ensures.lowest.positive floor

pub returns-clause-above : goal.returns-clause-above
returns-clause-above c =
    let r_is = to_z-of_z w128 c.rem_euclid.result (search rules) in
    let above = c.rem_euclid.ensures.lower_bound in
    subst (λ r. pos 0 ≤ℤ r.num) (sym c.of_lowest.ensures.value) (rw r_is (omega (arith, ints, above)))

pub returns-clause-below : goal.returns-clause-below
returns-clause-below c =
    let d_is = to_z-of_z w128 c.den.result (record { sfits = c.den.type_inv }) in
    let r_is = to_z-of_z w128 c.rem_euclid.result (search rules) in
    let e_is = to_z-of_z w128 c.den-2.result (record { sfits = c.den-2.type_inv }) in
    let above = c.den.ensures.lowest.positive in
    let below = rw (d_is, c.den.ensures.den) at c.rem_euclid.ensures.upper_bound in
    subst (λ r. r.num <ℤ r.den) (sym c.of_lowest.ensures.value) (rw (r_is, e_is, c.den-2.ensures.den) (omega (arith, ints, above, below)))
