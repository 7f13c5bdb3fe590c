use Rattle.std.proofs.Common.{◌<◌, ◌^◌, ◌∙◌, ap, subst, sym, to_z}
use Rattle.std.specs.Prelude.{unsigned_abs}
use Rattle.std.specs.Int.{w128}
use Rattle.std.proofs.lemmas.Int.{quot_fits, quot_is, to_z-of_z}
use Rattle.cgl_model.proofs.BuildLaws.{above_zero, divided_by_zero, divided_is, quotient_narrow}
use Rattle.cgl_model.proofs.row_shape.divide.Goals as goal

pub returns-then-divisor-eq0-clause-value : goal.returns-then-divisor-eq0-clause-value
returns-then-divisor-eq0-clause-value c =
    let zero = sym (to_z-of_z w128 c.args.divisor c.ranges.divisor) ∙ ap (to_z w128) c.if-divisor-eq0.true in
    to_z-of_z w128 c.args.number c.ranges.number ∙ divided_by_zero c.args.number c.args.divisor zero

pub returns-clause-value : goal.returns-clause-value
returns-clause-value c =
    let above = above_zero c.args.divisor c.requires.divisor c.if-divisor-eq0.false in
    quot_is w128 c.args.number c.args.divisor c.ranges.number c.ranges.divisor (quot_fits w128 c.args.number c.args.divisor c.ranges.number above)
    ∙ divided_is c.args.number c.args.divisor above

pub returns-clause-narrow : goal.returns-clause-narrow
returns-clause-narrow c =
    let above = above_zero c.args.divisor c.requires.divisor c.if-divisor-eq0.false in
    let is = quot_is w128 c.args.number c.args.divisor c.ranges.number c.ranges.divisor (quot_fits w128 c.args.number c.args.divisor c.ranges.number above) in
    subst (λ z. unsigned_abs z < 2 ^ 100) (sym is) (quotient_narrow c.args.number c.args.divisor above c.requires.narrow)
