use Rattle.std.specs.Int.{w128}
use Rattle.std.proofs.lemmas.Int.{to_z-of_z, quot_fits}
use Rattle.cgl_derive.proofs.DivisionLaws.{above_word, next_fits_word, next_is_ceiling, quotient_is_ceiling}
use Rattle.cgl_derive.proofs.division.ceiling.Goals as goal

pub nonzero_div-quotient : goal.nonzero_div-quotient
nonzero_div-quotient c =
    let number_is = to_z-of_z w128 c.args.number c.ranges.number in
    let divisor_is = to_z-of_z w128 c.args.divisor c.ranges.divisor in
    (above_word c.args.divisor c.requires, rw (number_is, divisor_is) (quot_fits w128 c.args.number c.args.divisor c.ranges.number c.requires))

pub nonzero_rem-number : goal.nonzero_rem-number
nonzero_rem-number c = nonzero_div-quotient c

pub overflow_add-result : goal.overflow_add-result
overflow_add-result c = next_fits_word c.args.number c.args.divisor c.ranges.number c.ranges.divisor c.requires c.if-number-divisor-gt0.true

pub returns-then-number-divisor-gt0 : goal.returns-then-number-divisor-gt0
returns-then-number-divisor-gt0 c = next_is_ceiling c.args.number c.args.divisor c.ranges.number c.ranges.divisor c.requires c.if-number-divisor-gt0.true

pub returns-else-number-divisor-gt0 : goal.returns-else-number-divisor-gt0
returns-else-number-divisor-gt0 c = quotient_is_ceiling c.args.number c.args.divisor c.ranges.number c.ranges.divisor c.requires c.if-number-divisor-gt0.false
