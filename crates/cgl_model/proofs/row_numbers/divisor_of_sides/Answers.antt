use Rattle.std.proofs.Common.{rules}
use Rattle.std.specs.Prelude.{FitsSigned}
use Rattle.std.specs.Int.{w128}
use Rattle.std.proofs.lemmas.Int.{to_z-of_z}
use Rattle.cgl_model.proofs.BuildLaws.{sides_none, sides_some}
use Rattle.cgl_model.proofs.row_numbers.divisor_of_sides.Goals as goal

pub returns-in_default : goal.returns-in_default
returns-in_default c =
    let result : FitsSigned w128 c.gcd.result = search rules in
    let rhs : FitsSigned w128 c.args.rhs = search rules in
    let is = rw (to_z-of_z w128 c.args.rhs rhs) at c.gcd.ensures.divisor in
    rw (to_z-of_z w128 c.gcd.result result, c.in_default.is) (sides_none c.args.rhs c.gcd.result is)

pub returns : goal.returns
returns c =
    let result : FitsSigned w128 c.gcd-3.result = search rules in
    let rhs : FitsSigned w128 c.args.rhs = search rules in
    let range : FitsSigned w128 c.in-Some.range = search rules in
    let inner : FitsSigned w128 c.gcd-2.result = search rules in
    let first = rw (to_z-of_z w128 c.in-Some.range range) at c.gcd-2.ensures.divisor in
    let second = rw (to_z-of_z w128 c.args.rhs rhs, to_z-of_z w128 c.gcd-2.result inner) at c.gcd-3.ensures.divisor in
    rw (to_z-of_z w128 c.gcd-3.result result, c.in-Some.is) (sides_some c.args.rhs c.in-Some.range c.gcd-2.result c.gcd-3.result first second)
