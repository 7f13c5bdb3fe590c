use Rattle.std.proofs.Common.{◌-◌, pos, get_or, sym, ap, ◌∙◌, subst, rules, arith}
use Rattle.std.specs.Int.{w128}
use Rattle.std.specs.Int.RustNames.{FitsSigned}
use Rattle.std.proofs.lemmas.Int.{to_z-of_z}
use Rattle.cgl_model.specs.Rising.{IsRising}
use Rattle.cgl_derive.proofs.DivisionLaws.{divisor_end, divisor_step, may_stand}
use Rattle.cgl_derive.proofs.division.divisor_of.Goals as goal

pub loop-i-init : goal.loop-i-init
loop-i-init c = divisor_end c.as_slice-terms.result.now

pub gcd-divisor-requires-clause-a : goal.gcd-divisor-requires-clause-a
gcd-divisor-requires-clause-a c =
    let items = c.as_slice-terms.result.now in
    let term = get_or items (c.loop-i.i - 1) (0, pos 0) in
    let fits : FitsSigned w128 term.1 = search rules in
    let is = to_z-of_z w128 term.1 fits in
    rw is (may_stand items (c.loop-i.i - 1) (0, pos 0) (subst IsRising (sym c.as_slice-terms.ensures.value) c.as_slice-terms.ensures.rising) (omega arith)).narrow

pub loop-i-preserved : goal.loop-i-preserved
loop-i-preserved c =
    let items = c.as_slice-terms.result.now in
    let term = get_or items (c.loop-i.i - 1) (0, pos 0) in
    let fits : FitsSigned w128 term.1 = search rules in
    let is = to_z-of_z w128 term.1 fits in
    let result_fits : FitsSigned w128 c.gcd-divisor.result = search rules in
    let here = rw (is, c.loop-i.invariant) at c.gcd-divisor.ensures.divisor in
    to_z-of_z w128 c.gcd-divisor.result result_fits ∙ here ∙ ap pos (sym (divisor_step items c.loop-i.i (0, pos 0) (omega arith) (omega arith)))
