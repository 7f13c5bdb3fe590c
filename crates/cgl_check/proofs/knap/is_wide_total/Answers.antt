use Rattle.std.proofs.Common.{◌≡◌, ◌+◌, ◌≤◌, ◌^◌, ℤ, pos, get_or, sym, rules, arith}
use Rattle.std.specs.Prelude.{unsigned_abs}
use Rattle.std.specs.Int.{w128}
use Rattle.std.specs.Int.RustNames.{FitsSigned}
use Rattle.std.proofs.lemmas.Int.{to_z-of_z}
use Rattle.cgl_derive.specs.Knapsack.{total_magnitude}
use Rattle.cgl_check.proofs.KnapSumLaws.{magnitude_front, magnitude_more}
use Rattle.cgl_check.proofs.TestLaws.{reaches_at}
use Rattle.cgl_check.proofs.knap.is_wide_total.Goals as goal

pub returns-then-total : goal.returns-then-total
returns-then-total c =
    let rhs_is = to_z-of_z w128 c.args.rhs c.ranges.rhs in
    let front = magnitude_front c.args.terms.now c.loop-term.term-index in
    let total = rw rhs_is at c.loop-term.invariant in
    let reach : 2 ^ 127 ≤ total_magnitude c.args.terms.now + unsigned_abs c.args.rhs = omega (arith, front, total, c.if-total.true) in
    sym (reaches_at _ reach)

pub loop-term-preserved : goal.loop-term-preserved
loop-term-preserved c =
    let terms = c.args.terms.now in
    let i = c.loop-term.term-index in
    let t = get_or terms i (0, pos 0) in
    let t_fits : FitsSigned w128 t.1 = search rules in
    let value = rw (to_z-of_z w128 t.1 t_fits) at c.unsigned_abs-total-in-loop-term.ensures.value in
    let more = magnitude_more terms i (0, pos 0) (omega arith) in
    omega (arith, value, more, c.loop-term.invariant)
