use Rattle.std.proofs.Common.{subst, arith, ℤ, pos}
use Rattle.std.specs.Prelude.{◌<ℤ◌}
use Rattle.std.proofs.lemmas.Int.{ints}
use Rattle.cgl_gen.proofs.MemberLaws.{some_violation}
use Rattle.cgl_gen.proofs.listable.violation_at.Goals as goal

pub returns-clause-value : goal.returns-clause-value
returns-clause-value c =
    let above : pos 0 <ℤ c.num.result = omega (arith, ints) in
    some_violation c.args.cut.now c.args.point.now c.in_ok-violation.violation c.in_ok-violation.ensures.ok (subst (λ (z : ℤ). pos 0 <ℤ z) c.num.ensures.num above)
