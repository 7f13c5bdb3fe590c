use Rattle.std.proofs.Common.{◌≡◌, ℤ, pos, refl, subst, arith, to_z, of_z, below_more}
use Rattle.std.specs.Int.{w128}
use Rattle.std.proofs.lemmas.Int.{to_z-of_z}
use Rattle.cgl_derive.specs.Rounding.{quotients}
use Rattle.cgl_check.specs.LinearIneq.{terms_of}
use Rattle.cgl_check.proofs.SignLaws.{rising_at, quotient_here, here_quotient, all_quotients}
use Rattle.cgl_check.proofs.round.are_quotients.Goals as goal

pub is_quotient-requires-clause-narrow : goal.is_quotient-requires-clause-narrow
is_quotient-requires-clause-narrow c = (rising_at c.args.from.terms.now c.loop-i.i (0, pos 0) c.requires.rising (omega arith)).narrow

pub returns-then-not-is_quotient : goal.returns-then-not-is_quotient
returns-then-not-is_quotient c =
    let g_is = to_z-of_z w128 c.args.g c.ranges.g in
    let test = rw g_is at c.if-not-is_quotient.ensures in
    ((λ f. cc), (λ same. let yes = test.1 (here_quotient c.args.g c.args.from.negative c.args.from.terms.now c.args.terms.now c.loop-i.i (0, pos 0) (omega arith) same) in cc))

pub loop-i-preserved : goal.loop-i-preserved
loop-i-preserved c =
    let parts = c.if-not-is_quotient.ensures.0 refl in
    below_more _ _ c.loop-i.invariant (quotient_here (to_z w128 (of_z w128 c.args.g)) c.args.from.negative c.args.from.terms.now c.args.terms.now c.loop-i.i (0, pos 0) (omega arith) parts.0 parts.1)

pub returns : goal.returns
returns c =
    let g_is = to_z-of_z w128 c.args.g c.ranges.g in
    let all = all_quotients (to_z w128 (of_z w128 c.args.g)) c.args.from.negative c.args.from.terms.now c.args.terms.now (0, pos 0) (omega arith) (λ k l. c.loop-i.invariant k (omega (arith, l))) in
    ((λ yes. subst (λ (g : ℤ). c.args.terms.now ≡ quotients g (terms_of c.args.from.negative c.args.from.terms.now)) g_is all), (λ same. refl))
