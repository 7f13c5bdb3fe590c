use Rattle.std.proofs.Common.{◌≡◌, pos, refl, sym, ap, ◌∙◌, rules, arith, of_z}
use Rattle.std.specs.Prelude.{◌<ℤ◌}
use Rattle.std.specs.Int.{w128}
use Rattle.std.specs.Int.RustNames.{FitsSigned}
use Rattle.std.proofs.lemmas.Int.{ints, to_z-of_z}
use Rattle.cgl_derive.specs.Rounding.{rounded}
use Rattle.cgl_check.specs.LinearIneq.{ineq_of}
use Rattle.cgl_check.proofs.TestLaws.{ineq_is, same_from, zero_above}
use Rattle.cgl_check.proofs.SignLaws.{integers_signed, continuous, not_claimed, claimed, not_same}
use Rattle.cgl_check.proofs.round.quotient_failure.Goals as goal

pub returns-then-not-are_integers : goal.returns-then-not-are_integers
returns-then-not-are_integers c =
    let g = c.args.round.now.g in
    let g_fits : FitsSigned w128 g = search rules in
    let g_is = to_z-of_z w128 g g_fits in
    let positive : pos 0 <ℤ g = omega (arith, ints, c.if-round-lt1.false) in
    let divided = rw g_is at c.if-not-are_divided.ensures in
    continuous _ _ _ _ (zero_above g positive) (sym divided) (integers_signed c.args.m.now c.args.from.negative c.args.from.terms.now ∙ sym c.if-not-are_integers.ensures.test)

pub returns-then-not-are_quotients : goal.returns-then-not-are_quotients
returns-then-not-are_quotients c =
    let g = c.args.round.now.g in
    let g_fits : FitsSigned w128 g = search rules in
    let g_is = to_z-of_z w128 g g_fits in
    let positive : pos 0 <ℤ g = omega (arith, ints, c.if-round-lt1.false) in
    let divided = rw g_is at c.if-not-are_divided.ensures in
    let test = rw (g_is, c.as_slice.ensures.value) at c.if-not-are_quotients.ensures in
    not_claimed _ _ _ _ (zero_above g positive) (sym divided) (integers_signed c.args.m.now c.args.from.negative c.args.from.terms.now ∙ sym c.if-not-are_integers.ensures.test)
    (not_same c.args.round.now.claim (rounded g (ineq_of c.args.from)) (λ same. let yes = test.1 (ap (λ i. i.terms) same) in cc))

pub returns-then-round-ceiling : goal.returns-then-round-ceiling
returns-then-round-ceiling c =
    let g = c.args.round.now.g in
    let g_fits : FitsSigned w128 g = search rules in
    let g_is = to_z-of_z w128 g g_fits in
    let rhs_fits : FitsSigned w128 c.args.from.rhs = search rules in
    let claim_fits : FitsSigned w128 c.args.round.now.claim.rhs = search rules in
    let ceiling_fits : FitsSigned w128 c.ceiling.result = search rules in
    let positive : pos 0 <ℤ g = omega (arith, ints, c.if-round-lt1.false) in
    let divided = rw g_is at c.if-not-are_divided.ensures in
    let ceiling = rw (g_is, to_z-of_z w128 c.args.from.rhs rhs_fits) at c.ceiling.ensures in
    not_claimed _ _ _ _ (zero_above g positive) (sym divided) (integers_signed c.args.m.now c.args.from.negative c.args.from.terms.now ∙ sym c.if-not-are_integers.ensures.test)
    (not_same c.args.round.now.claim (rounded g (ineq_of c.args.from)) (λ same. let equal : c.args.round.now.claim.rhs ≡ c.ceiling.result = ap (λ i. i.rhs) same ∙ sym ceiling in c.if-round-ceiling.true (ap (of_z w128) equal)))

pub returns : goal.returns
returns c =
    let g = c.args.round.now.g in
    let g_fits : FitsSigned w128 g = search rules in
    let g_is = to_z-of_z w128 g g_fits in
    let rhs_fits : FitsSigned w128 c.args.from.rhs = search rules in
    let claim_fits : FitsSigned w128 c.args.round.now.claim.rhs = search rules in
    let ceiling_fits : FitsSigned w128 c.ceiling.result = search rules in
    let positive : pos 0 <ℤ g = omega (arith, ints, c.if-round-lt1.false) in
    let divided = rw g_is at c.if-not-are_divided.ensures in
    let ceiling = rw (g_is, to_z-of_z w128 c.args.from.rhs rhs_fits) at c.ceiling.ensures in
    let test = rw (g_is, c.as_slice.ensures.value) at c.if-not-are_quotients.ensures in
    let equal : c.args.round.now.claim.rhs ≡ c.ceiling.result = omega (arith, ints, c.if-round-ceiling.false) in
    claimed _ _ _ _ (zero_above g positive) (sym divided) (integers_signed c.args.m.now c.args.from.negative c.args.from.terms.now ∙ sym c.if-not-are_integers.ensures.test)
    (same_from c.args.round.now.claim (rounded g (ineq_of c.args.from)) (ineq_is c.args.round.now.claim (rounded g (ineq_of c.args.from)) (test.0 refl) (equal ∙ ceiling)))
