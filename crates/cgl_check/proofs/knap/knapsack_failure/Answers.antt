use Rattle.std.proofs.Common.{◌≡◌, ◌+◌, ◌∙◌, ℤ, List, true, false, refl, sym, ap, subst, rules, arith, to_z, of_z}
use Rattle.std.specs.Prelude.{◌≤ℤ◌, ◌<ℤ◌, ◌↔◌, IsTrue, unsigned_abs}
use Rattle.std.specs.Int.{w128}
use Rattle.std.specs.Int.RustNames.{FitsSigned}
use Rattle.std.proofs.lemmas.Int.{ints, to_z-of_z}
use Rattle.cgl_knap.specs.Greatest.{IsGreatest}
use Rattle.cgl_model.specs.Inequality.{Term}
use Rattle.cgl_derive.specs.Knapsack.{total_magnitude}
use Rattle.cgl_derive.specs.KnapsackLists.{coefficients_at, sizes}
use Rattle.cgl_check.specs.Knapsacks.{leftover, weights_of}
use Rattle.cgl_check.specs.LinearIneq.{ineq_of}
use Rattle.cgl_check.specs.Tests.{has_signs, reaches}
use Rattle.cgl_check.proofs.LinCheckLaws.{rising_signed}
use Rattle.cgl_check.proofs.KnapCheckLaws.{binary_signed, binary_test, not_binary, not_form, value_result, wide_claim}
use Rattle.cgl_check.proofs.knap.knapsack_failure.Goals as goal

pub returns-then-not-are_binary-clause-failure : goal.returns-then-not-are_binary-clause-failure
returns-then-not-are_binary-clause-failure c =
    let m = c.args.m.now in
    let from = c.args.from in
    let test = binary_test m from.terms.now false c.if-not-are_binary.ensures in
    not_form m c.args.knap.now (ineq_of from) (not_binary m (ineq_of from) c.args.knap.now.claim (binary_signed m from.negative from.terms.now ∙ sym test))

pub returns-then-is_wide_total-clause-failure : goal.returns-then-is_wide_total-clause-failure
returns-then-is_wide_total-clause-failure c =
    let knap = c.args.knap.now in
    let rhs_fits : FitsSigned w128 knap.claim.rhs = search rules in
    let rhs_is = to_z-of_z w128 knap.claim.rhs rhs_fits in
    let wide : reaches (total_magnitude knap.claim.terms + unsigned_abs knap.claim.rhs) ≡ true = cc (rhs_is, c.if-is_wide_total.ensures, c.as_slice-claim.ensures.value) in
    not_form c.args.m.now knap (ineq_of c.args.from) (wide_claim c.args.m.now (ineq_of c.args.from) knap.claim wide)

pub returns-then-greatest-leftover-clause-failure : goal.returns-then-greatest-leftover-clause-failure
returns-then-greatest-leftover-clause-failure c =
    let m = c.args.m.now in
    let from = c.args.from in
    let knap = c.args.knap.now in
    let terms = c.as_slice-claim.result.now in
    let rhs_fits : FitsSigned w128 knap.claim.rhs = search rules in
    let best_fits : FitsSigned w128 c.greatest.result = search rules in
    let left_fits : FitsSigned w128 c.leftover.result = search rules in
    let best_is = to_z-of_z w128 c.greatest.result best_fits in
    let left_is = to_z-of_z w128 c.leftover.result left_fits in
    let binary = binary_signed m from.negative from.terms.now ∙ sym (binary_test m from.terms.now true c.if-not-are_binary.ensures) in
    let P : List Term → Type 0 = λ ts. IsGreatest (weights_of (ineq_of from)) (sizes (coefficients_at (ineq_of from).terms ts)) c.in-Some.capacity c.greatest.result in
    let best = subst P c.as_slice-claim.ensures.value c.greatest.ensures.value in
    let signs = sym (c.if-not-has_signs.ensures ∙ ap (has_signs (ineq_of from).terms) c.as_slice-claim.ensures.value) in
    let wide = sym (rw (to_z-of_z w128 knap.claim.rhs rhs_fits) at c.if-is_wide_total.ensures ∙ ap (λ (ts : List Term). reaches (total_magnitude ts + unsigned_abs knap.claim.rhs)) c.as_slice-claim.ensures.value) in
    let more : leftover (ineq_of from) knap.claim <ℤ c.greatest.result = omega (arith, ints, c.if-greatest-leftover.true, best_is, left_is, c.leftover.ensures) in
    let test : IsTrue false ↔ (c.greatest.result ≤ℤ leftover (ineq_of from) knap.claim) = ((λ f. cc), (λ le. absurd (omega (arith, ints, le, more)))) in
    value_result c.knapsacks.ensures.test c.knapsack_values.ensures m knap (ineq_of from) c.in-Some.capacity c.greatest.result false (rising_signed from.negative from.terms.now c.requires.rising) binary c.in-Some.ensures signs wide best test

pub returns-clause-failure : goal.returns-clause-failure
returns-clause-failure c =
    let m = c.args.m.now in
    let from = c.args.from in
    let knap = c.args.knap.now in
    let terms = c.as_slice-claim.result.now in
    let rhs_fits : FitsSigned w128 knap.claim.rhs = search rules in
    let best_fits : FitsSigned w128 c.greatest.result = search rules in
    let left_fits : FitsSigned w128 c.leftover.result = search rules in
    let best_is = to_z-of_z w128 c.greatest.result best_fits in
    let left_is = to_z-of_z w128 c.leftover.result left_fits in
    let binary = binary_signed m from.negative from.terms.now ∙ sym (binary_test m from.terms.now true c.if-not-are_binary.ensures) in
    let P : List Term → Type 0 = λ ts. IsGreatest (weights_of (ineq_of from)) (sizes (coefficients_at (ineq_of from).terms ts)) c.in-Some.capacity c.greatest.result in
    let best = subst P c.as_slice-claim.ensures.value c.greatest.ensures.value in
    let signs = sym (c.if-not-has_signs.ensures ∙ ap (has_signs (ineq_of from).terms) c.as_slice-claim.ensures.value) in
    let wide = sym (rw (to_z-of_z w128 knap.claim.rhs rhs_fits) at c.if-is_wide_total.ensures ∙ ap (λ (ts : List Term). reaches (total_magnitude ts + unsigned_abs knap.claim.rhs)) c.as_slice-claim.ensures.value) in
    let most : c.greatest.result ≤ℤ leftover (ineq_of from) knap.claim = omega (arith, ints, c.if-greatest-leftover.false, best_is, left_is, c.leftover.ensures) in
    let test : IsTrue true ↔ (c.greatest.result ≤ℤ leftover (ineq_of from) knap.claim) = ((λ f. most), (λ le. refl)) in
    value_result c.knapsacks.ensures.test c.knapsack_values.ensures m knap (ineq_of from) c.in-Some.capacity c.greatest.result true (rising_signed from.negative from.terms.now c.requires.rising) binary c.in-Some.ensures signs wide best test
