use Rattle.std.proofs.Common.{◌≡◌, List, ℕ, ℤ, pos, take, map, get_or, length, refl, sym, ap, ◌∙◌, subst, rules, arith, to_z, of_z}
use Rattle.std.specs.Prelude.{int_div, ◌<ℤ◌, IsTrue}
use Rattle.std.specs.Int.{w128}
use Rattle.std.specs.Int.RustNames.{FitsSigned}
use Rattle.std.proofs.lemmas.Int.{to_z-of_z, quot_fits}
use Rattle.std.proofs.lemmas.List.{take_all}
use Rattle.cgl_model.specs.Inequality.{Term}
use Rattle.cgl_model.specs.Rising.{IsAboveAll, IsRising}
use Rattle.cgl_derive.specs.Rounding.{rounded, divides_all}
use Rattle.cgl_derive.proofs.DivisionLaws.{above_word, above_taken, above_map, may_stand, narrow_fits, divided_push, ineq_is}
use Rattle.cgl_derive.proofs.RoundingLaws.{divided_at, quotient_stands}
use Rattle.cgl_derive.proofs.division.rounded.Goals as goal

pub nonzero_div-term : goal.nonzero_div-term
nonzero_div-term c =
    let term = get_or c.as_slice-term-items.result.now c.loop-term.term-index (0, pos 0) in
    let term_fits : FitsSigned w128 term.1 = search rules in
    let term_is = to_z-of_z w128 term.1 term_fits in
    let divisor_is = to_z-of_z w128 c.args.divisor c.ranges.divisor in
    (above_word c.args.divisor c.requires.positive, rw (term_is, divisor_is) (quot_fits w128 term.1 c.args.divisor term_fits c.requires.positive))

pub push-requires-clause-column : goal.push-requires-clause-column
push-requires-clause-column c =
    let items = c.as_slice-term-items.result.now in
    let f : Term → Term = λ t. (t.0, int_div t.1 c.args.divisor) in
    let rising : IsRising items = subst IsRising (sym c.as_slice-term-items.ensures.value) c.as_slice-term-items.ensures.rising in
    let above = above_map f (λ t. refl) (take c.loop-term.term-index items) (get_or items c.loop-term.term-index (0, pos 0)).0 (above_taken items c.loop-term.term-index (0, pos 0) rising c.loop-term-test.true) in
    let P : List (ℕ × ℤ) → Type 0 = λ terms. IsAboveAll terms (get_or items c.loop-term.term-index (0, pos 0)).0 in
    let Q : ℤ → Type 0 = λ g. c.loop-term.terms ≡ map (λ t. (t.0, int_div t.1 g)) (take c.loop-term.term-index c.args.ineq.now.terms) in
    let so_far = subst Q (to_z-of_z w128 c.args.divisor c.ranges.divisor) c.loop-term.invariant in
    subst P (sym (so_far ∙ ap (λ z. map f (take c.loop-term.term-index z)) (sym c.as_slice-term-items.ensures.value))) above

pub push-requires-clause-coefficient : goal.push-requires-clause-coefficient
push-requires-clause-coefficient c =
    let items = c.as_slice-term-items.result.now in
    let term = get_or items c.loop-term.term-index (0, pos 0) in
    let rising : IsRising items = subst IsRising (sym c.as_slice-term-items.ensures.value) c.as_slice-term-items.ensures.rising in
    let term_fits : FitsSigned w128 term.1 = search rules in
    let term_is = to_z-of_z w128 term.1 term_fits in
    let divisor_is = to_z-of_z w128 c.args.divisor c.ranges.divisor in
    let all = subst (λ (z : List Term). IsTrue (divides_all c.args.divisor z)) (sym c.as_slice-term-items.ensures.value) c.requires.divides in
    let divides = divided_at c.args.divisor items c.loop-term.term-index (0, pos 0) all c.loop-term-test.true in
    let quotient = quotient_stands term.1 c.args.divisor c.requires.positive divides (may_stand items c.loop-term.term-index (0, pos 0) rising c.loop-term-test.true) in
    let fits : FitsSigned w128 (int_div term.1 c.args.divisor) = narrow_fits (int_div term.1 c.args.divisor) quotient.narrow in
    let quotient_is = to_z-of_z w128 (int_div term.1 c.args.divisor) fits in
    rw (term_is, divisor_is, quotient_is) quotient

pub loop-term-preserved : goal.loop-term-preserved
loop-term-preserved c =
    let items = c.as_slice-term-items.result.now in
    let term = get_or items c.loop-term.term-index (0, pos 0) in
    let divisor = to_z w128 (of_z w128 c.args.divisor) in
    let term_fits : FitsSigned w128 term.1 = search rules in
    let above : pos 0 <ℤ divisor = subst (λ (z : ℤ). pos 0 <ℤ z) (sym (to_z-of_z w128 c.args.divisor c.ranges.divisor)) c.requires.positive in
    let quotient = ap (λ z. to_z w128 (of_z w128 (int_div z divisor))) (to_z-of_z w128 term.1 term_fits) ∙ to_z-of_z w128 _ (quot_fits w128 term.1 divisor term_fits above) in
    divided_push items c.args.ineq.now.terms c.loop-term.terms c.push.new.self c.loop-term.term-index (0, pos 0) divisor _ c.as_slice-term-items.ensures.value c.loop-term-test.true c.loop-term.invariant quotient c.in_ok-push.ensures.ok

pub ceiling-requires : goal.ceiling-requires
ceiling-requires c = subst (λ (z : ℤ). pos 0 <ℤ z) (sym (to_z-of_z w128 c.args.divisor c.ranges.divisor)) c.requires.positive

pub returns : goal.returns
returns c =
    let rhs_fits : FitsSigned w128 c.args.ineq.now.rhs = search rules in
    let rhs_is = to_z-of_z w128 c.args.ineq.now.rhs rhs_fits in
    let divisor_is = to_z-of_z w128 c.args.divisor c.ranges.divisor in
    let ceiling_fits : FitsSigned w128 c.ceiling.result = search rules in
    let ceiling_is = to_z-of_z w128 c.ceiling.result ceiling_fits in
    let rounded_rhs = rw (rhs_is, divisor_is) at c.ceiling.ensures in
    let Q : ℤ → Type 0 = λ g. c.loop-term.terms ≡ map (λ t. (t.0, int_div t.1 g)) (take c.loop-term.term-index c.args.ineq.now.terms) in
    let terms = subst Q divisor_is c.loop-term.invariant ∙ ap (map (λ t. (t.0, int_div t.1 c.args.divisor))) (take_all c.loop-term.term-index c.args.ineq.now.terms (omega (arith, ap length c.as_slice-term-items.ensures.value))) in
    ineq_is c.loop-term.terms (rounded c.args.divisor c.args.ineq.now).terms _ (rounded c.args.divisor c.args.ineq.now).rhs terms (ceiling_is ∙ rounded_rhs)
