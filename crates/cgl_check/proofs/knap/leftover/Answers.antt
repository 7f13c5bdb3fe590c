use Rattle.std.proofs.Common.{◌≡◌, ◌∙◌, ◌<◌, ◌^◌, ℕ, ℤ, pos, List, take, map, get_or, sym, ap, subst, rules, arith, to_z, of_z}
use Rattle.std.specs.Prelude.{◌+ℤ◌, ◌-ℤ◌}
use Rattle.std.specs.Int.{w128}
use Rattle.std.specs.Int.RustNames.{FitsSigned}
use Rattle.std.proofs.lemmas.Int.{ints, to_z-of_z}
use Rattle.cgl_model.specs.Inequality.{Term}
use Rattle.cgl_derive.specs.Derives.{coefficient}
use Rattle.cgl_derive.specs.Knapsack.{positive_part, positive_total}
use Rattle.cgl_check.proofs.KnapSumLaws.{claim_sum, columns_signed, positive_below, positive_bounds, positive_next, positive_of, sum_of}
use Rattle.cgl_check.proofs.SignLaws.{take_whole}
use Rattle.cgl_check.proofs.knap.leftover.Goals as goal

pub overflow_add-total : goal.overflow_add-total
overflow_add-total c =
    let claim = c.args.claim.now.terms in
    let terms = c.args.from.terms.now in
    let i = c.loop-term.term-index in
    let t = get_or terms i (0, pos 0) in
    let number_fits : FitsSigned w128 c.coefficient_of.result = search rules in
    let part_fits : FitsSigned w128 c.positive_part-total.result = search rules in
    let part = to_z w128 (of_z w128 c.positive_part-total.result) in
    let part_is = to_z-of_z w128 c.positive_part-total.result part_fits ∙ c.positive_part-total.ensures
    ∙ ap positive_part (to_z-of_z w128 c.coefficient_of.result number_fits ∙ c.coefficient_of.ensures ∙ ap (coefficient t.0) c.as_slice.ensures.value) in
    let narrow : sum_of (λ (u : Term). coefficient u.0 claim) terms < 2 ^ 127 = omega (arith, claim_sum terms claim c.requires.rising, c.requires.narrow) in
    let next = positive_next (λ u. coefficient u.0 claim) terms i (0, pos 0) (to_z w128 c.loop-term.total-bits) part (omega arith) narrow c.loop-term.invariant part_is in
    omega (arith, ints, next.1, next.2)

pub loop-term-preserved : goal.loop-term-preserved
loop-term-preserved c =
    let claim = c.args.claim.now.terms in
    let terms = c.args.from.terms.now in
    let i = c.loop-term.term-index in
    let t = get_or terms i (0, pos 0) in
    let number_fits : FitsSigned w128 c.coefficient_of.result = search rules in
    let part_fits : FitsSigned w128 c.positive_part-total.result = search rules in
    let part = to_z w128 (of_z w128 c.positive_part-total.result) in
    let part_is = to_z-of_z w128 c.positive_part-total.result part_fits ∙ c.positive_part-total.ensures
    ∙ ap positive_part (to_z-of_z w128 c.coefficient_of.result number_fits ∙ c.coefficient_of.ensures ∙ ap (coefficient t.0) c.as_slice.ensures.value) in
    let narrow : sum_of (λ (u : Term). coefficient u.0 claim) terms < 2 ^ 127 = omega (arith, claim_sum terms claim c.requires.rising, c.requires.narrow) in
    let next = positive_next (λ u. coefficient u.0 claim) terms i (0, pos 0) (to_z w128 c.loop-term.total-bits) part (omega arith) narrow c.loop-term.invariant part_is in
    let fits : FitsSigned w128 (to_z w128 c.loop-term.total-bits +ℤ part) = omega (arith, ints, next.1, next.2) in
    to_z-of_z w128 (to_z w128 c.loop-term.total-bits +ℤ part) fits ∙ next.0

pub overflow_sub-result : goal.overflow_sub-result
overflow_sub-result c =
    let claim = c.args.claim.now.terms in
    let terms = c.args.from.terms.now in
    let rhs_fits : FitsSigned w128 c.args.claim.now.rhs = search rules in
    let f : Term → ℤ = λ u. coefficient u.0 claim in
    let front = take c.loop-term.term-index terms in
    let low = (positive_bounds f front).0 in
    let high = positive_below f terms c.loop-term.term-index in
    rw (to_z-of_z w128 c.args.claim.now.rhs rhs_fits) (omega (arith, ints, low, high, c.loop-term.invariant, claim_sum terms claim c.requires.rising, c.requires.narrow))

pub returns : goal.returns
returns c =
    let claim = c.args.claim.now.terms in
    let terms = c.args.from.terms.now in
    let rhs = c.args.claim.now.rhs in
    let rhs_fits : FitsSigned w128 rhs = search rules in
    let rhs_is = to_z-of_z w128 rhs rhs_fits in
    let f : Term → ℤ = λ u. coefficient u.0 claim in
    let front = take c.loop-term.term-index terms in
    let low = (positive_bounds f front).0 in
    let high = positive_below f terms c.loop-term.term-index in
    let total = to_z w128 c.loop-term.total-bits in
    let fits : FitsSigned w128 (total -ℤ to_z w128 (of_z w128 rhs)) = rw rhs_is (omega (arith, ints, low, high, c.loop-term.invariant, claim_sum terms claim c.requires.rising, c.requires.narrow)) in
    let whole = c.loop-term.invariant ∙ ap (λ (ts : List Term). positive_of f ts) (take_whole terms c.loop-term.term-index (omega arith)) ∙ sym (ap positive_total (columns_signed c.args.from.negative terms claim)) in
    to_z-of_z w128 (total -ℤ to_z w128 (of_z w128 rhs)) fits ∙ ap (λ (z : ℤ). total -ℤ z) rhs_is ∙ ap (λ (z : ℤ). z -ℤ rhs) whole
