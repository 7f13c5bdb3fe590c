use Rattle.std.proofs.Common.{◌≡◌, ◌∙◌, ◌<◌, ◌^◌, ℕ, ℤ, pos, List, take, map, get_or, sym, ap, subst, rules, arith, to_z, of_z}
use Rattle.std.specs.Prelude.{◌+ℤ◌}
use Rattle.std.specs.Int.{w128}
use Rattle.std.specs.Int.RustNames.{FitsSigned}
use Rattle.std.proofs.lemmas.Int.{ints, to_z-of_z}
use Rattle.cgl_model.specs.Inequality.{Term}
use Rattle.cgl_derive.specs.Knapsack.{positive_part, positive_total}
use Rattle.cgl_check.specs.LinearIneq.{signed}
use Rattle.cgl_check.proofs.KnapSumLaws.{coefficients_signed, magnitude_sum, positive_next, positive_of, sum_of}
use Rattle.cgl_check.proofs.SignLaws.{rising_at, take_whole}
use Rattle.cgl_check.proofs.knap.positive_total.Goals as goal

pub signed-requires : goal.signed-requires
signed-requires c =
    let t = get_or c.args.from.terms.now c.loop-term.term-index (0, pos 0) in
    let t_fits : FitsSigned w128 t.1 = search rules in
    rw (to_z-of_z w128 t.1 t_fits) (rising_at c.args.from.terms.now c.loop-term.term-index (0, pos 0) c.requires.rising (omega arith)).narrow

pub overflow_add-total : goal.overflow_add-total
overflow_add-total c =
    let negative = c.args.from.negative in
    let terms = c.args.from.terms.now in
    let i = c.loop-term.term-index in
    let t = get_or terms i (0, pos 0) in
    let t_fits : FitsSigned w128 t.1 = search rules in
    let signed_fits : FitsSigned w128 c.signed.result = search rules in
    let part_fits : FitsSigned w128 c.positive_part-total.result = search rules in
    let part = to_z w128 (of_z w128 c.positive_part-total.result) in
    let part_is = to_z-of_z w128 c.positive_part-total.result part_fits ∙ c.positive_part-total.ensures
    ∙ ap positive_part (to_z-of_z w128 c.signed.result signed_fits ∙ c.signed.ensures ∙ ap (signed negative) (to_z-of_z w128 t.1 t_fits)) in
    let narrow : sum_of (λ (u : Term). signed negative u.1) terms < 2 ^ 127 = omega (arith, magnitude_sum negative terms, c.requires.narrow) in
    let next = positive_next (λ u. signed negative u.1) terms i (0, pos 0) (to_z w128 c.loop-term.total-bits) part (omega arith) narrow c.loop-term.invariant part_is in
    omega (arith, ints, next.1, next.2)

pub loop-term-preserved : goal.loop-term-preserved
loop-term-preserved c =
    let negative = c.args.from.negative in
    let terms = c.args.from.terms.now in
    let i = c.loop-term.term-index in
    let t = get_or terms i (0, pos 0) in
    let t_fits : FitsSigned w128 t.1 = search rules in
    let signed_fits : FitsSigned w128 c.signed.result = search rules in
    let part_fits : FitsSigned w128 c.positive_part-total.result = search rules in
    let part = to_z w128 (of_z w128 c.positive_part-total.result) in
    let part_is = to_z-of_z w128 c.positive_part-total.result part_fits ∙ c.positive_part-total.ensures
    ∙ ap positive_part (to_z-of_z w128 c.signed.result signed_fits ∙ c.signed.ensures ∙ ap (signed negative) (to_z-of_z w128 t.1 t_fits)) in
    let narrow : sum_of (λ (u : Term). signed negative u.1) terms < 2 ^ 127 = omega (arith, magnitude_sum negative terms, c.requires.narrow) in
    let next = positive_next (λ u. signed negative u.1) terms i (0, pos 0) (to_z w128 c.loop-term.total-bits) part (omega arith) narrow c.loop-term.invariant part_is in
    let fits : FitsSigned w128 (to_z w128 c.loop-term.total-bits +ℤ part) = omega (arith, ints, next.1, next.2) in
    to_z-of_z w128 (to_z w128 c.loop-term.total-bits +ℤ part) fits ∙ next.0

pub returns : goal.returns
returns c =
    let negative = c.args.from.negative in
    let terms = c.args.from.terms.now in
    c.loop-term.invariant ∙ ap (λ (ts : List Term). positive_of (λ u. signed negative u.1) ts) (take_whole terms c.loop-term.term-index (omega arith)) ∙ sym (ap positive_total (coefficients_signed negative terms))
