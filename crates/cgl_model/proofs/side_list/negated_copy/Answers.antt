use Rattle.std.proofs.Common.{rules, ◌≡◌, ℤ, pos, ◌∙◌, ap, to_z, of_z, ◌++◌, ◌∷◌, [], get_or, arith, subst, sym, List}
use Rattle.std.specs.Prelude.{FitsSigned, ◌-ℤ◌}
use Rattle.std.proofs.Math.IntN.{neg_ℤ}
use Rattle.std.specs.Int.{w128}
use Rattle.std.proofs.lemmas.Int.{ints}
use Rattle.cgl_model.specs.Inequality.{Term}
use Rattle.cgl_model.specs.Rising.{IsCoefficient, IsRising}
use Rattle.cgl_model.proofs.SideListLaws.{coefficient_at, negated_above, negated_coefficient, negated_push}
use Rattle.cgl_model.proofs.side_list.negated_copy.Goals as goal

rising_items : (items terms : List Term) → items ≡ terms → IsRising terms → IsRising items
rising_items items terms e r = let F : List Term → Type 0 = IsRising in subst F (sym e) r

pub overflow_sub-term : goal.overflow_sub-term
overflow_sub-term c =
    let rising = rising_items _ _ c.as_slice-term-items.ensures.value c.as_slice-term-items.ensures.rising in
    let coefficient = coefficient_at c.as_slice-term-items.result.now c.loop-term.term-index (0, pos 0) rising (omega arith) in
    let narrow = coefficient.narrow in
    omega (arith, ints, narrow)

pub push-requires-clause-column : goal.push-requires-clause-column
push-requires-clause-column c =
    let rising = rising_items _ _ c.as_slice-term-items.ensures.value c.as_slice-term-items.ensures.rising in
    negated_above c.as_slice-term-items.result.now c.loop-term.copy c.loop-term.term-index (0, pos 0) rising (omega arith) c.loop-term.invariant

pub push-requires-clause-coefficient : goal.push-requires-clause-coefficient
push-requires-clause-coefficient c =
    let rising = rising_items _ _ c.as_slice-term-items.ensures.value c.as_slice-term-items.ensures.rising in
    let coefficient = coefficient_at c.as_slice-term-items.result.now c.loop-term.term-index (0, pos 0) rising (omega arith) in
    let t = get_or c.as_slice-term-items.result.now c.loop-term.term-index (0, pos 0) in
    let fits : FitsSigned w128 t.1 = search rules in
    let narrow = coefficient.narrow in
    let value : to_z w128 (of_z w128 (pos 0 -ℤ to_z w128 (of_z w128 t.1))) ≡ neg_ℤ t.1 = omega (arith, ints, fits, narrow) in
    let F : ℤ → Type 0 = IsCoefficient in
    subst F (sym value) (negated_coefficient t.1 coefficient)

pub loop-term-preserved : goal.loop-term-preserved
loop-term-preserved c =
    let rising = rising_items _ _ c.as_slice-term-items.ensures.value c.as_slice-term-items.ensures.rising in
    let coefficient = coefficient_at c.as_slice-term-items.result.now c.loop-term.term-index (0, pos 0) rising (omega arith) in
    let t = get_or c.as_slice-term-items.result.now c.loop-term.term-index (0, pos 0) in
    let fits : FitsSigned w128 t.1 = search rules in
    let narrow = coefficient.narrow in
    let value : to_z w128 (of_z w128 (pos 0 -ℤ to_z w128 (of_z w128 t.1))) ≡ neg_ℤ t.1 = omega (arith, ints, fits, narrow) in
    negated_push c.as_slice-term-items.result.now c.loop-term.term-index (0, pos 0) c.loop-term.copy _ (omega arith) c.loop-term.invariant
    (c.in_ok-push.ensures.ok ∙ ap (λ z. c.loop-term.copy ++ (t.0, z) ∷ []) value)
