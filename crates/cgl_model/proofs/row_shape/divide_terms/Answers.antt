use Rattle.std.proofs.Common.{rules, ◌≡◌, ◌∷◌, ◌++◌, [], ◌∙◌, ap, sym, pos, get_or, arith}
use Rattle.std.specs.Prelude.{FitsSigned}
use Rattle.std.specs.List.{filter}
use Rattle.std.specs.Int.{w128}
use Rattle.std.proofs.lemmas.Int.{to_z-of_z}
use Rattle.std.proofs.lemmas.List.{append-nil}
use Rattle.cgl_model.specs.IntegerForm.{is_nonzero_term}
use Rattle.cgl_model.proofs.BuildLaws.{divided_push}
use Rattle.cgl_model.proofs.RiseLaws.{divided_above}
use Rattle.cgl_model.proofs.row_shape.divide_terms.Goals as goal
use Rattle.cgl_model.proofs.row_shape.divide_terms.Goals.{then-coefficient-ne0+in_ok-push, else-coefficient-ne0}

pub push-requires-clause-column : goal.push-requires-clause-column
push-requires-clause-column c =
    divided_above _ c.args.coeffs.now c.loop-term.terms c.loop-term.term-index (0, pos 0) c.requires.rising (omega arith) c.loop-term.invariant

pub loop-term-preserved : goal.loop-term-preserved
loop-term-preserved c =
    let t = get_or c.args.coeffs.now c.loop-term.term-index (0, pos 0) in
    let coefficient : FitsSigned w128 t.1 = search rules in
    let value = rw (to_z-of_z w128 t.1 coefficient) at c.divide-coefficient.ensures.value in
    let z = c.divide-coefficient.result in
    let result : FitsSigned w128 z = search rules in
    let kept = filter is_nonzero_term ((t.0, z) ∷ []) in
    let pushed : c.if-coefficient-ne0.terms ≡ c.loop-term.terms ++ kept = elim c.if-coefficient-ne0.branch [
      | then-coefficient-ne0+in_ok-push w ↦
          let one : (t.0, z) ∷ [] ≡ kept = search rules in
          w.terms-is ∙ rw (to_z-of_z w128 z result) at w.in_ok-push.ensures.ok ∙ ap (λ terms. c.loop-term.terms ++ terms) one
      | else-coefficient-ne0 w ↦
          let none : [] ≡ kept = search rules in
          w.terms-is ∙ sym (append-nil c.loop-term.terms) ∙ ap (λ terms. c.loop-term.terms ++ terms) none
    ] in
    divided_push _ c.args.coeffs.now c.loop-term.term-index (0, pos 0) z c.loop-term.terms _ (omega arith) c.loop-term.invariant value pushed
