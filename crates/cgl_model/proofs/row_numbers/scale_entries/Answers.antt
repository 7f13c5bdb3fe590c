use Rattle.std.proofs.Common.{◌∙◌, ◌++◌, ◌∷◌, [], ap, map, arith}
use Rattle.std.specs.Int.{w128}
use Rattle.std.proofs.lemmas.Int.{to_z-of_z}
use Rattle.std.proofs.lemmas.List.{take_all}
use Rattle.cgl_model.specs.IntegerForm.{scaled_term}
use Rattle.cgl_model.proofs.BuildLaws.{narrow_push, narrow_signed, scaled_push, wide_at}
use Rattle.cgl_model.proofs.row_numbers.scale_entries.Goals as goal

pub returns-in_default-clause-wide : goal.returns-in_default-clause-wide
returns-in_default-clause-wide c = λ is. wide_at c.args.k c.args.entries.now c.loop-entry.entry-index c.entry-item.result (omega arith) c.entry-item.is c.in_default.ensures.value

pub loop-entry-preserved : goal.loop-entry-preserved
loop-entry-preserved c =
    let coefficient = c.in-Some.coefficient in
    let pushed = c.in-Ok.ensures.ok ∙ ap (λ z. c.loop-entry.coeffs ++ (c.entry-item.result.0, z) ∷ []) (to_z-of_z w128 coefficient (narrow_signed coefficient c.in-Some.ensures.narrow)) in
    record {
      value = scaled_push c.args.k c.args.entries.now c.loop-entry.entry-index c.entry-item.result c.loop-entry.coeffs _ (omega arith) c.entry-item.is c.loop-entry.invariant.value
          (pushed ∙ ap (λ z. c.loop-entry.coeffs ++ (c.entry-item.result.0, z) ∷ []) c.in-Some.ensures.value);
      narrow = narrow_push c.loop-entry.coeffs _ (c.entry-item.result.0, coefficient) c.loop-entry.invariant.narrow c.in-Some.ensures.narrow pushed;
    }

pub returns-clause-value : goal.returns-clause-value
returns-clause-value c = c.loop-entry.invariant.value ∙ ap (map (scaled_term c.args.k)) (take_all c.loop-entry.entry-index c.args.entries.now (omega arith))

pub returns-clause-narrow : goal.returns-clause-narrow
returns-clause-narrow c = c.loop-entry.invariant.narrow
