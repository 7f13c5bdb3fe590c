use Rattle.std.proofs.Common.{◌∙◌, ap, arith}
use Rattle.cgl_model.specs.IntegerForm.{row_shape}
use Rattle.cgl_model.proofs.FormListLaws.{all_row_sides, all_shapes, entries_read, list_rises, shape_step, side_step}
use Rattle.cgl_model.proofs.integer_forms.add_rows.Goals as goal

pub shape_of_row-requires : goal.shape_of_row-requires
shape_of_row-requires c =
    let is = c.as_slice.ensures ∙ entries_read c.args.m.now c.as_slice-entries.result.now _ c.as_slice-rows.result.now c.loop-r.r _ _ c.index-entries-r.is c.as_slice-entries.ensures.value c.in_ok-lists.ensures.length c.as_slice-rows.ensures (omega arith) c.in_ok-lists.ensures.rows in
    list_rises c.args.m.now c.loop-r.r _ is

pub loop-r-preserved : goal.loop-r-preserved
loop-r-preserved c =
    let is = c.as_slice.ensures ∙ entries_read c.args.m.now c.as_slice-entries.result.now _ c.as_slice-rows.result.now c.loop-r.r _ _ c.index-entries-r.is c.as_slice-entries.ensures.value c.in_ok-lists.ensures.length c.as_slice-rows.ensures (omega arith) c.in_ok-lists.ensures.rows in
    let own = c.in_ok-shape.ensures.value ∙ ap (λ es. row_shape es c.index-rows-r.result) is in
    record {
      shapes = shape_step c.args.m.now c.as_slice-rows.result.now c.loop-r.r c.index-rows-r.result _ c.loop-r.shapes _ (omega arith) c.index-rows-r.is own c.loop-r.invariant.shapes c.in_ok-push.ensures.ok;
      sides = side_step c.args.m.now c.as_slice-rows.result.now c.loop-r.r c.index-rows-r.result _ c.loop-r.sides _ (omega arith) c.index-rows-r.is own c.loop-r.invariant.sides c.in_ok-add_row_sides.ensures;
    }

pub returns-clause-shapes : goal.returns-clause-shapes
returns-clause-shapes c = all_shapes c.args.m.now _ c.loop-r.r _ (omega arith) c.as_slice-rows.ensures c.loop-r.invariant.shapes

pub returns-clause-sides : goal.returns-clause-sides
returns-clause-sides c = all_row_sides c.args.m.now _ c.loop-r.r _ (omega arith) c.as_slice-rows.ensures c.loop-r.invariant.sides
