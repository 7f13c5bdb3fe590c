use Rattle.std.proofs.Common.{ap, length, arith}
use Rattle.cgl_model.proofs.FormListLaws.{few_sides, forms_are}
use Rattle.cgl_model.proofs.PlaceLaws.{all_sides_rise}
use Rattle.cgl_model.proofs.integer_forms.Forms.build.Goals as goal

pub returns-clause-value : goal.returns-clause-value
returns-clause-value c =
    forms_are c.args.m.now _ _ _ _ c.in_ok-add_rows.ensures.shapes c.in_ok-add_rows.ensures.sides c.in_ok-add_column_sides.ensures c.as_slice.ensures

pub invariant_of-result : goal.invariant_of-result
invariant_of-result c =
    let first = c.in_ok-add_rows.ensures.sides in
    record {
      size = few_sides c.args.m.now _ _ c.as_slice.result.now c.requires.rows (let size = ap length c.as_slice.ensures in omega (arith, size)) first c.in_ok-add_column_sides.ensures;
      order = all_sides_rise c.args.m.now _ _ c.as_slice.result.now c.requires.rows first c.in_ok-add_column_sides.ensures;
    }
