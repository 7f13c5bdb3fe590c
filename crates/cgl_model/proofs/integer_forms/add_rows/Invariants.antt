use Rattle.std.proofs.Common.{◌≡◌, take}
use Rattle.cgl_model.specs.IntegerForm.{row_shapes_from, row_sides_from}
use Rattle.cgl_model.proofs.integer_forms.add_rows.Given as goal

abbrev pub invariant-loop-r : goal.invariant-loop-r
invariant-loop-r l = record {
  shapes : l.shapes ≡ row_shapes_from l.m 0 (take l.r l.rows);
  sides : l.sides ≡ row_sides_from 0 (row_shapes_from l.m 0 (take l.r l.rows));
}
