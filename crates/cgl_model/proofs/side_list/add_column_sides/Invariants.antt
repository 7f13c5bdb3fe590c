use Rattle.std.proofs.Common.{◌≡◌, ◌++◌, take}
use Rattle.cgl_model.specs.IntegerForm.{column_sides_from}
use Rattle.cgl_model.proofs.side_list.add_column_sides.Given as goal

abbrev pub invariant-loop-j : goal.invariant-loop-j
invariant-loop-j l = l.sides ≡ l.fn.sides ++ column_sides_from 0 (take l.j l.columns)
