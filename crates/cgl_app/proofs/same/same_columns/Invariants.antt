use Rattle.std.proofs.Common.{◌≡◌, true, length, take}
use Rattle.std.specs.Cmp.Lexicographic.{pointwise}
use Rattle.cgl_app.specs.SameModel.{same_column}
use Rattle.cgl_app.proofs.same.same_columns.Given as goal

abbrev pub invariant-loop-k : goal.invariant-loop-k
invariant-loop-k l = record {
  lengths : length l.fn.a ≡ length l.fn.b;
  same : pointwise same_column (take l.k l.fn.a) (take l.k l.fn.b) ≡ true;
}
