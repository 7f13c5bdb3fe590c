use Rattle.std.proofs.Common.{◌≡◌, length}
use Rattle.cgl_model.proofs.RowListLaws.{AllGathered}
use Rattle.cgl_model.proofs.row_lists.add_column.Given as goal

abbrev pub invariant-loop-entry : goal.invariant-loop-entry
invariant-loop-entry l = record {
  size : length l.fn.lists ≡ length l.lists;
  gathered : AllGathered l.fn.lists l.lists l.column l.entries l.entry-index;
}
