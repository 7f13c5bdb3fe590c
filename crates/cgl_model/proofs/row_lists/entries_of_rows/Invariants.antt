use Rattle.std.proofs.Common.{◌≡◌, ℕ, ◌<◌, [], length, get_or, take}
use Rattle.cgl_model.specs.RowEntries.{row_entries_from}
use Rattle.cgl_model.proofs.row_lists.entries_of_rows.Given as goal

abbrev pub invariant-loop-j : goal.invariant-loop-j
invariant-loop-j l = record {
  size : length l.lists.items ≡ length l.m.rows;
  gathered : (r : ℕ) → r < length l.lists.items → get_or l.lists.items r [] ≡ row_entries_from r 0 (take l.j l.m.cols);
}
