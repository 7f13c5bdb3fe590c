use Rattle.std.proofs.Common.{◌≡◌, length}
use Rattle.cgl_knap.proofs.TableLaws.{IsMoreFrom}
use Rattle.cgl_knap.proofs.table.add_item.Given as goal

abbrev pub invariant-loop-cap : goal.invariant-loop-cap
invariant-loop-cap l = record {
  size : length l.table ≡ length l.fn.table;
  more : IsMoreFrom l.weight l.fn.value l.cap l.fn.table l.table;
}
