use Rattle.std.proofs.Common.{◌≡◌, length, drop}
use Rattle.cgl_knap.specs.LeastCost.{IsLeastTable}
use Rattle.cgl_knap.proofs.WalkLaws.{AreChoicesFrom}
use Rattle.cgl_knap.proofs.cover.fill.Given as goal

abbrev pub invariant-loop-item : goal.invariant-loop-item
invariant-loop-item l = record {
  size : length l.table ≡ length l.fn.table;
  choices : length l.choice ≡ length l.fn.choice;
  places : l.places ≡ length l.fn.table;
  table : IsLeastTable (drop l.item l.weights) (drop l.item l.costs) l.table;
  rows : AreChoicesFrom l.weights l.costs (length l.fn.table) l.item l.choice;
}
