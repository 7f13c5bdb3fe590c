use Rattle.std.proofs.Common.{drop}
use Rattle.cgl_knap.specs.Greatest.{IsTable}
use Rattle.cgl_knap.proofs.table.fill.Given as goal

abbrev pub invariant-loop-item : goal.invariant-loop-item
invariant-loop-item l = IsTable (drop l.item l.weights) (drop l.item l.values) l.table
