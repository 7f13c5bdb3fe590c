use Rattle.std.proofs.Common.{◌≡◌, map, take}
use Rattle.cgl_where.proofs.columns.Columns.of.Given as goal

abbrev pub invariant-loop-column : goal.invariant-loop-column
invariant-loop-column l = l.names ≡ map (λ c. c.name) (take l.column-index l.column-items)
