use Rattle.std.proofs.Common.{◌≡◌, length}
use Rattle.cgl_check.proofs.work.table.Given as goal

abbrev pub invariant-loop-place : goal.invariant-loop-place
invariant-loop-place l = length l.table.items ≡ l._place
