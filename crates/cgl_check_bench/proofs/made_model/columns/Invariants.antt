use Rattle.std.proofs.Common.{◌≡◌, length}
use Rattle.cgl_check_bench.proofs.made_model.columns.Given as goal

abbrev pub invariant-loop-at : goal.invariant-loop-at
invariant-loop-at l = length l.columns.items ≡ l.at
