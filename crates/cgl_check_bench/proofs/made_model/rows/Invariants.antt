use Rattle.std.proofs.Common.{◌≡◌, length}
use Rattle.cgl_check_bench.proofs.made_model.rows.Given as goal

abbrev pub invariant-loop : goal.invariant-loop
invariant-loop l = length l.rows.items ≡ l.counter
