use Rattle.std.proofs.Common.{◌+◌, ◌*◌}
use Rattle.cgl_model.specs.Rising.{IsAboveAll}
use Rattle.cgl_check_bench.proofs.made_steps.claim.Given as goal

abbrev pub invariant-loop-k : goal.invariant-loop-k
invariant-loop-k l = IsAboveAll l.terms ((l.row + l.k * 500) * 4)
