use Rattle.std.proofs.Common.{◌≡◌, ◌≤◌}
use Rattle.cgl_check_bench.proofs.accepted.Given as goal

abbrev pub invariant-loop : goal.invariant-loop
invariant-loop l = record {
  work : l.work ≡ l.initial.work;
  counted : l.accepted ≤ l.counter;
}
