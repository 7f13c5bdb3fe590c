use Rattle.std.proofs.Common.{◌≡◌, drop, nat_lt}
use Rattle.std.specs.List.{list_any}
use Rattle.cgl_decode.specs.Faults.{rank}
use Rattle.cgl_mps.proofs.judge.is_behind.Given as goal

abbrev pub invariant-loop-header : goal.invariant-loop-header
invariant-loop-header l = list_any (λ other. nat_lt (rank l.section) (rank other)) (drop l.header-index l.header-items) ≡ list_any (λ other. nat_lt (rank l.section) (rank other)) l.state.headers
