use Rattle.std.proofs.Common.{◌≡◌, ◌+◌, take}
use Rattle.std.specs.Prelude.{unsigned_abs}
use Rattle.cgl_derive.specs.Knapsack.{total_magnitude}
use Rattle.cgl_check.proofs.knap.is_wide_total.Given as goal

abbrev pub invariant-loop-term : goal.invariant-loop-term
invariant-loop-term l = l.total ≡ total_magnitude (take l.term-index l.terms) + unsigned_abs l.rhs
