use Rattle.std.proofs.Common.{◌≡◌, take, map}
use Rattle.std.specs.Prelude.{int_div}
use Rattle.cgl_derive.proofs.division.rounded.Given as goal

abbrev pub invariant-loop-term : goal.invariant-loop-term
invariant-loop-term l = l.terms ≡ map (λ t. (t.0, int_div t.1 l.fn.divisor)) (take l.term-index l.ineq.terms)
