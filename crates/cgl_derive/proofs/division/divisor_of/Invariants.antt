use Rattle.std.proofs.Common.{◌≡◌, drop, pos}
use Rattle.cgl_derive.specs.Rounding.{divisor_of}
use Rattle.cgl_derive.proofs.division.divisor_of.Given as goal

abbrev pub invariant-loop-i : goal.invariant-loop-i
invariant-loop-i l = l.divisor ≡ pos (divisor_of (drop l.i l.terms))
