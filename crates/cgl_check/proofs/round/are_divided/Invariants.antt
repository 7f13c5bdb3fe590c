use Rattle.std.proofs.Common.{◌≡◌, take, true}
use Rattle.std.specs.List.{list_all}
use Rattle.cgl_derive.specs.Rounding.{divides}
use Rattle.cgl_check.specs.LinearIneq.{signed}
use Rattle.cgl_check.proofs.round.are_divided.Given as goal

abbrev pub invariant-loop-term : goal.invariant-loop-term
invariant-loop-term l = list_all (λ t. divides l.g (signed l.from.negative t.1)) (take l.term-index l.from.terms.now) ≡ true
