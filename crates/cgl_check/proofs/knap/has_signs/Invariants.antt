use Rattle.std.proofs.Common.{◌≡◌, take, true}
use Rattle.std.specs.List.{list_all}
use Rattle.cgl_derive.specs.Derives.{coefficient}
use Rattle.cgl_check.specs.LinearIneq.{ineq_of}
use Rattle.cgl_check.specs.Tests.{same_sign}
use Rattle.cgl_check.proofs.knap.has_signs.Given as goal

abbrev pub invariant-loop-term : goal.invariant-loop-term
invariant-loop-term l = list_all (λ t. same_sign (coefficient t.0 (ineq_of l.from).terms) t.1) (take l.term-index l.claim) ≡ true
