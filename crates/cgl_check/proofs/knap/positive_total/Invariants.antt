use Rattle.std.proofs.Common.{◌≡◌, take}
use Rattle.cgl_check.specs.LinearIneq.{signed}
use Rattle.cgl_check.proofs.KnapSumLaws.{positive_of}
use Rattle.cgl_check.proofs.knap.positive_total.Given as goal

abbrev pub invariant-loop-term : goal.invariant-loop-term
invariant-loop-term l = l.total ≡ positive_of (λ t. signed l.from.negative t.1) (take l.term-index l.from.terms.now)
