use Rattle.std.proofs.Common.{◌≡◌, take}
use Rattle.cgl_derive.specs.Derives.{coefficient}
use Rattle.cgl_check.proofs.KnapSumLaws.{positive_of}
use Rattle.cgl_check.proofs.knap.leftover.Given as goal

abbrev pub invariant-loop-term : goal.invariant-loop-term
invariant-loop-term l = l.total ≡ positive_of (λ t. coefficient t.0 l.claim.terms) (take l.term-index l.from.terms.now)
