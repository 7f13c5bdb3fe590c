use Rattle.cgl_derive.proofs.KnownSplitLaws.{known_nothing, known_weaker, magnitudes_added, no_denominator, stronger}
use Rattle.cgl_derive.proofs.known.known_sums.Goals as goal

pub returns-clause-none : goal.returns-clause-none
returns-clause-none c = known_nothing

pub returns-clause-weaker : goal.returns-clause-weaker
returns-clause-weaker c = known_weaker

pub returns-clause-zero : goal.returns-clause-zero
returns-clause-zero c = no_denominator

pub returns-clause-stronger : goal.returns-clause-stronger
returns-clause-stronger c = stronger

pub returns-clause-magnitudes : goal.returns-clause-magnitudes
returns-clause-magnitudes c = magnitudes_added
