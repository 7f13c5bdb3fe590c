use Rattle.cgl_derive.proofs.Sound.{sound, sound_within}
use Rattle.cgl_derive.proofs.laws.soundness.Goals as goal

pub returns-clause-within : goal.returns-clause-within
returns-clause-within c = λ m shared n x decimals f met. sound_within m shared x n (c.sides_meaning.ensures.feasible m x decimals f) f met

pub returns-clause-derivation : goal.returns-clause-derivation
returns-clause-derivation c = λ m shared d claim x decimals derives f met. sound m shared d claim x (c.sides_meaning.ensures.feasible m x decimals f) derives f met
