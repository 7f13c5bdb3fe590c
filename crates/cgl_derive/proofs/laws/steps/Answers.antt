use Rattle.cgl_derive.specs.Derives.{DerivesWithin}
use Rattle.cgl_derive.proofs.Sound.{lin_sound, either_side, split_sound}
use Rattle.cgl_derive.proofs.laws.steps.Goals as goal

pub returns-clause-lin : goal.returns-clause-lin
returns-clause-lin c = λ m parts q claim x right point met. lin_sound m parts q claim x right point.positive met

pub returns-clause-cases : goal.returns-clause-cases
returns-clause-cases c = λ m p p0 x integers f. either_side m x p p0 f integers

pub returns-clause-split : goal.returns-clause-split
returns-clause-split c = λ m shared givens claims n s x right sound f gs cs. split_sound m x (DerivesWithin m shared n) givens claims s f sound gs cs right
