use Rattle.cgl_derive.proofs.RoundSound.{rounding_sound}
use Rattle.cgl_derive.proofs.RoundingLaws.{rounded_right, right_is_rounded, right_divides}
use Rattle.cgl_derive.proofs.laws.rounding.Goals as goal

pub returns-clause-sound : goal.returns-clause-sound
returns-clause-sound c = rounding_sound

pub returns-clause-right : goal.returns-clause-right
returns-clause-right c = rounded_right

pub returns-clause-only : goal.returns-clause-only
returns-clause-only c = right_is_rounded

pub returns-clause-divided : goal.returns-clause-divided
returns-clause-divided c = right_divides
