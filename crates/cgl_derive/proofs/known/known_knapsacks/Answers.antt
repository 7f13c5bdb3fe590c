use Rattle.cgl_derive.proofs.KnownKnapsackLaws.{known_complemented, known_cover, known_enough, no_from, no_room, not_binary, not_its_column, other_sign, too_far}
use Rattle.cgl_derive.proofs.known.known_knapsacks.Goals as goal

pub returns-clause-cover : goal.returns-clause-cover
returns-clause-cover c = known_cover

pub returns-clause-both_signs : goal.returns-clause-both_signs
returns-clause-both_signs c = known_complemented

pub returns-clause-enough : goal.returns-clause-enough
returns-clause-enough c = known_enough

pub returns-clause-too_far : goal.returns-clause-too_far
returns-clause-too_far c = too_far

pub returns-clause-columns : goal.returns-clause-columns
returns-clause-columns c = not_its_column

pub returns-clause-none : goal.returns-clause-none
returns-clause-none c = no_from

pub returns-clause-sign : goal.returns-clause-sign
returns-clause-sign c = other_sign

pub returns-clause-binary : goal.returns-clause-binary
returns-clause-binary c = not_binary

pub returns-clause-room : goal.returns-clause-room
returns-clause-room c = no_room
