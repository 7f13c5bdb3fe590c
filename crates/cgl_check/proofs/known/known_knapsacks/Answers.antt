use Rattle.cgl_check.proofs.KnownRefusalLaws.{both_literals, full_table, lifted, no_reference, no_room, not_binary, not_its_columns, not_its_sign, other_kind, too_far, too_large, wide_claim, wide_from}
use Rattle.cgl_check.proofs.known.known_knapsacks.Goals as goal

pub returns-clause-cover : goal.returns-clause-cover
returns-clause-cover c = lifted

pub returns-clause-both_signs : goal.returns-clause-both_signs
returns-clause-both_signs c = both_literals

pub returns-clause-enough : goal.returns-clause-enough
returns-clause-enough c = other_kind

pub returns-clause-full : goal.returns-clause-full
returns-clause-full c = full_table

pub returns-clause-value : goal.returns-clause-value
returns-clause-value c = too_far

pub returns-clause-columns : goal.returns-clause-columns
returns-clause-columns c = not_its_columns

pub returns-clause-sign : goal.returns-clause-sign
returns-clause-sign c = not_its_sign

pub returns-clause-binary : goal.returns-clause-binary
returns-clause-binary c = not_binary

pub returns-clause-room : goal.returns-clause-room
returns-clause-room c = no_room

pub returns-clause-large : goal.returns-clause-large
returns-clause-large c = too_large

pub returns-clause-from : goal.returns-clause-from
returns-clause-from c = wide_from

pub returns-clause-claim : goal.returns-clause-claim
returns-clause-claim c = wide_claim

pub returns-clause-none : goal.returns-clause-none
returns-clause-none c = no_reference
