use Rattle.cgl_derive.proofs.KnownLaws.{known_rounded, known_cases, known_shared, no_steps, other_divisor, other_claim, branch_end, no_step, no_given, no_shared, negative_multiplier, great_multiplier, great_sum, column_beyond, shared_beyond}
use Rattle.cgl_derive.proofs.known.known_derivations.Goals as goal

pub returns-clause-rounded : goal.returns-clause-rounded
returns-clause-rounded c = known_rounded

pub returns-clause-cases : goal.returns-clause-cases
returns-clause-cases c = known_cases

pub returns-clause-shared : goal.returns-clause-shared
returns-clause-shared c = known_shared

pub returns-clause-empty : goal.returns-clause-empty
returns-clause-empty c = no_steps

pub returns-clause-divisor : goal.returns-clause-divisor
returns-clause-divisor c = other_divisor

pub returns-clause-claim : goal.returns-clause-claim
returns-clause-claim c = other_claim

pub returns-clause-branch : goal.returns-clause-branch
returns-clause-branch c = branch_end

pub returns-clause-step : goal.returns-clause-step
returns-clause-step c = no_step

pub returns-clause-given : goal.returns-clause-given
returns-clause-given c = no_given

pub returns-clause-none_shared : goal.returns-clause-none_shared
returns-clause-none_shared c = no_shared

pub returns-clause-negative : goal.returns-clause-negative
returns-clause-negative c = negative_multiplier

pub returns-clause-multiplier : goal.returns-clause-multiplier
returns-clause-multiplier c = great_multiplier

pub returns-clause-wide : goal.returns-clause-wide
returns-clause-wide c = great_sum

pub returns-clause-column : goal.returns-clause-column
returns-clause-column c = column_beyond

pub returns-clause-shared_column : goal.returns-clause-shared_column
returns-clause-shared_column c = shared_beyond
