use Rattle.cgl_check.proofs.KnownLaws.{branch_end, continuous, divided, each_cut, empty_list, negative, no_claim, no_column, no_given, other_divisor, other_quotient, too_wide, two_cases}
use Rattle.cgl_check.proofs.known.known_failures.Goals as goal

pub returns-clause-empty : goal.returns-clause-empty
returns-clause-empty c = empty_list

pub returns-clause-halved : goal.returns-clause-halved
returns-clause-halved c = divided

pub returns-clause-divisor : goal.returns-clause-divisor
returns-clause-divisor c = other_divisor

pub returns-clause-quotient : goal.returns-clause-quotient
returns-clause-quotient c = other_quotient

pub returns-clause-claim : goal.returns-clause-claim
returns-clause-claim c = no_claim

pub returns-clause-negative : goal.returns-clause-negative
returns-clause-negative c = negative

pub returns-clause-wide : goal.returns-clause-wide
returns-clause-wide c = too_wide

pub returns-clause-column : goal.returns-clause-column
returns-clause-column c = no_column

pub returns-clause-given : goal.returns-clause-given
returns-clause-given c = no_given

pub returns-clause-cases : goal.returns-clause-cases
returns-clause-cases c = two_cases

pub returns-clause-branch : goal.returns-clause-branch
returns-clause-branch c = branch_end

pub returns-clause-continuous : goal.returns-clause-continuous
returns-clause-continuous c = continuous

pub returns-clause-each : goal.returns-clause-each
returns-clause-each c = each_cut
