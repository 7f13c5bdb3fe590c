use Rattle.cgl_derive.proofs.KnownSplitLaws.{claim_of_a_branch, given_of_a_branch, known_absurd_case, known_cases_below, known_claim_before, over_continuous_cases, wide_case, wrong_case}
use Rattle.cgl_derive.proofs.known.known_splits.Goals as goal

pub returns-clause-absurd : goal.returns-clause-absurd
returns-clause-absurd c = known_absurd_case

pub returns-clause-before : goal.returns-clause-before
returns-clause-before c = known_claim_before

pub returns-clause-greatest : goal.returns-clause-greatest
returns-clause-greatest c = known_cases_below

pub returns-clause-case : goal.returns-clause-case
returns-clause-case c = wrong_case

pub returns-clause-claim : goal.returns-clause-claim
returns-clause-claim c = claim_of_a_branch

pub returns-clause-given : goal.returns-clause-given
returns-clause-given c = given_of_a_branch

pub returns-clause-wide : goal.returns-clause-wide
returns-clause-wide c = wide_case

pub returns-clause-continuous : goal.returns-clause-continuous
returns-clause-continuous c = over_continuous_cases
