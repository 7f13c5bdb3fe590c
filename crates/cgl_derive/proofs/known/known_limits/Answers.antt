use Rattle.cgl_derive.proofs.KnownKnapsackLaws.{known_full, too_large, wide_claim, wide_from}
use Rattle.cgl_derive.proofs.known.known_limits.Goals as goal

pub returns-clause-full : goal.returns-clause-full
returns-clause-full c = known_full

pub returns-clause-too_large : goal.returns-clause-too_large
returns-clause-too_large c = too_large

pub returns-clause-from : goal.returns-clause-from
returns-clause-from c = wide_from

pub returns-clause-claim : goal.returns-clause-claim
returns-clause-claim c = wide_claim
