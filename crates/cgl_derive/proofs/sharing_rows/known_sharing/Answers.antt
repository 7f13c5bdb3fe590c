use Rattle.cgl_derive.proofs.KnownSharingLaws.{claims_stay, dangling_stays, division_shared, lemma_stays, lone_stays, split_stays, twice_shared}
use Rattle.cgl_derive.proofs.sharing_rows.known_sharing.Goals as goal

pub returns-clause-shared : goal.returns-clause-shared
returns-clause-shared c = division_shared

pub returns-clause-twice : goal.returns-clause-twice
returns-clause-twice c = twice_shared

pub returns-clause-behind : goal.returns-clause-behind
returns-clause-behind c = lemma_stays

pub returns-clause-once : goal.returns-clause-once
returns-clause-once c = lone_stays

pub returns-clause-claims : goal.returns-clause-claims
returns-clause-claims c = claims_stay

pub returns-clause-split : goal.returns-clause-split
returns-clause-split c = split_stays

pub returns-clause-dangling : goal.returns-clause-dangling
returns-clause-dangling c = dangling_stays
