use Rattle.cgl_derive.proofs.KnownLaws.{known_deep, too_deep}
use Rattle.cgl_derive.proofs.known.known_depths.Goals as goal

pub returns-clause-deep : goal.returns-clause-deep
returns-clause-deep c = known_deep

pub returns-clause-too_deep : goal.returns-clause-too_deep
returns-clause-too_deep c = too_deep
