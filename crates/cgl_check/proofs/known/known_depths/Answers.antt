use Rattle.cgl_check.proofs.KnownLaws.{too_deep}
use Rattle.cgl_check.proofs.known.known_depths.Goals as goal

pub returns-clause-too_deep : goal.returns-clause-too_deep
returns-clause-too_deep c = too_deep
