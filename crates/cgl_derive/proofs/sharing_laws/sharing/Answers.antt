use Rattle.cgl_derive.proofs.SharingLaws.{cuts_stay, lemmas_first}
use Rattle.cgl_derive.proofs.sharing_laws.sharing.Goals as goal

pub returns-clause-cuts : goal.returns-clause-cuts
returns-clause-cuts c = cuts_stay

pub returns-clause-lemmas : goal.returns-clause-lemmas
returns-clause-lemmas c = lemmas_first
