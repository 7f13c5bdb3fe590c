use Rattle.cgl_derive.proofs.BinaryLaws.{bits_decided}
use Rattle.cgl_derive.proofs.KnapLists.{knap_lists}
use Rattle.cgl_derive.proofs.KnapLiterals.{knap_literals}
use Rattle.cgl_derive.proofs.KnapSound.{knap_sound}
use Rattle.cgl_derive.proofs.laws.knapsacks.Goals as goal

pub returns-clause-sound : goal.returns-clause-sound
returns-clause-sound c = knap_sound

pub returns-clause-lists : goal.returns-clause-lists
returns-clause-lists c = knap_lists

pub returns-clause-literals : goal.returns-clause-literals
returns-clause-literals c = knap_literals

pub returns-clause-test : goal.returns-clause-test
returns-clause-test c = bits_decided
