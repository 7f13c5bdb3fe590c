use Rattle.cgl_decode.proofs.FrontLaws.{front_within, front_decides}
use Rattle.cgl_decode.proofs.laws.front_decides.Goals as goal

pub returns-clause-within : goal.returns-clause-within
returns-clause-within c = front_within

pub returns-clause-whole : goal.returns-clause-whole
returns-clause-whole c = front_decides
