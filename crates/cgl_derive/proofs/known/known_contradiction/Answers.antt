use Rattle.std.proofs.Common.{pos, negsuc}
use Rattle.cgl_derive.specs.KnownDerivations.{at_least}
use Rattle.cgl_derive.proofs.KnownLaws.{each_goal}
use Rattle.cgl_derive.proofs.known.known_contradiction.Goals as goal

pub returns-clause-each : goal.returns-clause-each
returns-clause-each c = each_goal

pub returns-clause-great : goal.returns-clause-great
returns-clause-great c = each_goal (at_least (pos 1) (pos 7))

pub returns-clause-small : goal.returns-clause-small
returns-clause-small c = each_goal (at_least (negsuc 0) (pos 100))
