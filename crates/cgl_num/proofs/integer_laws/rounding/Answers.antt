use Rattle.cgl_num.specs.IntegerLaws.{below_dividend, one_ceiling}
use Rattle.cgl_num.proofs.integer_laws.rounding.Goals as goal

pub returns-clause-below : goal.returns-clause-below
returns-clause-below c = below_dividend

pub returns-clause-one : goal.returns-clause-one
returns-clause-one c = one_ceiling
