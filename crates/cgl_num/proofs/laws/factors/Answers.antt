use Rattle.cgl_num.proofs.GcdLaws.{IsGcd-mul, dvd_other, gcd_quotients}
use Rattle.cgl_num.proofs.laws.factors.Goals as goal

pub returns-clause-multiple : goal.returns-clause-multiple
returns-clause-multiple c = IsGcd-mul

pub returns-clause-other : goal.returns-clause-other
returns-clause-other c = dvd_other

pub returns-clause-quotients : goal.returns-clause-quotients
returns-clause-quotients c = gcd_quotients
