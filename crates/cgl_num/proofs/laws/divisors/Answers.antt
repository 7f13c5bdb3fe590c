use Rattle.cgl_num.proofs.GcdLaws.{gcd_is, gcd_zero, gcd_of_divides, gcd_of_greatest, gcd_of_zero}
use Rattle.cgl_num.proofs.laws.divisors.Goals as goal

pub returns-clause-two : goal.returns-clause-two
returns-clause-two c = gcd_is

pub returns-clause-none : goal.returns-clause-none
returns-clause-none c = gcd_zero

pub returns-clause-each : goal.returns-clause-each
returns-clause-each c = gcd_of_divides

pub returns-clause-greatest : goal.returns-clause-greatest
returns-clause-greatest c = gcd_of_greatest

pub returns-clause-zeros : goal.returns-clause-zeros
returns-clause-zeros c = gcd_of_zero
