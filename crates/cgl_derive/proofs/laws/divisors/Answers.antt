use Rattle.std.proofs.Common.{map}
use Rattle.std.specs.Prelude.{int_div}
use Rattle.cgl_derive.proofs.RoundingLaws.{ceiling_bounds, exact, multiple_divides, all_divided, divided_all, not_all_zero, above_none}
use Rattle.cgl_derive.specs.Rounding.{divisor_of}
use Rattle.cgl_derive.proofs.laws.divisors.Goals as goal

pub returns-clause-multiple : goal.returns-clause-multiple
returns-clause-multiple c = λ g z above. ((λ divided. (int_div z g, exact z g divided)), (λ (k, is). multiple_divides z g k above is))

pub returns-clause-ceiling : goal.returns-clause-ceiling
returns-clause-ceiling c = λ g z above. ceiling_bounds z g above

pub returns-clause-each : goal.returns-clause-each
returns-clause-each c = λ terms. all_divided (divisor_of terms) terms (c.divisors.ensures.each (map (λ t. t.1) terms))

pub returns-clause-greatest : goal.returns-clause-greatest
returns-clause-greatest c = λ terms g all. c.divisors.ensures.greatest (map (λ t. t.1) terms) g (divided_all g terms all)

pub returns-clause-positive : goal.returns-clause-positive
returns-clause-positive c = λ terms rising some. above_none (divisor_of terms) (λ e. not_all_zero terms rising some (c.divisors.ensures.zeros (map (λ t. t.1) terms) e))
