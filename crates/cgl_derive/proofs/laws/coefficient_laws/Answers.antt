use Rattle.cgl_derive.proofs.CoefficientLaws.{coefficient_at, coefficient_other, coefficient_past, coefficient_append, coefficient_negated, one_list}
use Rattle.cgl_derive.proofs.laws.coefficient_laws.Goals as goal

pub returns-clause-term : goal.returns-clause-term
returns-clause-term c = coefficient_at

pub returns-clause-none : goal.returns-clause-none
returns-clause-none c = λ terms j other. coefficient_other j terms other

pub returns-clause-beyond : goal.returns-clause-beyond
returns-clause-beyond c = λ terms n j below past. coefficient_past n j terms past below

pub returns-clause-both : goal.returns-clause-both
returns-clause-both c = λ terms more j. coefficient_append j terms more

pub returns-clause-negated : goal.returns-clause-negated
returns-clause-negated c = λ terms j. coefficient_negated j terms

pub returns-clause-one : goal.returns-clause-one
returns-clause-one c = one_list
