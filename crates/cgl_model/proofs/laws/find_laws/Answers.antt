use Rattle.cgl_model.proofs.AbsentLaws.{absent_is, distinct, earlier, formless, nowhere, number_is, sides_rise, unnumbered, wide_is}
use Rattle.cgl_model.proofs.RowLaws.{through}
use Rattle.cgl_model.proofs.laws.find_laws.Goals as goal

pub returns-clause-absent : goal.returns-clause-absent
returns-clause-absent c = absent_is

pub returns-clause-formless : goal.returns-clause-formless
returns-clause-formless c = formless

pub returns-clause-wide : goal.returns-clause-wide
returns-clause-wide c = wide_is

pub returns-clause-rising : goal.returns-clause-rising
returns-clause-rising c = sides_rise

pub returns-clause-earlier : goal.returns-clause-earlier
returns-clause-earlier c = earlier

pub returns-clause-distinct : goal.returns-clause-distinct
returns-clause-distinct c = distinct

pub returns-clause-none : goal.returns-clause-none
returns-clause-none c = λ place sides. through (unnumbered place sides) (nowhere place sides)

pub returns-clause-found : goal.returns-clause-found
returns-clause-found c = number_is
