use Rattle.cgl_where.proofs.LimitLaws.{denominators_least, points_within, results_are_points, values_kept}
use Rattle.cgl_where.proofs.FrontLaws.{front_means}
use Rattle.cgl_where.proofs.laws.known_points.Goals as goal

pub returns-clause-within : goal.returns-clause-within
returns-clause-within c = points_within

pub returns-clause-least : goal.returns-clause-least
returns-clause-least c = denominators_least

pub returns-clause-values : goal.returns-clause-values
returns-clause-values c = values_kept

pub returns-clause-fronts : goal.returns-clause-fronts
returns-clause-fronts c = front_means

pub returns-clause-results : goal.returns-clause-results
returns-clause-results c = results_are_points
