use Rattle.cgl_knap.proofs.GreatestLaws.{best_of, best_greatest, greatest_one, greatest_decides, greatest_wider, greatest_low, greatest_high}
use Rattle.cgl_knap.proofs.laws.greatest_values.Goals as goal

pub returns-clause-some : goal.returns-clause-some
returns-clause-some c = λ weights values cap. (best_of weights values cap, best_greatest weights values cap)

pub returns-clause-one : goal.returns-clause-one
returns-clause-one c = greatest_one

pub returns-clause-decides : goal.returns-clause-decides
returns-clause-decides c = greatest_decides

pub returns-clause-wider : goal.returns-clause-wider
returns-clause-wider c = greatest_wider

pub returns-clause-low : goal.returns-clause-low
returns-clause-low c = greatest_low

pub returns-clause-high : goal.returns-clause-high
returns-clause-high c = greatest_high
