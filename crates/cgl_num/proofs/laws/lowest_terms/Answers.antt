use Rattle.cgl_num.proofs.FractionLaws.{lowest_value, lowest_lowest, lowest_above, above_lowest, lowest_zero, zero_lowest}
use Rattle.cgl_num.proofs.ArithmeticLaws.{lowest_same}
use Rattle.cgl_num.proofs.laws.lowest_terms.Goals as goal

pub returns-clause-value : goal.returns-clause-value
returns-clause-value c = lowest_value

pub returns-clause-lowest : goal.returns-clause-lowest
returns-clause-lowest c = lowest_lowest

pub returns-clause-above : goal.returns-clause-above
returns-clause-above c num den = (lowest_above num den, above_lowest num den)

pub returns-clause-zero : goal.returns-clause-zero
returns-clause-zero c num den = (lowest_zero num den, zero_lowest num den)

pub returns-clause-one : goal.returns-clause-one
returns-clause-one c = lowest_same
