use Rattle.cgl_num.proofs.NumberLawsValid.{number-valid, bound-valid, bound-number, bound-small, number-value, reach-value}
use Rattle.cgl_num.proofs.laws_decimal.number_laws.Goals as goal

pub returns-clause-number_valid : goal.returns-clause-number_valid
returns-clause-number_valid c = number-valid

pub returns-clause-bound_valid : goal.returns-clause-bound_valid
returns-clause-bound_valid c = bound-valid

pub returns-clause-bound_number : goal.returns-clause-bound_number
returns-clause-bound_number c = bound-number

pub returns-clause-bound_small : goal.returns-clause-bound_small
returns-clause-bound_small c = bound-small

pub returns-clause-number_value : goal.returns-clause-number_value
returns-clause-number_value c = number-value

pub returns-clause-reach : goal.returns-clause-reach
returns-clause-reach c = reach-value
