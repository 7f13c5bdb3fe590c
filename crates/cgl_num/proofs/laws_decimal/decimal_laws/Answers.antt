use Rattle.cgl_num.proofs.DecimalLaws.{scaled-more, few_places, whole-value, whole-places, whole-valid, whole-all}
use Rattle.cgl_num.proofs.laws_decimal.decimal_laws.Goals as goal

pub returns-clause-scaled : goal.returns-clause-scaled
returns-clause-scaled c = scaled-more

pub returns-clause-places : goal.returns-clause-places
returns-clause-places c = few_places

pub returns-clause-whole_value : goal.returns-clause-whole_value
returns-clause-whole_value c = whole-value

pub returns-clause-whole_places : goal.returns-clause-whole_places
returns-clause-whole_places c = whole-places

pub returns-clause-whole_valid : goal.returns-clause-whole_valid
returns-clause-whole_valid c = whole-valid

pub returns-clause-whole_all : goal.returns-clause-whole_all
returns-clause-whole_all c = whole-all
