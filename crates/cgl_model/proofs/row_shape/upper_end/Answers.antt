use Rattle.std.proofs.Common.{rules}
use Rattle.cgl_model.proofs.row_shape.upper_end.Goals as goal

pub returns-in-L-clause-narrow : goal.returns-in-L-clause-narrow
returns-in-L-clause-narrow c = search rules

pub returns-in-Some-clause-value : goal.returns-in-Some-clause-value
returns-in-Some-clause-value c = search rules

pub returns-in-Some-clause-narrow : goal.returns-in-Some-clause-narrow
returns-in-Some-clause-narrow c = search rules

pub returns-in-E-clause-value : goal.returns-in-E-clause-value
returns-in-E-clause-value c = search rules

pub returns-in-E-clause-narrow : goal.returns-in-E-clause-narrow
returns-in-E-clause-narrow c = search rules
