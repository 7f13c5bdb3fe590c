use Rattle.std.proofs.Common.{rules}
use Rattle.cgl_model.proofs.row_shape.lower_end.Goals as goal

pub returns-in-Some : goal.returns-in-Some
returns-in-Some c = search rules

pub returns-in-E : goal.returns-in-E
returns-in-E c = search rules
