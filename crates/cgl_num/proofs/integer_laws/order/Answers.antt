use Rattle.cgl_num.specs.IntegerLaws.{cancel_right}
use Rattle.cgl_num.proofs.integer_laws.order.Goals as goal

pub returns-clause-cancel : goal.returns-clause-cancel
returns-clause-cancel c = cancel_right
