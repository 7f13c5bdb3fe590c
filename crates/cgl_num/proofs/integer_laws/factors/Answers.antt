use Rattle.cgl_num.specs.IntegerLaws.{neg-*ℤ, cancel_left}
use Rattle.cgl_num.proofs.integer_laws.factors.Goals as goal

pub returns-clause-negated : goal.returns-clause-negated
returns-clause-negated c = neg-*ℤ

pub returns-clause-cancel : goal.returns-clause-cancel
returns-clause-cancel c = cancel_left
