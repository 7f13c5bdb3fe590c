use Rattle.cgl_num.specs.IntegerLaws.{*ℤ_assoc, +ℤ-*ℤ, *ℤ-+ℤ, *ℤ_swap}
use Rattle.cgl_num.proofs.integer_laws.ring.Goals as goal

pub returns-clause-assoc : goal.returns-clause-assoc
returns-clause-assoc c = *ℤ_assoc

pub returns-clause-right : goal.returns-clause-right
returns-clause-right c = +ℤ-*ℤ

pub returns-clause-left : goal.returns-clause-left
returns-clause-left c = *ℤ-+ℤ

pub returns-clause-swap : goal.returns-clause-swap
returns-clause-swap c = *ℤ_swap
