use Rattle.cgl_derive.proofs.LayerLaws.{derived, derived_within, last_ends}
use Rattle.cgl_derive.proofs.ColumnLaws.{claim_columns}
use Rattle.cgl_derive.proofs.laws.lists.Goals as goal

pub returns-clause-derivation : goal.returns-clause-derivation
returns-clause-derivation c = derived

pub returns-clause-within : goal.returns-clause-within
returns-clause-within c = λ m shared givens claims n layers aim. derived_within m shared n givens claims layers aim

pub returns-clause-last : goal.returns-clause-last
returns-clause-last c = last_ends

pub returns-clause-columns : goal.returns-clause-columns
returns-clause-columns c = claim_columns
