use Rattle.cgl_derive.proofs.WeightedLaws.{sum_none, sum_more}
use Rattle.cgl_derive.proofs.NarrowLaws.{narrow_more, narrow_first, narrow_none, right_from, from_right}
use Rattle.cgl_derive.proofs.laws.weighted_sums.Goals as goal

pub returns-clause-none : goal.returns-clause-none
returns-clause-none c = sum_none

pub returns-clause-more : goal.returns-clause-more
returns-clause-more c = sum_more

pub returns-clause-narrow : goal.returns-clause-narrow
returns-clause-narrow c = narrow_more

pub returns-clause-narrow_first : goal.returns-clause-narrow_first
returns-clause-narrow_first c = narrow_first

pub returns-clause-narrow_none : goal.returns-clause-narrow_none
returns-clause-narrow_none c = narrow_none

pub returns-clause-right : goal.returns-clause-right
returns-clause-right c = right_from

pub returns-clause-from_right : goal.returns-clause-from_right
returns-clause-from_right c = from_right
