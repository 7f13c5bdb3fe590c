use Rattle.cgl_knap.proofs.CoverLaws.{within_or_cover, within_no_cover, some_cover, one_pick, pick_cost}
use Rattle.cgl_knap.proofs.laws.covers.Goals as goal

pub returns-clause-either : goal.returns-clause-either
returns-clause-either c = within_or_cover

pub returns-clause-not_both : goal.returns-clause-not_both
returns-clause-not_both c = within_no_cover

pub returns-clause-some : goal.returns-clause-some
returns-clause-some c = some_cover

pub returns-clause-one : goal.returns-clause-one
returns-clause-one c = one_pick

pub returns-clause-cost : goal.returns-clause-cost
returns-clause-cost c = pick_cost
