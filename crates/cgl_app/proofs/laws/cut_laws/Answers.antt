use Rattle.cgl_app.proofs.CutMeaningLaws.{cuts_accepted, cuts_met, cuts_right, refused_by_size, same_points}
use Rattle.cgl_app.proofs.laws.cut_laws.Goals as goal

pub returns-clause-right : goal.returns-clause-right
returns-clause-right c = cuts_right c.laws_below.ensures

pub returns-clause-met : goal.returns-clause-met
returns-clause-met c = cuts_met c.laws_below.ensures

pub returns-clause-points : goal.returns-clause-points
returns-clause-points c = same_points c.laws_below.ensures

pub returns-clause-sizes : goal.returns-clause-sizes
returns-clause-sizes c = refused_by_size c.laws_below.ensures

pub returns-clause-accepted : goal.returns-clause-accepted
returns-clause-accepted c = cuts_accepted c.laws_below.ensures
