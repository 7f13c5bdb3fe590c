use Rattle.std.proofs.Common.{refl}
use Rattle.cgl_app.proofs.AnsweredLaws.{cut_answered, show_answered, usage_answered}
use Rattle.cgl_app.proofs.program.run.Goals as goal

pub returns-in-None : goal.returns-in-None
returns-in-None g c = usage_answered _ _ _ _ _ _ _ c.in-None.ensures refl _ c.run_usage.ensures.status c.run_usage.ensures.says

pub returns-in-Some-Cut : goal.returns-in-Some-Cut
returns-in-Some-Cut g c = cut_answered c.laws_below.ensures _ _ _ _ _ _ _ _ _ (rw c.in-Some-Cut.field-0-is at c.in-Some-Cut.ensures) c.run_cut.ensures

pub returns-in-Some-Check : goal.returns-in-Some-Check
returns-in-Some-Check g c = usage_answered _ _ _ _ _ _ _ (rw c.in-Some-Check.field-0-is at c.in-Some-Check.ensures) refl _ c.run_usage-in-Some-Check.ensures.status c.run_usage-in-Some-Check.ensures.says

pub returns-in-Some-Show : goal.returns-in-Some-Show
returns-in-Some-Show g c = show_answered c.laws_below.ensures _ _ _ _ _ _ _ _ _ (rw c.in-Some-Show.field-0-is at c.in-Some-Show.ensures) c.run_show.ensures

pub returns-in-Some-Upgrade : goal.returns-in-Some-Upgrade
returns-in-Some-Upgrade g c = usage_answered _ _ _ _ _ _ _ (rw c.in-Some-Upgrade.field-0-is at c.in-Some-Upgrade.ensures) refl _ c.run_usage-in-Some-Upgrade.ensures.status c.run_usage-in-Some-Upgrade.ensures.says
