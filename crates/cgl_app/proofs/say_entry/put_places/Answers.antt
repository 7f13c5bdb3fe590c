use Rattle.std.proofs.Common.{None}
use Rattle.cgl_app.specs.Refusals.{behind_point}
use Rattle.cgl_app.proofs.SaidLaws.{items_broken, items_more, nothing_said}
use Rattle.cgl_app.proofs.say_entry.put_places.Goals as goal

pub places-init : goal.places-init
places-init g c = nothing_said _ _

pub returns-in_default-clause-err : goal.returns-in_default-clause-err
returns-in_default-clause-err g c =
    items_broken behind_point c.args.places.now c.places.place-index (0, None) _ _ _ _ _ _ c.places-test.true c.places.invariant c.in_default.ensures.err

pub places-preserved : goal.places-preserved
places-preserved g c =
    items_more behind_point c.args.places.now c.places.place-index (0, None) _ _ _ _ _ _ c.places-test.true c.places.invariant c.in-Ok.ensures.ok
