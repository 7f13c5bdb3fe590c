use Rattle.std.proofs.Common.{take, flat_map}
use Rattle.cgl_app.specs.Refusals.{behind_point}
use Rattle.cgl_app.specs.Said.{IsSaid}
use Rattle.cgl_app.proofs.say_entry.put_places.Given as goal

abbrev pub invariant-places : goal.invariant-places
invariant-places g l =
    IsSaid (g.E.Sink.written l.fn.err) (g.E.Sink.written l.err) (g.E.Sink.faults l.fn.err) (g.E.Sink.faults l.err) (flat_map behind_point (take l.place-index l.places))
