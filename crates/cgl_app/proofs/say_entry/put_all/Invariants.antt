use Rattle.std.proofs.Common.{◌≡◌, take, map}
use Rattle.cgl_outside.specs.Sink.{with_put}
use Rattle.cgl_outside.specs.Says.{joined}
use Rattle.cgl_app.proofs.say_entry.put_all.Given as goal

abbrev pub invariant-pieces : goal.invariant-pieces
invariant-pieces g l = record {
  written : g.E.Sink.written l.err ≡ with_put (g.E.Sink.written l.fn.err) (joined (take l.piece-index (map (λ piece. piece.now) l.pieces)));
  faults : g.E.Sink.faults l.err ≡ g.E.Sink.faults l.fn.err;
}
