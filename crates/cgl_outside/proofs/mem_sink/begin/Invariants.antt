use Rattle.std.proofs.Common.{◌≡◌, ◌+◌, drop}
use Rattle.cgl_outside.specs.MemSink.{put_keep}
use Rattle.cgl_outside.proofs.mem_sink.begin.Given as goal

abbrev pub invariant-loop-nth : goal.invariant-loop-nth
invariant-loop-nth l = put_keep (drop l.nth-index l.fails) (l.earlier + 1) ≡ put_keep l.fails (l.earlier + 1)
