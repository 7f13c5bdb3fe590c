use Rattle.std.proofs.Common.{◌≡◌, ◌+◌, drop}
use Rattle.cgl_outside.specs.Fails.{listed_keep}
use Rattle.cgl_outside.proofs.fail.begin.Given as goal

abbrev pub invariant-loop-fail : goal.invariant-loop-fail
invariant-loop-fail l = listed_keep (drop l.fail-index l.fails) l.call (l.earlier + 1) ≡ listed_keep l.fails l.call (l.earlier + 1)
