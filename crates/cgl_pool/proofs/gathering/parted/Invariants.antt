use Rattle.std.proofs.Common.{◌≡◌}
use Rattle.cgl_pool.specs.Listed.{cuts_among, wides_among}
use Rattle.cgl_pool.proofs.gathering.parted.Given as goal

abbrev pub invariant-answers : goal.invariant-answers
invariant-answers l = record {
  cuts : l.cuts.items ≡ cuts_among l.yielded;
  wides : l.wides.items ≡ wides_among l.yielded;
}
