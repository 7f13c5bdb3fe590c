use Rattle.std.proofs.Common.{◌≡◌, drop}
use Rattle.cgl_check.specs.Accepted.{cut_refusal}
use Rattle.cgl_check.proofs.book.check_cuts.Given as goal

abbrev pub invariant-loop-k : goal.invariant-loop-k
invariant-loop-k l = record {
  refusal : cut_refusal l.m l.shared 0 l.entries ≡ cut_refusal l.m l.shared l.k (drop l.k l.entries);
  work : l.work.columns ≡ l.fn.work.columns;
}
