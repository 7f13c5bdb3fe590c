use Rattle.std.proofs.Common.{◌≡◌, [], take, drop}
use Rattle.cgl_derive.specs.Books.{inequalities}
use Rattle.cgl_check.specs.Accepted.{shared_refusal}
use Rattle.cgl_check.specs.Tests.{AreOverColumns}
use Rattle.cgl_check.proofs.book.check_shared.Given as goal

abbrev pub invariant-loop-k : goal.invariant-loop-k
invariant-loop-k l = record {
  refusal : shared_refusal l.m [] 0 l.entries ≡ shared_refusal l.m (inequalities (take l.k l.entries)) l.k (drop l.k l.entries);
  over : AreOverColumns l.m (inequalities (take l.k l.entries));
  work : l.work.columns ≡ l.fn.work.columns;
}
