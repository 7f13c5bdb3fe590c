use Rattle.std.proofs.Common.{◌≡◌, false, is_none, take, length}
use Rattle.std.specs.List.{list_any}
use Rattle.cgl_derive.specs.Totals.{AreNarrow, IsSumOf}
use Rattle.cgl_check.specs.Walk.{meant_at, parts_in}
use Rattle.cgl_check.proofs.lin.add_all.Given as goal

abbrev pub invariant-loop-part : goal.invariant-loop-part
invariant-loop-part l = record {
  size : length l.sum.columns ≡ length l.scope.model.now.cols;
  some : list_any (λ r. is_none (meant_at l.scope l.frames l.own r.0)) (take l.part-index l.refs) ≡ false;
  sum : list_any (λ r. is_none (meant_at l.scope l.frames l.own r.0)) l.refs ≡ false → IsSumOf (take l.part-index (parts_in (meant_at l.scope l.frames l.own) l.refs)) l.sum;
  narrow : list_any (λ r. is_none (meant_at l.scope l.frames l.own r.0)) l.refs ≡ false → AreNarrow (take l.part-index (parts_in (meant_at l.scope l.frames l.own) l.refs));
}
