use Rattle.std.proofs.Common.{◌≡◌, take, false}
use Rattle.std.specs.Prelude.{is_none}
use Rattle.std.specs.List.{list_any}
use Rattle.cgl_check.specs.Walk.{meant_at}
use Rattle.cgl_check.proofs.lin.has_missing.Given as goal

abbrev pub invariant-loop-part : goal.invariant-loop-part
invariant-loop-part l = list_any (λ r. is_none (meant_at l.scope l.frames l.own r.0)) (take l.part-index l.refs) ≡ false
