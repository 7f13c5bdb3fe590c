use Rattle.std.proofs.Common.{arith}
use Rattle.cgl_knap.proofs.TableLaws.{empty_table}
use Rattle.cgl_knap.proofs.table.clear.Goals as goal

pub returns : goal.returns
returns c = empty_table c.loop-place.table (λ k h. c.loop-place.invariant k (omega arith))
