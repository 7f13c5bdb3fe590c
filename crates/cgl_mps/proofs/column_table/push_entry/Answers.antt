use Rattle.std.proofs.Common.{arith}
use Rattle.std.proofs.lemmas.Result.{on_ok_weaker}
use Rattle.cgl_mps.proofs.ColumnTableLaws.{last_gets}
use Rattle.cgl_mps.proofs.column_table.push_entry.Goals as goal

pub returns : goal.returns
returns c =
    on_ok_weaker c.push.result
    (λ more. last_gets c.args.columns.now.items c.in-Some.last (c.column.inside.marked, c.column.inside.entries) c.index_mut-column.result.now c.push.new.self c.args.entry
    (omega (arith, c.in-Some.ensures, c.len.ensures, c.args.columns.now.ok)) c.column.view_is c.index_mut-column.ensures.value more)
    c.push.ensures.ok
