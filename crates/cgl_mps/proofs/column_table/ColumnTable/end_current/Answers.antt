use Rattle.std.proofs.Common.{sym, subst}
use Rattle.cgl_mps.specs.Tables.{AreColumns, ColumnTable}
use Rattle.cgl_mps.proofs.ColumnTableLaws.{column_ended}
use Rattle.cgl_mps.proofs.column_table.ColumnTable.end_current.Goals as goal

pub returns : goal.returns
returns c = λ rows read is.
    column_ended rows read _ c.args.word.now c.same_bytes-self-inside.result (subst (λ (t : ColumnTable). AreColumns rows read t) (sym c.self.view_is) is) c.same_bytes-self-inside.ensures
