use Rattle.std.proofs.Common.{sym, subst}
use Rattle.cgl_mps.specs.Tables.{AreColumns, ColumnTable}
use Rattle.cgl_mps.proofs.ColumnTableLaws.{row_added}
use Rattle.cgl_mps.proofs.column_table.ColumnTable.add_row.Goals as goal

pub returns-clause-row : goal.returns-clause-row
returns-clause-row c = λ rows read name is.
    row_added rows read _ name c.push.new.self.items (subst (λ (t : ColumnTable). AreColumns rows read t) (sym c.self.view_is) is) c.in-Ok.ensures.items
