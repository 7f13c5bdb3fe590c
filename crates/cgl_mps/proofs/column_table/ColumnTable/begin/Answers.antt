use Rattle.std.proofs.Common.{[], ◌∷◌, ◌++◌, ◌∙◌, ap₂, sym, subst}
use Rattle.cgl_mps.specs.Tables.{AreColumns, ColumnTable}
use Rattle.cgl_mps.proofs.ColumnTableLaws.{column_begun}
use Rattle.cgl_mps.proofs.column_table.ColumnTable.begin.Goals as goal

pub returns : goal.returns
returns c = λ rows read is absent.
    column_begun rows read _ c.args.name.now c.find_or_push.new.self c.push.new.self.items
    (subst (λ (t : ColumnTable). AreColumns rows read t) (sym c.self.view_is) is) absent
    c.in_ok-find_or_push.ensures.names
    (c.in-Ok.ensures.items ∙ ap₂ (λ columns entries. columns ++ (c.self.inside.marked, entries) ∷ []) c.shrink_last.ensures c.in_ok-entries.ensures)
