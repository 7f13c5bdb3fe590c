use Rattle.std.proofs.Common.{[], ◌∷◌, ◌++◌, ◌∙◌, ap, set, sym, subst}
use Rattle.cgl_mps.specs.Tables.{AreColumns, ColumnTable}
use Rattle.cgl_mps.proofs.ColumnTableLaws.{entry_added}
use Rattle.cgl_mps.proofs.column_table.ColumnTable.add_entry.Goals as goal

pub returns : goal.returns
returns c = λ rows read pair is some at says.
    let row_is = c.in-Ok-Ok.ensures in
    let column_is = c.in-Ok-Ok.ensures' in
    let count_is = c.in-Some.ensures in
    entry_added rows read _ pair c.args.place c.args.value c.push_entry.new.columns.items c.set_mark.new.marks.items c.in-Some.count
    (subst (λ (t : ColumnTable). AreColumns rows read t) (sym c.self.view_is) is) some at says
    (λ before marked entries split. c.in_ok-push_entry.ensures before marked entries split ∙ ap (λ row. before ++ (marked, entries ++ (row, c.args.value) ∷ []) ∷ []) row_is.1)
    (c.set_mark.ensures ∙ ap (set c.self.inside.marks.items c.args.place) (column_is.1 ∙ c.len.ensures))
    count_is.1
