use Rattle.std.proofs.Common.{◌∙◌, ap, ap₂, ◌∷◌, ◌++◌, [], Some, None, false}
use Rattle.cgl_num.specs.Decimal.{Decimal}
use Rattle.cgl_mps.specs.Tables.{BoundTable}
use Rattle.cgl_mps.proofs.BoundTableLaws.{bounds_are, column_added}
use Rattle.cgl_mps.proofs.bound_table.BoundTable.add_column.Goals as goal

pub returns-clause-ok : goal.returns-clause-ok
returns-clause-ok c = λ names read name are fresh.
    column_added names read name c.args.self.now _ are fresh
    (ap (λ (table : BoundTable). table.set) c.self.view_is)
    (c.in-Ok.ensures.items ∙ ap₂ (λ vs v. vs ++ v ∷ []) (ap (λ (table : BoundTable). table.columns) c.self.view_is) (c.from_lower-none.ensures ∙ ap (λ (zero : Decimal). bounds_are (Some zero) None false false) c.zero.ensures))
