use Rattle.std.proofs.Common.{◌∙◌, ap, ◌∷◌, ◌++◌, []}
use Rattle.cgl_mps.specs.Tables.{PairTable}
use Rattle.cgl_mps.proofs.PairTableLaws.{none, row_added}
use Rattle.cgl_mps.proofs.pair_table.PairTable.add_row.Goals as goal

pub returns-clause-ok : goal.returns-clause-ok
returns-clause-ok c = λ rows read name are fresh.
    row_added rows read name c.args.self.now _ are fresh
    (ap (λ (table : PairTable). table.set) c.self.view_is)
    (c.in-Ok.ensures.items ∙ ap (λ (table : PairTable). table.values ++ none ∷ []) c.self.view_is)
