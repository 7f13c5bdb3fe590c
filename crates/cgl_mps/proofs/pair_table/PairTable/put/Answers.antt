use Rattle.std.proofs.Common.{◌≡◌, ◌∙◌, sym, ap, not}
use Rattle.std.specs.Prelude.{slice_index_or, slice_set}
use Rattle.cgl_mps.specs.declared.pair_table.PairTable.TheInside.{Inside}
use Rattle.cgl_mps.specs.Tables.{PairTable}
use Rattle.cgl_num.specs.NumberText.{number}
use Rattle.cgl_mps.proofs.PlacedLaws.{no_place}
use Rattle.cgl_mps.proofs.PairTableLaws.{first_none, first_some, value_put}
use Rattle.cgl_mps.proofs.pair_table.PairTable.put.Goals as goal
use Rattle.cgl_mps.proofs.pair_table.PairTable.put.Goals.{then-is_none, else-is_none}

pub returns-in_default-clause-values : goal.returns-in_default-clause-values
returns-in_default-clause-values c = λ pairs once known among are. absurd (no_place c.args.rows.now c.args.row.now (sym c.find.ensures ∙ c.in_default.is) among)

pub returns-clause-values : goal.returns-clause-values
returns-clause-values c = λ pairs once known among are.
    let place = c.in-Some.place in
    let found = c.in-Some-get_mut.found.now in
    let value = c.args.value.now in
    let at = sym c.find.ensures ∙ c.in-Some.is in
    let view : c.self.inside.values.items ≡ c.args.self.now.values = ap (λ (table : PairTable). table.values) c.self.view_is in
    let is = c.in-Some-get_mut.ensures.value ∙ ap (λ vs. slice_index_or vs place found) view in
    let put = value_put c.args.rows.now pairs c.args.row.now value place c.args.self.now.values c.if-is_none.self-inside.values.items found in
    elim c.if-is_none.branch [
      | then-is_none w ↦
          put w.number.result once known at are is
          (w.number.ensures ∙ first_none found (number value) (c.is_none.ensures ∙ ap not w.if-is_none.true))
          (ap (λ (it : Inside). it.values.items) w.self-inside-is ∙ ap (λ vs. slice_set vs place w.number.result) view)
      | else-is_none w ↦
          put found once known at are is
          (first_some found (number value) (c.is_none.ensures ∙ ap not w.if-is_none.false))
          (ap (λ (it : Inside). it.values.items) w.self-inside-is ∙ ap (λ vs. slice_set vs place found) view)
    ]
