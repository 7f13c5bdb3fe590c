use Rattle.std.proofs.Common.{◌≡◌, ◌∙◌, sym, ap, bytes_eq, position}
use Rattle.std.specs.Prelude.{slice_index_or, slice_set}
use Rattle.cgl_decode.specs.Sections.{Bound}
use Rattle.cgl_mps.specs.Tables.{BoundTable}
use Rattle.cgl_mps.proofs.PlacedLaws.{no_place}
use Rattle.cgl_mps.proofs.BoundTableLaws.{bound_put}
use Rattle.cgl_mps.proofs.bound_table.BoundTable.put.Goals as goal

pub returns-in_default-clause-columns : goal.returns-in_default-clause-columns
returns-in_default-clause-columns c = λ bounds once among are. absurd (no_place c.args.names.now c.args.bound.now.column
    (ap (λ (b : Bound). position (bytes_eq b.column) c.args.names.now) (sym c.bound.view_is) ∙ sym c.find.ensures ∙ c.in_default.is) among)

pub returns-clause-columns : goal.returns-clause-columns
returns-clause-columns c = λ bounds once among are.
    let place = c.in-Some.place in
    let found = c.in-Some-get_mut.found.now in
    let view : c.self.inside.columns.items ≡ c.args.self.now.columns = ap (λ (table : BoundTable). table.columns) c.self.view_is in
    bound_put c.args.names.now bounds c.args.bound.now place c.args.self.now.columns _ found c.with.result once
    (ap (λ (b : Bound). position (bytes_eq b.column) c.args.names.now) (sym c.bound.view_is) ∙ sym c.find.ensures ∙ c.in-Some.is) are
    (c.in-Some-get_mut.ensures.value ∙ ap (λ vs. slice_index_or vs place found) view)
    c.with.ensures
    (ap (λ vs. slice_set vs place c.with.result) view)
