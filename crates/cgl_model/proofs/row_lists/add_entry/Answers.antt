use Rattle.std.proofs.Common.{◌≡◌, ◌∙◌, sym, false}
use Rattle.std.proofs.lemmas.Bool.{cond-false, cond-true, eq-eqb, ne_eqb}
use Rattle.std.proofs.lemmas.Result.{on_ok_weaker}
use Rattle.cgl_model.specs.RowEntries.{ends_in_column}
use Rattle.cgl_model.proofs.RowListLaws.{last_in, none_in}
use Rattle.cgl_model.proofs.row_lists.add_entry.Goals as goal
use Rattle.cgl_model.proofs.row_lists.add_entry.Goals.{in-Some+else-last-column, in_default}

pub returns-then-last-column : goal.returns-then-last-column
returns-then-last-column c =
    let ends = last_in c.args.list.now _ c.args.column c.in-Some.last.now c.as_slice.ensures (sym c.in-Some.ensures.value) in
    sym (cond-true (ends_in_column c.args.column c.args.list.now) _ _ (sym ends ∙ eq-eqb _ _ c.if-last-column.true))

pub returns : goal.returns
returns c =
    let ends : ends_in_column c.args.column c.args.list.now ≡ false = elim c.match-last.branch [
      | in-Some+else-last-column w ↦ sym (last_in c.args.list.now _ c.args.column w.in-Some.last.now c.as_slice.ensures (sym w.in-Some.ensures.value)) ∙ ne_eqb _ _ w.if-last-column.false
      | in_default w ↦ none_in c.args.list.now _ c.args.column c.as_slice.ensures (sym w.in_default.ensures.value)
    ] in
    on_ok_weaker c.push.result (λ e. e ∙ sym (cond-false (ends_in_column c.args.column c.args.list.now) _ _ ends)) c.push.ensures.ok
