use Rattle.std.proofs.Common.{◌∙◌, ap, bytes_eq, is_some, sym, true≢false}
use Rattle.std.proofs.lemmas.Result.{on_ok_weaker}
use Rattle.cgl_text.proofs.NameLaws.{is_found}
use Rattle.cgl_mps.specs.declared.resolve.Resolved.{Resolved}
use Rattle.cgl_mps.proofs.column_table.ColumnTable.push_pair.Goals as goal

pub returns-in_default : goal.returns-in_default
returns-in_default c = λ rows read pair is some known says.
    absurd (true≢false (sym known.0 ∙ sym (is_found (bytes_eq pair.0) rows) ∙ ap is_some (sym (ap (λ (p : Resolved). p.row) says) ∙ c.in_default.is)))

pub returns : goal.returns
returns c =
    on_ok_weaker c.add_entry.result
    (λ added rows read pair is some known says. added rows read pair is some
    (sym (ap (λ (p : Resolved). p.row) says) ∙ c.in-Some.is) (sym (ap (λ (p : Resolved). p.value) says) ∙ c.in-Some-value.is))
    c.add_entry.ensures
