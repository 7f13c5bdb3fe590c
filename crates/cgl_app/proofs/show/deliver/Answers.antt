use Rattle.std.proofs.Common.{rules, ◌≡◌, ◌∙◌, Some, refl}
use Rattle.std.specs.Result.{result_err}
use Rattle.cgl_outside.specs.ScriptLaws.{ended, file_written, put_came}
use Rattle.cgl_words.specs.Meant.{show_words_of}
use Rattle.cgl_app.proofs.ShowStepLaws.{show_refused, show_unwritten, show_written}
use Rattle.cgl_app.proofs.show.deliver.Goals as goal

pub returns-in_err-counts : goal.returns-in_err-counts
returns-in_err-counts g c =
    let end : result_err c.from_residual.result ≡ Some c.in_err-counts.field-0.0 = search rules in
    ended _ _ _ _ _ _ end (show_refused (show_words_of c.args.show.now) _ _ _ _ c.in_err-counts.ensures.refused refl)

pub returns-in_err-write_model : goal.returns-in_err-write_model
returns-in_err-write_model g c =
    let end : result_err c.from_residual-in_err-write_model.result ≡ Some c.in_err-write_model.field-0.0 = search rules in
    let says = c.in_err-write_model.ensures in
    ended _ _ _ _ _ _ end (show_unwritten (show_words_of c.args.show.now) _ _ _ _ _ _ _ _ _ _ c.in_ok-counts.ensures.counts.small says.reads says.refused)

pub returns : goal.returns
returns g c =
    let first = c.in_ok-write_model.ensures in
    let says = c.put_report.ensures in
    let counts = c.in_ok-counts.ensures.counts in
    show_written (show_words_of c.args.show.now) _ _ _ _ counts.small (file_written _ _ _ _ _ _ _ _ _ _ _ _ _ _ _ _ refl first.held first.reads first.writes
    (put_came _ _ c.put_report.result _ _ _ _ _ _ _ _ _ (c.deref.ensures.value ∙ counts.counts_are) says.written says.faults says.refused))
