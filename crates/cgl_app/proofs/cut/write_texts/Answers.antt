use Rattle.std.proofs.Common.{rules, ◌≡◌, ◌∙◌, Some, refl}
use Rattle.std.specs.Result.{result_err}
use Rattle.cgl_outside.specs.ScriptLaws.{ended, file_refused, file_written, put_came}
use Rattle.cgl_words.specs.Meant.{words_of}
use Rattle.cgl_app.proofs.CutStepLaws.{cut_written, deck_unwritten}
use Rattle.cgl_app.proofs.cut.write_texts.Goals as goal

pub returns-in_err-write_model : goal.returns-in_err-write_model
returns-in_err-write_model g c = λ t texts.
    let end : result_err c.from_residual.result ≡ Some c.in_err-write_model.field-0.0 = search rules in
    let says = c.in_err-write_model.ensures in
    ended _ _ _ _ _ _ end (deck_unwritten (words_of c.args.cut.now) t _ _ _ _ _ _ _ _ _ _ texts says.reads says.refused)

pub returns-in_err-write_file : goal.returns-in_err-write_file
returns-in_err-write_file g c = λ t texts.
    let end : result_err c.from_residual-in_err-write_file.result ≡ Some c.in_err-write_file.field-0.0 = search rules in
    let first = c.in_ok-write_model.ensures in
    let says = c.in_err-write_file.ensures in
    let proofs = c.deref.ensures.value ∙ texts.proofs in
    ended _ _ _ _ _ _ end (cut_written (words_of c.args.cut.now) t _ _ _ _ texts (file_written _ _ _ _ _ _ _ _ _ _ _ _ _ _ _ _ refl first.held first.reads first.writes
    (file_refused _ _ _ _ _ _ _ _ _ _ _ _ _ _ _ proofs says.reads says.refused)))

pub returns : goal.returns
returns g c = λ t texts.
    let first = c.in_ok-write_model.ensures in
    let second = c.in_ok-write_file.ensures in
    let says = c.put_report.ensures in
    let proofs = c.deref.ensures.value ∙ texts.proofs in
    let report = c.deref-2.ensures.value ∙ texts.report in
    cut_written (words_of c.args.cut.now) t _ _ _ _ texts (file_written _ _ _ _ _ _ _ _ _ _ _ _ _ _ _ _ refl first.held first.reads first.writes
    (file_written _ _ _ _ _ _ _ _ _ _ _ _ _ _ _ _ proofs second.held second.reads second.writes
    (put_came _ _ c.put_report.result _ _ _ _ _ _ _ _ _ report says.written says.faults says.refused)))
