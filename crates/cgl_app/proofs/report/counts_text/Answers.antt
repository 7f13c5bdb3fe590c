use Rattle.std.proofs.Common.{◌∙◌, ◌++◌, ap, length}
use Rattle.std.specs.Prelude.{sum_by}
use Rattle.std.proofs.lemmas.Result.{IfOk-weaker}
use Rattle.cgl_model.specs.declared.mip.Column.{Column}
use Rattle.cgl_text.specs.GrowthLaws.{grows_as}
use Rattle.cgl_app.specs.Report.{counts_text}
use Rattle.cgl_app.proofs.ReportLaws.{model_counted}
use Rattle.cgl_app.proofs.report.counts_text.Goals as goal

pub returns : goal.returns
returns c =
    let entries = c.entries.ensures ∙ ap (sum_by (λ (column : Column). length column.entries)) c.as_slice-cols.ensures in
    let grown = grows_as _ _ _ _ (model_counted c.args.model.now _ _ _ (ap length c.as_slice.ensures) (ap length c.as_slice-cols.ensures) entries) c.append_counts.ensures in
    IfOk-weaker c.finish.result _ _ (λ bytes e. e.1 ∙ (grown.whole e.0).1 ∙ ap (λ z. z ++ counts_text c.args.model.now) c.new-text.ensures.empty) c.finish.ensures.text
