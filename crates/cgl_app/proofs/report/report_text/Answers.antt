use Rattle.std.proofs.Common.{◌∙◌, ◌++◌, ap}
use Rattle.std.proofs.lemmas.Result.{IfOk-weaker}
use Rattle.cgl_app.specs.Report.{report_text}
use Rattle.cgl_app.proofs.ReportLaws.{report_grows}
use Rattle.cgl_app.proofs.report.report_text.Goals as goal

pub returns : goal.returns
returns c =
    let grown = report_grows c.args.names.now c.args.cuts.now c.args.wides.now _ _ _ _ c.append_head.ensures c.append_cuts.ensures c.append_wides.ensures in
    IfOk-weaker c.finish.result _ _ (λ bytes e. e.1 ∙ (grown.whole e.0).1 ∙ ap (λ z. z ++ report_text c.args.names.now c.args.cuts.now c.args.wides.now) c.new-text.ensures.empty) c.finish.ensures.text
