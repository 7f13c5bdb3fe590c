use Rattle.cgl_app.proofs.ReportLaws.{head_grows}
use Rattle.cgl_app.proofs.report.append_head.Goals as goal

pub returns : goal.returns
returns c = head_grows c.args.cuts c.args.wides _ _ _ _ c.append_counted.ensures c.append_counted-2.ensures c.append.ensures
