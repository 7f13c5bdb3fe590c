use Rattle.cgl_app.proofs.ReportLaws.{counts_grow}
use Rattle.cgl_app.proofs.report.append_counts.Goals as goal

pub returns : goal.returns
returns c = counts_grow c.args.rows c.args.cols c.args.entries _ _ _ _ _ c.append_counted.ensures c.append_counted-2.ensures c.append_counted-3.ensures c.append.ensures
