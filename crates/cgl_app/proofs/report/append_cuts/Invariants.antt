use Rattle.std.proofs.Common.{length}
use Rattle.cgl_app.proofs.ReportLaws.{Continues}
use Rattle.cgl_app.proofs.report.append_cuts.Given as goal

abbrev pub invariant-cuts : goal.invariant-cuts
invariant-cuts l = Continues l.fn.names l.fn.cuts l.fn.text l.names l.cuts l.text

abbrev pub decreases-cuts : goal.decreases-cuts
decreases-cuts l = length l.cuts
