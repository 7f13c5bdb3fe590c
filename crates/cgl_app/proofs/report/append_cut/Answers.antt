use Rattle.cgl_app.proofs.ReportLaws.{cut_grows}
use Rattle.cgl_app.proofs.report.append_cut.Goals as goal

pub returns : goal.returns
returns c =
    let name = rw c.as_slice.ensures at c.append.ensures in
    cut_grows c.args.name.now c.args.kept.now _ _ _ _ _ _ name c.append-2.ensures c.append_fraction.ensures c.append-3.ensures c.append_key.ensures
