use Rattle.cgl_app.proofs.ReportLaws.{key_grows}
use Rattle.cgl_app.proofs.report.append_key.Goals as goal

pub returns : goal.returns
returns c =
    let word = rw c.generator_word.ensures at c.append.ensures in
    key_grows c.args.key _ _ _ _ word c.append_counted.ensures c.append-2.ensures
