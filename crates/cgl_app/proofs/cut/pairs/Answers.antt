use Rattle.std.proofs.Common.{rules}
use Rattle.std.proofs.lemmas.Iterator.{items_from_collect, YieldsList-from_zip}
use Rattle.std.proofs.lemmas.Iterator.Adapters.{YieldsList-from_vec}
use Rattle.cgl_app.proofs.cut.pairs.Goals as goal

pub returns : goal.returns
returns c =
    let first = YieldsList-from_vec {s = c.zip.result.a} c.args.cuts.items (search rules) (search rules) in
    let second = YieldsList-from_vec {s = c.zip.result.b} c.args.derivations.items (search rules) (search rules) in
    let all = items_from_collect c.collect.result c.collect.ensures.ran (YieldsList-from_zip first second) in
    rw c.in-Ok.is at all
