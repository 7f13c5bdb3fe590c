use Rattle.cgl_prooftext.proofs.LongerLaws.{entry_longer}
use Rattle.cgl_prooftext.proofs.print.append_entry.Goals as goal

pub returns : goal.returns
returns c =
    let steps = rw c.as_slice.ensures at c.append_steps.ensures in
    entry_longer c.args.word.now c.args.entry.now _ _ _ _ _ _ c.append.ensures c.append_ineq.ensures c.append-2.ensures steps c.append-3.ensures
