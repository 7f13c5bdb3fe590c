use Rattle.std.proofs.Common.{codes}
use Rattle.std.specs.Int.{w128}
use Rattle.std.proofs.lemmas.Int.{to_z-of_z}
use Rattle.cgl_prooftext.specs.ProofText.{split_line}
use Rattle.cgl_prooftext.proofs.LongerLaws.{fields_longer, line_longer}
use Rattle.cgl_prooftext.proofs.print.append_split_line.Goals as goal

pub returns : goal.returns
unfolding split_line
returns c =
    let number = rw (to_z-of_z w128 c.args.p0 c.ranges.p0) at c.append_number.ensures in
    line_longer (codes "split") _ _ _ _ _ c.append.ensures (fields_longer _ _ _ _ _ c.append_terms.ensures (fields_longer _ _ _ _ _ number c.append_ineq.ensures)) c.append-2.ensures
