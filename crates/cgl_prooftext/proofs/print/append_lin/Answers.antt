use Rattle.std.proofs.Common.{rules, codes}
use Rattle.std.specs.Int.{w128}
use Rattle.std.specs.Int.RustNames.{FitsSigned}
use Rattle.std.proofs.lemmas.Int.{to_z-of_z}
use Rattle.cgl_prooftext.specs.ProofText.{lin_text}
use Rattle.cgl_prooftext.proofs.LongerLaws.{fields_longer, line_longer}
use Rattle.cgl_prooftext.proofs.print.append_lin.Goals as goal

pub returns : goal.returns
unfolding lin_text
returns c =
    let fits : FitsSigned w128 c.args.lin.now.q = search rules in
    let number = rw (to_z-of_z w128 c.args.lin.now.q fits) at c.append_number.ensures in
    let refs = rw c.as_slice.ensures at c.append_refs.ensures in
    line_longer (codes "lin") _ _ _ _ _ c.append.ensures (fields_longer _ _ _ _ _ number (fields_longer _ _ _ _ _ refs c.append_ineq.ensures)) c.append-2.ensures
