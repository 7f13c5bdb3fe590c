use Rattle.std.proofs.Common.{rules, codes}
use Rattle.std.specs.Int.{w128}
use Rattle.std.specs.Int.RustNames.{FitsSigned}
use Rattle.std.proofs.lemmas.Int.{to_z-of_z}
use Rattle.cgl_prooftext.specs.ProofText.{round_text}
use Rattle.cgl_prooftext.proofs.LongerLaws.{fields_longer, line_longer}
use Rattle.cgl_prooftext.proofs.print.append_round.Goals as goal

pub returns : goal.returns
unfolding round_text
returns c =
    let fits : FitsSigned w128 c.args.round.now.g = search rules in
    let number = rw (to_z-of_z w128 c.args.round.now.g fits) at c.append_number.ensures in
    line_longer (codes "round") _ _ _ _ _ c.append.ensures (fields_longer _ _ _ _ _ number (fields_longer _ _ _ _ _ c.append_ref.ensures c.append_ineq.ensures)) c.append-2.ensures
