use Rattle.std.proofs.Common.{codes}
use Rattle.cgl_prooftext.specs.ProofText.{knap_text}
use Rattle.cgl_prooftext.proofs.LongerLaws.{fields_longer, line_longer}
use Rattle.cgl_prooftext.proofs.print.append_knap.Goals as goal

pub returns : goal.returns
unfolding knap_text
returns c = line_longer (codes "knap") _ _ _ _ _ c.append.ensures (fields_longer _ _ _ _ _ c.append_ref.ensures c.append_ineq.ensures) c.append-2.ensures
