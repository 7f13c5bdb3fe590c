use Rattle.std.proofs.Common.{rules}
use Rattle.std.specs.Int.{w128}
use Rattle.std.specs.Int.RustNames.{FitsSigned}
use Rattle.std.proofs.lemmas.Int.{to_z-of_z}
use Rattle.cgl_prooftext.specs.ProofText.{ineq_fields}
use Rattle.cgl_prooftext.proofs.LongerLaws.{fields_longer}
use Rattle.cgl_prooftext.proofs.field.append_ineq.Goals as goal

pub returns : goal.returns
unfolding ineq_fields
returns c =
    let fits : FitsSigned w128 c.args.ineq.now.rhs = search rules in
    let rhs = rw (to_z-of_z w128 c.args.ineq.now.rhs fits) at c.append_number.ensures in
    let terms = rw c.as_slice.ensures.value at c.append_terms.ensures in
    fields_longer _ _ _ _ _ terms (fields_longer _ _ _ _ _ c.append_field.ensures rhs)
