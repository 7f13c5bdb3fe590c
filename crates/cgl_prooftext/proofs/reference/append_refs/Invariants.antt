use Rattle.std.proofs.Common.{flat_map, take}
use Rattle.cgl_prooftext.specs.TextOutput.{Longer}
use Rattle.cgl_prooftext.specs.ProofText.{fields_text, ref_fields}
use Rattle.cgl_prooftext.proofs.reference.append_refs.Given as goal

abbrev pub invariant-loop-part : goal.invariant-loop-part
invariant-loop-part l = Longer (fields_text (flat_map ref_fields (take l.part-index l.refs))) l.initial.output l.output
