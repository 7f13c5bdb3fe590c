use Rattle.std.proofs.Common.{flat_map, take}
use Rattle.cgl_prooftext.specs.TextOutput.{Longer}
use Rattle.cgl_prooftext.specs.ProofText.{fields_text, term_fields}
use Rattle.cgl_prooftext.proofs.field.append_terms.Given as goal

abbrev pub invariant-loop-term : goal.invariant-loop-term
invariant-loop-term l = Longer (fields_text (flat_map term_fields (take l.term-index l.terms))) l.initial.output l.output
