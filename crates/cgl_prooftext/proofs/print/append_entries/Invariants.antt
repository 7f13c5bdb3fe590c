use Rattle.std.proofs.Common.{flat_map, take}
use Rattle.cgl_prooftext.specs.ProofText.{entry_text}
use Rattle.cgl_prooftext.specs.TextOutput.{Longer}
use Rattle.cgl_prooftext.proofs.print.append_entries.Given as goal

abbrev pub invariant-loop-entry : goal.invariant-loop-entry
invariant-loop-entry l = Longer (flat_map (entry_text l.word) (take l.entry-index l.entries)) l.initial.output l.output
