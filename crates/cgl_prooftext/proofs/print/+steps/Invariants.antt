use Rattle.std.proofs.Common.{flat_map, take}
use Rattle.cgl_prooftext.specs.TextOutput.{Longer}
use Rattle.cgl_prooftext.specs.ProofText.{step_text}
use Rattle.cgl_prooftext.proofs.print.+steps.Given as goal

abbrev pub invariant-append_steps-loop-step : goal.invariant-append_steps-loop-step
invariant-append_steps-loop-step l = Longer (flat_map step_text (take l.step-index l.steps)) l.initial.output l.output
