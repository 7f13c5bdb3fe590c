use Rattle.std.proofs.Common.{sym, rules}
use Rattle.std.specs.Int.{w128}
use Rattle.std.specs.Int.RustNames.{FitsSigned}
use Rattle.std.proofs.lemmas.Int.{to_z-of_z}
use Rattle.cgl_prooftext.specs.ProofText.{step_text}
use Rattle.cgl_prooftext.proofs.ProofTextLaws.{step_lin, step_round, step_split, step_knap}
use Rattle.cgl_prooftext.proofs.LongerLaws.{item_turn, items_ended, longer_as, longer_nothing, split_longer}
use Rattle.cgl_prooftext.proofs.print.+steps.Goals as goal

pub append_split-returns : goal.append_split-returns
append_split-returns t c =
    let split = c.args.split.now in
    let fits : FitsSigned w128 split.p0 = search rules in
    let head = rw (c.as_slice.ensures.value, to_z-of_z w128 split.p0 fits) at c.append_split_line.ensures in
    let left = rw c.as_slice-2.ensures at c.append_steps.ensures in
    let right = rw c.as_slice-3.ensures at c.append_steps-2.ensures in
    split_longer split _ _ _ _ _ _ head left c.append.ensures right c.append-2.ensures

pub append_step-returns-in-Lin : goal.append_step-returns-in-Lin
append_step-returns-in-Lin t c = longer_as _ _ _ _ (sym (step_lin c.args.step.now c.in-Lin.lin c.in-Lin.is)) c.append_lin.ensures

pub append_step-returns-in-Round : goal.append_step-returns-in-Round
append_step-returns-in-Round t c = longer_as _ _ _ _ (sym (step_round c.args.step.now c.in-Round.round c.in-Round.is)) c.append_round.ensures

pub append_step-returns-in-Split : goal.append_step-returns-in-Split
append_step-returns-in-Split t c = longer_as _ _ _ _ (sym (step_split c.args.step.now c.in-Split.split c.in-Split.is)) c.append_split.ensures

pub append_step-returns-in-Knap : goal.append_step-returns-in-Knap
append_step-returns-in-Knap t c = longer_as _ _ _ _ (sym (step_knap c.args.step.now c.in-Knap.knap c.in-Knap.is)) c.append_knap.ensures

pub append_steps-loop-step-init : goal.append_steps-loop-step-init
append_steps-loop-step-init t c = longer_nothing c.args.output.now

pub append_steps-loop-step-preserved : goal.append_steps-loop-step-preserved
append_steps-loop-step-preserved t c =
    item_turn step_text c.args.steps.now c.loop-step.step-index c.step-item.result _ _ _ c.loop-step-test.true c.step-item.is c.loop-step.invariant c.append_step.ensures

pub append_steps-returns : goal.append_steps-returns
append_steps-returns t c = items_ended step_text c.args.steps.now c.loop-step.step-index _ _ c.loop-step-test.false c.loop-step.invariant
