use Rattle.std.proofs.Common.{[], ◌∷◌, sym, subst}
use Rattle.cgl_derive.specs.declared.step.Ref.{Ref}
use Rattle.cgl_prooftext.specs.TextOutput.{Longer}
use Rattle.cgl_prooftext.specs.ProofText.{fields_text, ref_text}
use Rattle.cgl_prooftext.proofs.reference.append_ref.Goals as goal

pub returns-in-Step : goal.returns-in-Step
returns-in-Step c =
    subst (λ (r : Ref). Longer (fields_text (ref_text r ∷ [])) c.args.output.now c.append_numbered-in-Step.new.output) (sym c.in-Step.is) c.append_numbered-in-Step.ensures
