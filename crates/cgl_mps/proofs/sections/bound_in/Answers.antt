use Rattle.std.proofs.Common.{ap, sym, ◌∙◌}
use Rattle.cgl_text.specs.Seen.{words}
use Rattle.cgl_decode.specs.Sections.{bound_with, needs_value}
use Rattle.cgl_mps.specs.Seen.{bound_kind}
use Rattle.cgl_mps.proofs.WordLaws.{bound_read}
use Rattle.cgl_mps.proofs.sections.bound_in.Goals as goal

pub returns-in-Some : goal.returns-in-Some
returns-in-Some c =
    c.bound_with.ensures
    ∙ ap (bound_with c.in-Some.kind (needs_value c.in-Some.kind)) c.rest.ensures.words
    ∙ bound_read (words c.args.fields.now) _ (ap bound_kind (sym c.word_at.ensures) ∙ sym c.bound_kind.ensures ∙ c.in-Some.is)

pub returns-in-None : goal.returns-in-None
returns-in-None c =
    bound_read (words c.args.fields.now) _ (ap bound_kind (sym c.word_at.ensures) ∙ sym c.bound_kind.ensures ∙ c.in-None.is)
