use Rattle.std.proofs.Common.{◌∙◌, ap, sym}
use Rattle.cgl_text.specs.Seen.{words}
use Rattle.cgl_decode.specs.Decode.{deck_limits}
use Rattle.cgl_decode.specs.Sections.{pairs_of}
use Rattle.cgl_mps.specs.declared.resolve.Resolved.{Resolved}
use Rattle.cgl_mps.proofs.FaultLaws.{known_row, unknown_row}
use Rattle.cgl_mps.proofs.judge.entry_fault.Goals as goal

pub returns-in-Some : goal.returns-in-Some
returns-in-Some c = λ text says.
    c.placed_fault.ensures text (ap (λ (p : Resolved). p.value) says)
    ∙ known_row deck_limits c.args.state.now c.args.name.now (pairs_of (words c.args.earlier.now)) c.in-Some.place (c.args.row.now, text)
    (sym (ap (λ (p : Resolved). p.row) says) ∙ c.in-Some.is)

pub returns-in-None : goal.returns-in-None
returns-in-None c = λ text says.
    unknown_row deck_limits c.args.state.now c.args.name.now (pairs_of (words c.args.earlier.now)) (c.args.row.now, text)
    (sym (ap (λ (p : Resolved). p.row) says) ∙ c.in-None.is)
