use Rattle.std.proofs.Common.{ap, sym, ◌∙◌, cond}
use Rattle.cgl_text.specs.Seen.{words}
use Rattle.cgl_decode.specs.Records.{first_word, section_named}
use Rattle.cgl_mps.proofs.WordLaws.{first_read}
use Rattle.cgl_mps.proofs.records.section_after.Goals as goal

pub returns : goal.returns
returns c =
    let fields = words c.args.fields.now in
    c.section_named.ensures
    ∙ ap section_named (c.word_at.ensures ∙ first_read fields)
    ∙ sym (ap (λ header. cond header (section_named (first_word fields)) c.args.section) c.if-not-header.false)
