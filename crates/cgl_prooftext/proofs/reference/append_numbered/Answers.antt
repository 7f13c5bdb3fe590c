use Rattle.std.proofs.Common.{◌∙◌}
use Rattle.cgl_prooftext.proofs.LongerLaws.{field_longer, longer_as, longer_then}
use Rattle.cgl_prooftext.proofs.reference.append_numbered.Goals as goal

pub returns : goal.returns
returns c =
    let digits = longer_as _ _ _ _ (c.as_bytes.ensures.value ∙ c.format.ensures.text) c.append-3.ensures in
    field_longer _ _ _ _ c.append.ensures (longer_then _ _ _ _ _ (longer_then _ _ _ _ _ c.append-2.ensures digits) c.append-4.ensures)
