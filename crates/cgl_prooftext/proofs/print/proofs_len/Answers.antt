use Rattle.cgl_prooftext.proofs.LongerLaws.{measured}
use Rattle.cgl_prooftext.proofs.print.proofs_len.Goals as goal

pub returns : goal.returns
returns c =
    let longer = rw (c.as_slice.ensures, c.as_slice-2.ensures) at c.append_book.ensures in
    measured _ _ _ c.counting-output.ensures longer
