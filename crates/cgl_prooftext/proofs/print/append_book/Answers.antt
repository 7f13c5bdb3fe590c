use Rattle.cgl_prooftext.proofs.LongerLaws.{book_longer}
use Rattle.cgl_prooftext.proofs.print.append_book.Goals as goal

pub returns : goal.returns
returns c = book_longer c.args.shared.now c.args.cuts.now _ _ _ _ c.append_head.ensures c.append_entries.ensures c.append.ensures
