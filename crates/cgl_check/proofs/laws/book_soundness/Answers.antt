use Rattle.cgl_check.proofs.laws.book_soundness.Goals as goal

pub returns : goal.returns
returns c = λ m book x decimals accepted feasible. c.books.ensures m book x decimals ((c.exactness.ensures.book m book).0 accepted) feasible
