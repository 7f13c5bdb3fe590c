use Rattle.cgl_check.proofs.Exact.{exact}
use Rattle.cgl_check.proofs.BookExact.{book_exact}
use Rattle.cgl_check.proofs.laws.exactness.Goals as goal

pub returns-clause-derivation : goal.returns-clause-derivation
returns-clause-derivation c = λ m shared d cut columns. exact m shared d cut (record { over = columns; beyond = c.coefficient_laws.ensures.beyond; bits = c.knapsacks.ensures.test })

pub returns-clause-book : goal.returns-clause-book
returns-clause-book c = book_exact c.coefficient_laws.ensures.beyond c.knapsacks.ensures.test
