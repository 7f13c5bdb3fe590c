use Rattle.cgl_derive.proofs.BookSound.{book_sound}
use Rattle.cgl_derive.proofs.laws.books.Goals as goal

pub returns : goal.returns
returns c = λ m book x decimals right f. book_sound m book x (c.sides_meaning.ensures.feasible m x decimals f) right f
