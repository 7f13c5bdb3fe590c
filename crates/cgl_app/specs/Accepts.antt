-- When a deck is a model with the cuts of a book, and each derivation of the book is right.
use Rattle.std.specs.Prelude.{◌≡◌, Some}
use Rattle.cgl_model.specs.declared.mip.Model.{Model}
use Rattle.cgl_derive.specs.declared.book.Book.{Book}
use Rattle.cgl_derive.specs.Books.{BookIsRight, inequalities}
use Rattle.cgl_deck.specs.Extended.{extended}

pub record Accepts (m n : Model) (book : Book) : Type 0 where
  pub extended_is : extended m (inequalities book.cuts) ≡ Some n
  pub right : BookIsRight m book
