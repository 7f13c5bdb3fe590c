-- Whether a deck with the cuts of a book, and the book, are accepted for a model: the deck first, then the shared inequalities, then the cuts.
use Rattle.std.specs.Prelude.{Bool, false, Option, Some, None, if◌then◌else◌}
use Rattle.cgl_model.specs.declared.mip.Model.{Model}
use Rattle.cgl_derive.specs.declared.book.Book.{Book}
use Rattle.cgl_derive.specs.Books.{inequalities}
use Rattle.cgl_check.specs.declared.refusal.BookRefusal.{BookRefusal}
use Rattle.cgl_check.specs.Accepted.{first_refusal}
use Rattle.cgl_deck.specs.Extended.{extended}
use Rattle.cgl_app.specs.declared.refusal.Unaccepted.{Unaccepted}
use Rattle.cgl_app.specs.declared.refusal.Unaccepted.TheVariants.{Deck, Entry}
use Rattle.cgl_app.specs.SameModel.{same_model}

abbrev pub is_extension : Model → Option Model → Bool
is_extension n None = false
is_extension n (Some e) = same_model e n

abbrev pub entry_verdict : Option BookRefusal → Option Unaccepted
entry_verdict None = None
entry_verdict (Some refusal) = Some (Entry refusal)

-- what is not accepted, if anything
unfoldable pub verdict : Model → Model → Book → Option Unaccepted
verdict m n book = if is_extension n (extended m (inequalities book.cuts)) then entry_verdict (first_refusal m book) else Some Deck
