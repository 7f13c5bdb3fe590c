-- What a book is refused for, as known books are tried.
use Rattle.std.specs.Prelude.{◌≡◌, ℕ, [], ◌∷◌, Some}
use Rattle.cgl_model.specs.declared.mip.Model.{Model}
use Rattle.cgl_derive.specs.declared.book.Book.{Book}
use Rattle.cgl_derive.specs.declared.step.Ref.TheVariants as by
use Rattle.cgl_derive.specs.KnownBooks.{divided, of_three, taken}
use Rattle.cgl_derive.specs.KnownDerivations.{contradiction, other_column}
use Rattle.cgl_check.specs.declared.refusal.EntryPlace.{EntryPlace}
use Rattle.cgl_check.specs.Accepted.{first_refusal}
use Rattle.cgl_check.specs.KnownFailures.{Pairs}

-- the first refusal of the book is of this entry, at this path of its derivation, and for this reason
abbrev pub IsRefused : EntryPlace → Pairs → ℕ → Model → Book → Type 0
IsRefused entry path why m book = first_refusal m book ≡ Some (record { entry = entry; reject = record { path = path; why = why } })

-- a second shared inequality that is derived from itself, and a cut from one that is not there
abbrev pub wrong_twice : Book
wrong_twice = record { shared = of_three divided ∷ of_three (taken (by.Shared 1)) ∷ []; cuts = of_three (taken (by.Shared 2)) ∷ [] }

-- a cut from the second shared inequality, and one from the third, which is not there
abbrev pub wrong_cut : Book
wrong_cut = record {
  shared = of_three divided ∷ of_three (taken (by.Shared 0)) ∷ [];
  cuts = of_three (taken (by.Shared 1)) ∷ of_three (taken (by.Shared 2)) ∷ [];
}

-- y >= 0 as a cut, for a column that the model does not have, by a contradiction
abbrev pub cut_beyond : Book
cut_beyond = record { shared = []; cuts = (other_column, contradiction) ∷ [] }
