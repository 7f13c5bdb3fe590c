-- Books whose cuts share steps, and books whose cuts do not.
use Rattle.std.specs.Prelude.{pos, List, [], ◌∷◌, ◌++◌}
use Rattle.cgl_derive.specs.declared.book.Book.{Book}
use Rattle.cgl_derive.specs.declared.step.Ref.TheVariants as by
use Rattle.cgl_derive.specs.declared.step.Step.TheOpen as step
use Rattle.cgl_derive.specs.Books.{Entry}
use Rattle.cgl_derive.specs.Derives.{Layer}
use Rattle.cgl_derive.specs.KnownBooks.{at_most_one_of_three, cuts_by, divided, of_three, taken}
use Rattle.cgl_derive.specs.KnownSplits.{at_one}
use Rattle.cgl_derive.specs.Layers.{derivation}

abbrev pub book_of : List Entry → List Entry → Book
book_of shared cuts = record { shared = shared; cuts = cuts }

abbrev pub by_both : Layer → Layer → Entry
by_both first second = (at_most_one_of_three, derivation (first ∷ second ∷ []))

-- the division occurs once
abbrev pub lone_book : Book
lone_book = book_of [] (of_three divided ∷ [])

-- a shared inequality is not there
abbrev pub dangling_book : Book
dangling_book = book_of [] (cuts_by divided ++ of_three (taken (by.Shared 5)) ∷ [])

-- one cut divides twice
abbrev pub twice_book : Layer → List Entry → Book
twice_book layer shared = book_of shared (by_both layer layer ∷ [])

-- both cuts take their first claim once more
abbrev pub claims_book : Layer → List Entry → Book
claims_book layer shared = book_of shared (by_both layer (taken (by.Step 0)) ∷ by_both layer (taken (by.Step 0)) ∷ [])

-- the division once, and in both lists of a split
abbrev pub split_book : Book
split_book = book_of [] (by_both divided (step.Split (at_one (derivation (divided ∷ [])) (derivation (divided ∷ [])) at_most_one_of_three)) ∷ [])

-- a lemma that says the same is there
abbrev pub lemma_book : List Entry → Layer → Book
lemma_book more layer = book_of (of_three divided ∷ more) (cuts_by layer)
