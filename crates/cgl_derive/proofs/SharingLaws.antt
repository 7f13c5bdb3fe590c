-- What a book keeps whose cuts share steps.
use Rattle.std.proofs.Common.{◌≡◌, ℕ, Bool, true, false, List, [], ◌∷◌, ◌++◌, length, map, take, refl, ap, ◌∙◌, if◌then◌else◌}
use Rattle.cgl_model.specs.declared.linear.Ineq.{Ineq}
use Rattle.cgl_derive.specs.declared.book.Book.{Book}
use Rattle.cgl_derive.specs.Books.{Entry, inequalities}
use Rattle.cgl_derive.specs.Dangling.{is_dangling}
use Rattle.cgl_derive.specs.Derives.{Layer}
use Rattle.cgl_derive.specs.SharedBook.{repeated_steps, shared_book, with_lemmas, with_shared_steps}

same_inequalities : (first : ℕ) (lemmas : List Layer) (cuts : List Entry) → inequalities (map (with_shared_steps first lemmas) cuts) ≡ inequalities cuts
same_inequalities first lemmas [] = refl
same_inequalities first lemmas (cut ∷ cuts) = ap (λ (rest : List Ineq). cut.0 ∷ rest) (same_inequalities first lemmas cuts)

first_taken : (xs ys : List Entry) → take (length xs) (xs ++ ys) ≡ xs
first_taken [] ys = refl
first_taken (x ∷ xs) ys = ap (λ (rest : List Entry). x ∷ rest) (first_taken xs ys)

pub cuts_stay : (book : Book) → inequalities (shared_book book).cuts ≡ inequalities book.cuts
unfolding shared_book
cuts_stay book = by (is_dangling book)
  where
    by : (b : Bool) → inequalities (if b then book else with_lemmas (repeated_steps book.cuts) book).cuts ≡ inequalities book.cuts
    by true = refl
    by false = same_inequalities (length book.shared) (repeated_steps book.cuts) book.cuts

pub lemmas_first : (book : Book) → take (length book.shared) (shared_book book).shared ≡ book.shared
unfolding shared_book
lemmas_first book = by (is_dangling book)
  where
    all_taken : (xs : List Entry) → take (length xs) xs ≡ xs
    all_taken [] = refl
    all_taken (x ∷ xs) = ap (λ (rest : List Entry). x ∷ rest) (all_taken xs)

    by : (b : Bool) → take (length book.shared) (if b then book else with_lemmas (repeated_steps book.cuts) book).shared ≡ book.shared
    by true = all_taken book.shared
    by false = first_taken book.shared (map _ (repeated_steps book.cuts))
