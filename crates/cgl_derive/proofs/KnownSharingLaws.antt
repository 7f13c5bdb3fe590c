-- What known books share.
use Rattle.std.proofs.Common.{◌≡◌, true, false, [], ◌∷◌, refl, ap, ◌∙◌, if◌then◌else◌}
use Rattle.cgl_derive.specs.declared.book.Book.{Book}
use Rattle.cgl_derive.specs.declared.step.Ref.TheVariants as by
use Rattle.cgl_derive.specs.declared.step.Step.{out-roll-Step}
use Rattle.cgl_derive.specs.declared.step.Step.TheFolds.{fold-roll-Step, fold-roll-Derivation, fold-roll-Split}
use Rattle.cgl_derive.specs.declared.step.Derivation.{out-roll-Derivation}
use Rattle.cgl_derive.specs.Dangling.{is_dangling}
use Rattle.cgl_derive.specs.KnownBooks.{divided, of_three, plain_book, shared_book as taken_book, taken}
use Rattle.cgl_derive.specs.KnownSharing.{claims_book, dangling_book, lemma_book, lone_book, split_book, twice_book}
use Rattle.cgl_derive.specs.SharedBook.{repeated_steps, shared_book, with_lemmas}

joined : (book new : Book) → is_dangling book ≡ false → with_lemmas (repeated_steps book.cuts) book ≡ new → shared_book book ≡ new
unfolding shared_book
joined book new none is = ap (λ b. if b then book else with_lemmas (repeated_steps book.cuts) book) none ∙ is

kept : (book : Book) → is_dangling book ≡ true → shared_book book ≡ book
unfolding shared_book
kept book some = ap (λ b. if b then book else with_lemmas (repeated_steps book.cuts) book) some

pub division_shared : shared_book plain_book ≡ taken_book
division_shared = joined plain_book taken_book (simp (out-roll-Derivation, fold-roll-Step)) (simp (out-roll-Derivation, out-roll-Step))

pub lone_stays : shared_book lone_book ≡ lone_book
lone_stays = joined lone_book lone_book (simp (out-roll-Derivation, fold-roll-Step)) (simp (out-roll-Derivation, out-roll-Step))

pub dangling_stays : shared_book dangling_book ≡ dangling_book
dangling_stays = kept dangling_book (simp (out-roll-Derivation, fold-roll-Step))

pub twice_shared : shared_book (twice_book divided []) ≡ twice_book (taken (by.Shared 0)) (of_three divided ∷ [])
twice_shared = joined (twice_book divided []) _ (simp (out-roll-Derivation, fold-roll-Step)) (simp (out-roll-Derivation, out-roll-Step))

pub claims_stay : shared_book (claims_book divided []) ≡ claims_book (taken (by.Shared 0)) (of_three divided ∷ [])
claims_stay = joined (claims_book divided []) _ (simp (out-roll-Derivation, fold-roll-Step)) (simp (out-roll-Derivation, out-roll-Step))

pub lemma_stays : shared_book (lemma_book [] divided) ≡ lemma_book (of_three divided ∷ []) (taken (by.Shared 1))
lemma_stays = joined (lemma_book [] divided) _ (simp (out-roll-Derivation, fold-roll-Step)) (simp (out-roll-Derivation, out-roll-Step))

pub split_stays : shared_book split_book ≡ split_book
split_stays = joined split_book split_book (simp (out-roll-Derivation, fold-roll-Step, fold-roll-Derivation, fold-roll-Split)) (simp (out-roll-Derivation, out-roll-Step))
