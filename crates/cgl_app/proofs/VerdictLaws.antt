-- Nothing is refused just where deck and book are accepted.
use Rattle.std.proofs.Common.{Result, Ok, Err, OnOk, IfErr, ◌⊎◌, inl, inr, ◌≡◌, ◌∙◌, Bool, true, false, Option, Some, None, refl, sym, ap, subst, if◌then◌else◌}
use Rattle.std.specs.Prelude.{◌↔◌}
use Rattle.cgl_model.specs.declared.mip.Model.{Model}
use Rattle.cgl_derive.specs.declared.book.Book.{Book}
use Rattle.cgl_derive.specs.Books.{BookIsRight, inequalities}
use Rattle.cgl_check.specs.declared.refusal.BookRefusal.{BookRefusal}
use Rattle.cgl_check.specs.Accepted.{IsAccepted, first_refusal}
use Rattle.cgl_deck.specs.Extended.{extended}
use Rattle.cgl_app.specs.declared.refusal.CheckFile.{CheckFile}
use Rattle.cgl_app.specs.declared.refusal.Refusal.{Refusal}
use Rattle.cgl_app.specs.declared.refusal.Refusal.TheVariants.{Memory, NotAccepted}
use Rattle.cgl_app.specs.declared.refusal.Unaccepted.{Unaccepted}
use Rattle.cgl_app.specs.declared.refusal.Unaccepted.TheVariants.{Deck, Entry}
use Rattle.cgl_app.specs.Accepts.{Accepts}
use Rattle.cgl_app.specs.SameModel.{same_model}
use Rattle.cgl_app.specs.Verdict.{entry_verdict, is_extension, verdict}
use Rattle.cgl_app.proofs.SameModelLaws.{model_decides}

abbrev pub Exact : Type 0
Exact = (m : Model) (book : Book) → IsAccepted m book ↔ BookIsRight m book

extension_is : (n : Model) (o : Option Model) → is_extension n o ≡ true → o ≡ Some n
extension_is n None e = cc
extension_is n (Some k) e = ap (λ x. Some x) ((model_decides k n).0 e)

is_its_extension : (n : Model) (o : Option Model) → o ≡ Some n → is_extension n o ≡ true
is_its_extension n None e = cc
is_its_extension n (Some k) e = (model_decides k n).1 (let same : k ≡ n = cc in same)

none_refused : (o : Option BookRefusal) → entry_verdict o ≡ None → o ≡ None
none_refused None e = refl
none_refused (Some r) e = cc

deck_is : (t : Bool) (o : Option Unaccepted) → (if t then o else Some Deck) ≡ None → (t ≡ true) × (o ≡ None)
deck_is true o e = (refl, e)
deck_is false o e = cc

pub verdict_accepts : Exact → (m n : Model) (book : Book) → verdict m n book ≡ None → Accepts m n book
unfolding verdict
verdict_accepts exact m n book e =
    let both = deck_is _ _ e in
    record { extended_is = extension_is n _ both.0; right = (exact m book).0 (none_refused _ both.1) }

pub accepts_verdict : Exact → (m n : Model) (book : Book) → Accepts m n book → verdict m n book ≡ None
unfolding verdict
accepts_verdict exact m n book a =
    ap (λ t. if t then entry_verdict (first_refusal m book) else Some Deck) (is_its_extension n _ a.extended_is) ∙ ap entry_verdict ((exact m book).1 a.right)

-- ---- the verdict, by the deck

pub by_deck : (m n : Model) (book : Book) → is_extension n (extended m (inequalities book.cuts)) ≡ false → verdict m n book ≡ Some Deck
unfolding verdict
by_deck m n book e = ap (λ t. if t then entry_verdict (first_refusal m book) else Some Deck) e

pub by_entries : (m n : Model) (book : Book) → is_extension n (extended m (inequalities book.cuts)) ≡ true → verdict m n book ≡ entry_verdict (first_refusal m book)
unfolding verdict
by_entries m n book e = ap (λ t. if t then entry_verdict (first_refusal m book) else Some Deck) e

pub entries_ok : {A E : Type 0} (r : Result A E) (m n : Model) (book : Book) → is_extension n (extended m (inequalities book.cuts)) ≡ true
    → OnOk r (first_refusal m book ≡ None) → OnOk r (verdict m n book ≡ None)
entries_ok (Ok x) m n book is none = by_entries m n book is ∙ ap entry_verdict none
entries_ok (Err x) m n book is none = none

pub entries_refused : {A : Type 0} (r : Result A (Refusal CheckFile)) (m n : Model) (book : Book) → is_extension n (extended m (inequalities book.cuts)) ≡ true
    → IfErr r (λ e. (e ≡ Memory) ⊎ ((u : Unaccepted) × (e ≡ NotAccepted u) × (entry_verdict (first_refusal m book) ≡ Some u)))
    → IfErr r (λ e. (e ≡ Memory) ⊎ ((u : Unaccepted) × (e ≡ NotAccepted u) × (verdict m n book ≡ Some u)))
entries_refused (Ok x) m n book is why = why
entries_refused (Err x) m n book is (inl short) = inl short
entries_refused (Err x) m n book is (inr w) = inr (w.0, w.1, by_entries m n book is ∙ w.2)
