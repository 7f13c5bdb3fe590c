-- From the steps of a cut in memory to what it writes.
use Rattle.std.specs.Result.{result_err}
use Rattle.std.proofs.lemmas.List.{map-append}
use Rattle.std.proofs.Common.{◌≡◌, ◌++◌, ◌^◌, ℕ, Bool, arith, nat_lt, true, false, ◌||◌, List, [], ◌∷◌, length, map, zip, Some, None, Vec, Result, Ok, Err, IfErr, refl, sym, ap, subst, ◌∙◌, ◌⊎◌, inl, inr}
use Rattle.std.proofs.lemmas.Bool.Decides.{nat_tests}
use Rattle.std.specs.declared.alloc.Global.{Global}
use Rattle.cgl_model.specs.declared.linear.Ineq.{Ineq}
use Rattle.cgl_model.specs.declared.mip.Model.{Model}
use Rattle.cgl_model.specs.Valid.{IsValid}
use Rattle.cgl_derive.specs.declared.step.Derivation.{Derivation}
use Rattle.cgl_deck.specs.CutNames.{cut_names}
use Rattle.cgl_deck.specs.DeckLength.{most}
use Rattle.cgl_deck.specs.DeckText.{deck_text}
use Rattle.cgl_deck.specs.Extended.{extended}
use Rattle.cgl_pool.specs.declared.kept.Kept.{Kept}
use Rattle.cgl_pool.specs.Listed.{Key}
use Rattle.cgl_pool.specs.Task.{Task, listed_cuts, wide_keys}
use Rattle.cgl_prooftext.specs.ProofText.{proof_text}
use Rattle.cgl_app.specs.declared.refusal.CutFile.{CutFile}
use Rattle.cgl_app.specs.declared.refusal.Refusal.{Refusal}
use Rattle.cgl_app.specs.declared.refusal.Refusal.TheVariants.{TooLarge, Memory}
use Rattle.cgl_app.specs.CutOf.{extension, inequality_of, is_too_large, is_too_long, proof_of, report_of}
use Rattle.cgl_app.specs.CutSteps.{AreTexts, TextsRefused, derivation_of}
use Rattle.cgl_app.specs.Report.{report_text}

-- one more item
pub mapped_more : {A B : Type 0} (f : A → B) (xs : List A) (x : A) (old new : List B) → old ≡ map f xs → new ≡ old ++ f x ∷ [] → new ≡ map f (xs ++ x ∷ [])
mapped_more f xs x old new so_far more = more ∙ ap (λ z. z ++ f x ∷ []) so_far ∙ sym (map-append f xs (x ∷ []))

pub with_err : {A E : Type 0} (P : E → Type 0) (result : Result A E) (e : E) → result_err result ≡ Some e → P e → IfErr result P
with_err P (Ok x) e is p = tt
with_err P (Err y) e is p = let same : e ≡ y = cc in subst P same p

pub deck_made : (m n : Model) (listed : List Kept) (cuts lent : List Ineq) → cuts ≡ map inequality_of listed → lent ≡ cuts
    → extended m lent ≡ Some n → extended m (map inequality_of listed) ≡ Some n
deck_made m n listed cuts lent ec el e = ap (extended m) (sym (el ∙ ec)) ∙ e

zipped : (cuts : List Kept) → zip (map inequality_of cuts) (map derivation_of cuts) ≡ map proof_of cuts
zipped [] = refl
zipped (k ∷ cuts) = ap (λ rest. proof_of k ∷ rest) (zipped cuts)

pub proofs_made : (listed : List Kept) (cuts : List Ineq) (derivations : List Derivation) (text : List ℕ) → cuts ≡ map inequality_of listed → derivations ≡ map derivation_of listed
    → text ≡ proof_text (zip cuts derivations) → text ≡ proof_text (map proof_of listed)
proofs_made listed cuts derivations text ec ed e =
    e ∙ ap (λ a. proof_text (zip a derivations)) ec ∙ ap (λ b. proof_text (zip (map inequality_of listed) b)) ed ∙ ap proof_text (zipped listed)

pub lengths_are : (n : Model) (b proofs : List ℕ) (large t : Bool) → b ≡ proofs → large ≡ (is_too_long (deck_text n) || is_too_long b) → large ≡ t
    → (is_too_long (deck_text n) || is_too_long proofs) ≡ t
lengths_are n b proofs large t eb e is = sym (e ∙ ap (λ z. is_too_long (deck_text n) || is_too_long z) eb) ∙ is

extended_is : (m n : Model) (t : Task) (listed : List Kept) → t.setting.model ≡ m → listed ≡ listed_cuts t → extended m (map inequality_of listed) ≡ Some n → extension t ≡ Some n
extended_is m n t listed em is e = ap (λ y. extended y (map inequality_of (listed_cuts t))) em ∙ ap (λ z. extended m (map inequality_of z)) (sym is) ∙ e

size_is : (n : Model) (t : Task) (listed : List Kept) (proofs : List ℕ) (s : Bool) → listed ≡ listed_cuts t → proofs ≡ proof_text (map proof_of listed)
    → (is_too_long (deck_text n) || is_too_long proofs) ≡ s → is_too_large n t ≡ s
unfolding is_too_large
size_is n t listed proofs s is ep e = ap (λ z. is_too_long (deck_text n) || is_too_long z) (sym (ep ∙ ap (λ l. proof_text (map proof_of l)) is)) ∙ e

pub deck_refused : (m : Model) (t : Task) (listed : List Kept) (cuts lent : List Ineq) (refusal : Refusal CutFile) → cuts ≡ map inequality_of listed → lent ≡ cuts
    → (refusal ≡ Memory) ⊎ ((refusal ≡ TooLarge) × (extended m lent ≡ None)) → t.setting.model ≡ m → listed ≡ listed_cuts t → TextsRefused t refusal
deck_refused m t listed cuts lent refusal ec el (inl memory) em is = inl memory
deck_refused m t listed cuts lent refusal ec el (inr none) em is =
    inr (none.0, inl (ap (λ y. extended y (map inequality_of (listed_cuts t))) em ∙ ap (λ z. extended m (map inequality_of z)) (sym is) ∙ ap (extended m) (sym (el ∙ ec)) ∙ none.1))

pub texts_too_large : (m n : Model) (t : Task) (listed : List Kept) (proofs : List ℕ) → extended m (map inequality_of listed) ≡ Some n
    → proofs ≡ proof_text (map proof_of listed) → (is_too_long (deck_text n) || is_too_long proofs) ≡ true → t.setting.model ≡ m → listed ≡ listed_cuts t → TextsRefused t TooLarge
texts_too_large m n t listed proofs e ep large em is =
    inr (refl, inr (n, extended_is m n t listed em is e, size_is n t listed proofs true is ep large))

pub report_made : (t : Task) (kept lent : List Kept) (wide keys : List Key) (text : List ℕ) → kept ≡ listed_cuts t → wide ≡ wide_keys t
    → lent ≡ kept → keys ≡ wide → text ≡ report_text (cut_names t.setting.model (length lent)) lent keys → text ≡ report_of t
report_made t kept lent wide keys text ek ew el eq e =
    e ∙ ap (λ l. report_text (cut_names t.setting.model (length l)) l keys) (el ∙ ek)
    ∙ ap (λ k. report_text (cut_names t.setting.model (length (listed_cuts t))) (listed_cuts t) k) (eq ∙ ew)

pub texts_made : (t : Task) (n : Model) (listed : List Kept) (proofs report : Vec ℕ Global) → listed ≡ listed_cuts t → extended t.setting.model (map inequality_of listed) ≡ Some n
    → IsValid n → proofs.items ≡ proof_text (map proof_of listed) → (is_too_long (deck_text n) || is_too_long proofs.items) ≡ false → report.items ≡ report_of t
    → AreTexts t (record { deck = n; proofs = proofs; report = report })
texts_made t n listed proofs report is e valid ep small er = record {
  extended_is = extended_is t.setting.model n t listed refl is e;
  valid = valid;
  small = size_is n t listed proofs.items false is ep small;
  proofs = ep ∙ ap (λ l. proof_text (map proof_of l)) is;
  report = er;
}

pub long_where_measured : (n : ℕ) (text : List ℕ) → n ≡ most (length text) → nat_lt (2 ^ 30) n ≡ is_too_long text
long_where_measured n text e = grind (arith, nat_tests)
