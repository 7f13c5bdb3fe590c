-- The entries of extended columns, and the rows that they make.
use Rattle.std.proofs.Common.{◌≡◌, ◌≢◌, List, ℕ, zero, suc, ◌+◌, ◌<◌, ◌≤◌, [], ◌∷◌, ◌++◌, length, map, ap, refl, sym, ◌∙◌, true, Option, None, Some, inl, inr, arith, eqb, nat_lt, find, option_map}
use Rattle.std.specs.List.{list_all, AllByRecursion, slice_get}
use Rattle.std.proofs.lemmas.Bool.{ne_eqb, eq-eqb, cond-true, cond-false, and_parts, ltb-true}
use Rattle.std.proofs.lemmas.Bool.Decides.{eqb_tells}
use Rattle.cgl_num.specs.Decimal.{Decimal}
use Rattle.cgl_model.specs.declared.linear.Ineq.{Ineq}
use Rattle.cgl_model.specs.declared.mip.Column.{Column}
use Rattle.cgl_model.specs.Inequality.{Term}
use Rattle.cgl_model.specs.Rising.{IsRising}
use Rattle.cgl_model.specs.RowEntries.{entry_at, onto_entries, row_entries_from}
use Rattle.cgl_deck.specs.Extended.{coefficient_at, cut_entries, decimal_or_zero, decimal_terms, extended_columns_from}
use Rattle.cgl_deck.proofs.TermLaws.{rising_tail, none_behind, coefficient_here, coefficient_behind}

abbrev pub Entry : Type 0
Entry = ℕ × Decimal

abbrev value_of : Option Entry → Option Decimal
value_of o = option_map (λ e. e.1) o

entry_here : (r : ℕ) (e : Entry) (es : List Entry) → r ≡ e.0 → entry_at r (e ∷ es) ≡ Some e.1
entry_here r e es h = ap value_of (cond-true (eqb r e.0) (Some e) (find (λ v. eqb r v.0) es) (eq-eqb r e.0 h))

entry_further : (r : ℕ) (e : Entry) (es : List Entry) → r ≢ e.0 → entry_at r (e ∷ es) ≡ entry_at r es
entry_further r e es ne = ap value_of (cond-false (eqb r e.0) (Some e) (find (λ v. eqb r v.0) es) (ne_eqb r e.0 ne))

entry_onto_other : (r s : ℕ) (o : Option Decimal) (es : List Entry) → r ≢ s → entry_at r (onto_entries s o es) ≡ entry_at r es
entry_onto_other r s None es ne = refl
entry_onto_other r s (Some d) es ne = entry_further r (s, d) es ne

entry_onto_own : (r s : ℕ) (o : Option Decimal) (es : List Entry) → r ≡ s → entry_at r es ≡ None → entry_at r (onto_entries s o es) ≡ o
entry_onto_own r s None es e h = h
entry_onto_own r s (Some d) es e h = entry_here r (s, d) es e

entry_append_none : (r : ℕ) (a b : List Entry) → entry_at r b ≡ None → entry_at r (a ++ b) ≡ entry_at r a
entry_append_none r [] b h = h
entry_append_none r (e ∷ a) b h =
    elim (eqb_tells r e.0) [
      | inl w ↦ entry_here r e (a ++ b) w.1 ∙ sym (entry_here r e a w.1)
      | inr w ↦ entry_further r e (a ++ b) w.1 ∙ entry_append_none r a b h ∙ sym (entry_further r e a w.1)
    ]

entry_append_first : (r n : ℕ) (a b : List Entry) → AllByRecursion (λ e. e.0 < n) a → n ≤ r → entry_at r (a ++ b) ≡ entry_at r b
entry_append_first r n [] b h le = refl
entry_append_first r n (e ∷ a) b h le =
    let lt : e.0 < n = h.0 in
    entry_further r e (a ++ b) (λ same. omega arith) ∙ entry_append_first r n a b h.1 le

-- ---- rows of the cuts

entry_behind : (r s j : ℕ) (cuts : List Ineq) → r < s → entry_at r (cut_entries j s cuts) ≡ None
entry_behind r s j [] lt = refl
entry_behind r s j (c ∷ cuts) lt =
    entry_onto_other r s (coefficient_at j c.terms) (cut_entries j (s + 1) cuts) (λ same. omega arith) ∙ entry_behind r (s + 1) j cuts (omega arith)

cut_entry_at : (r j s k : ℕ) (cuts : List Ineq) (c : Ineq) → slice_get cuts k ≡ Some c → r ≡ s + k → entry_at r (cut_entries j s cuts) ≡ coefficient_at j c.terms
cut_entry_at r j s k [] c h e = absurd (cc)
cut_entry_at r j s zero (b ∷ cuts) c h e =
    let same : b ≡ c = cc in
    entry_onto_own r s (coefficient_at j b.terms) (cut_entries j (s + 1) cuts) (omega arith) (entry_behind r (s + 1) j cuts (omega arith))
    ∙ ap (λ (v : Ineq). coefficient_at j v.terms) same
cut_entry_at r j s (suc k) (b ∷ cuts) c h e =
    entry_onto_other r s (coefficient_at j b.terms) (cut_entries j (s + 1) cuts) (λ same. omega arith)
    ∙ cut_entry_at r j (s + 1) k cuts c h (omega arith)

-- ---- the rows of the extended model

pub old_row_from : (first r j : ℕ) (cuts : List Ineq) (cols : List Column) → r < first → row_entries_from r j (extended_columns_from first j cuts cols) ≡ row_entries_from r j cols
old_row_from first r j cuts [] lt = refl
old_row_from first r j cuts (c ∷ cols) lt =
    ap (λ o. onto_entries j o (row_entries_from r (j + 1) (extended_columns_from first (j + 1) cuts cols)))
    (entry_append_none r c.entries (cut_entries j first cuts) (entry_behind r first j cuts lt))
    ∙ ap (λ es. onto_entries j (entry_at r c.entries) es) (old_row_from first r (j + 1) cuts cols lt)

-- the terms of columns j and on, n in all
abbrev collected : ℕ → ℕ → List Term → List Entry
collected j zero terms = []
collected j (suc n) terms = onto_entries j (coefficient_at j terms) (collected (j + 1) n terms)

new_row_from : (first r k j : ℕ) (cuts : List Ineq) (c : Ineq) (cols : List Column) → AllByRecursion (λ v. AllByRecursion (λ e. e.0 < first) v.entries) cols
    → slice_get cuts k ≡ Some c → r ≡ first + k → row_entries_from r j (extended_columns_from first j cuts cols) ≡ collected j (length cols) c.terms
new_row_from first r k j cuts c [] known h e = refl
new_row_from first r k j cuts c (v ∷ cols) known h e =
    ap (λ o. onto_entries j o (row_entries_from r (j + 1) (extended_columns_from first (j + 1) cuts cols)))
    (entry_append_first r first v.entries (cut_entries j first cuts) known.0 (omega arith) ∙ cut_entry_at r j first k cuts c h e)
    ∙ ap (λ es. onto_entries j (coefficient_at j c.terms) es) (new_row_from first r k (j + 1) cuts c cols known.1 h e)

collected_skips : (j n : ℕ) (t : Term) (terms : List Term) → t.0 < j → collected j n (t ∷ terms) ≡ collected j n terms
collected_skips j zero t terms lt = refl
collected_skips j (suc n) t terms lt =
    ap (λ o. onto_entries j o (collected (j + 1) n (t ∷ terms))) (coefficient_behind j t terms (λ same. omega arith))
    ∙ ap (λ es. onto_entries j (coefficient_at j terms) es) (collected_skips (j + 1) n t terms (omega arith))

collected_none : (j n : ℕ) → collected j n [] ≡ []
collected_none j zero = refl
collected_none j (suc n) = collected_none (j + 1) n

abbrev StartsAt : ℕ → List Term → Type 0
StartsAt j [] = Unit {0}
StartsAt j (t ∷ terms) = j ≤ t.0

starts_first : (terms : List Term) → StartsAt 0 terms
starts_first [] = tt
starts_first (t ∷ terms) = omega arith

starts_behind : (j : ℕ) (t : Term) (terms : List Term) → IsRising (t ∷ terms) → j ≤ t.0 → StartsAt (j + 1) terms
starts_behind j t [] r le = tt
starts_behind j t (u ∷ terms) r le = let lt : t.0 < u.0 = r.1 in omega arith

abbrev as_entry : Term → Entry
as_entry t = (t.0, decimal_or_zero t.1)

collected_all : (j n all : ℕ) (terms : List Term) → IsRising terms → StartsAt j terms → list_all (λ t. nat_lt t.0 all) terms ≡ true → all ≡ j + n
    → collected j n terms ≡ map as_entry terms
collected_all j n all [] r starts below e = collected_none j n
collected_all j zero all (t ∷ terms) r starts below e =
    let lt : t.0 < all = ltb-true t.0 all (and_parts (nat_lt t.0 all) (list_all (λ u. nat_lt u.0 all) terms) below).0 in
    absurd (omega arith)
collected_all j (suc n) all (t ∷ terms) r starts below e =
    let rest : list_all (λ u. nat_lt u.0 all) terms ≡ true = (and_parts (nat_lt t.0 all) (list_all (λ u. nat_lt u.0 all) terms) below).1 in
    elim (eqb_tells j t.0) [
      | inl w ↦
          ap (λ o. onto_entries j o (collected (j + 1) n (t ∷ terms))) (coefficient_here j t terms w.1)
          ∙ ap (λ es. (j, decimal_or_zero t.1) ∷ es)
          (collected_skips (j + 1) n t terms (omega arith) ∙ collected_all (j + 1) n all terms (rising_tail t terms r) (starts_behind j t terms r starts) rest (omega arith))
          ∙ ap (λ i. (i, decimal_or_zero t.1) ∷ map as_entry terms) w.1
      | inr w ↦
          ap (λ o. onto_entries j o (collected (j + 1) n (t ∷ terms))) (coefficient_behind j t terms w.1 ∙ none_behind j t terms r starts)
          ∙ collected_all (j + 1) n all (t ∷ terms) r (omega arith) below (omega arith)
    ]

pub new_row : (first r k : ℕ) (cuts : List Ineq) (c : Ineq) (cols : List Column) → AllByRecursion (λ v. AllByRecursion (λ e. e.0 < first) v.entries) cols
    → slice_get cuts k ≡ Some c → r ≡ first + k → IsRising c.terms → list_all (λ t. nat_lt t.0 (length cols)) c.terms ≡ true
    → row_entries_from r 0 (extended_columns_from first 0 cuts cols) ≡ decimal_terms c
new_row first r k cuts c cols known h e rising below =
    new_row_from first r k 0 cuts c cols known h e ∙ collected_all 0 (length cols) (length cols) c.terms rising (starts_first c.terms) below (omega arith)
