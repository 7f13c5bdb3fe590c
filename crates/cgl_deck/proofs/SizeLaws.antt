-- How many entries an extended model has.
use Rattle.std.proofs.Common.{◌≡◌, List, ℕ, zero, suc, ◌+◌, ◌<◌, ◌≤◌, [], ◌∷◌, ◌++◌, length, ap, refl, Option, None, Some, inl, inr, arith, sum_by, length-append}
use Rattle.std.specs.Option.{option_to_list}
use Rattle.std.proofs.lemmas.Bool.Decides.{eqb_tells}
use Rattle.std.proofs.lemmas.List.Sums.{sum_by-cons}
use Rattle.cgl_num.specs.Decimal.{Decimal}
use Rattle.cgl_model.specs.declared.linear.Ineq.{Ineq}
use Rattle.cgl_model.specs.declared.mip.Column.{Column}
use Rattle.cgl_model.specs.Inequality.{Term}
use Rattle.cgl_model.specs.RowEntries.{onto_entries}
use Rattle.cgl_deck.specs.Extended.{coefficient_at, cut_entries, extended_column, extended_columns_from, term_count}
use Rattle.cgl_deck.proofs.TermLaws.{coefficient_here, coefficient_behind}

abbrev size : Option Decimal → ℕ
size o = length (option_to_list o)

-- of columns j and on, n in all, those that the terms name
abbrev named : ℕ → ℕ → List Term → ℕ
named j zero terms = 0
named j (suc n) terms = size (coefficient_at j terms) + named (j + 1) n terms

-- the new entries of columns j and on, n in all
abbrev added : ℕ → ℕ → ℕ → List Ineq → ℕ
added j zero r cuts = 0
added j (suc n) r cuts = length (cut_entries j r cuts) + added (j + 1) n r cuts

named_none : (j n : ℕ) → named j n [] ≡ 0
named_none j zero = refl
named_none j (suc n) = omega (arith, named_none (j + 1) n)

named_skips : (j n : ℕ) (t : Term) (terms : List Term) → t.0 < j → named j n (t ∷ terms) ≡ named j n terms
named_skips j zero t terms lt = refl
named_skips j (suc n) t terms lt =
    let here : size (coefficient_at j (t ∷ terms)) ≡ size (coefficient_at j terms) = ap size (coefficient_behind j t terms (λ same. omega arith)) in
    let further : named (j + 1) n (t ∷ terms) ≡ named (j + 1) n terms = named_skips (j + 1) n t terms (omega arith) in
    omega arith

named_one_more : (j n : ℕ) (t : Term) (terms : List Term) → named j n (t ∷ terms) ≤ 1 + named j n terms
named_one_more j zero t terms = omega arith
named_one_more j (suc n) t terms =
    elim (eqb_tells j t.0) [
      | inl w ↦
          let here : size (coefficient_at j (t ∷ terms)) ≡ 1 = ap size (coefficient_here j t terms w.1) in
          let further : named (j + 1) n (t ∷ terms) ≡ named (j + 1) n terms = named_skips (j + 1) n t terms (omega arith) in
          omega arith
      | inr w ↦
          let here : size (coefficient_at j (t ∷ terms)) ≡ size (coefficient_at j terms) = ap size (coefficient_behind j t terms w.1) in
          let further : named (j + 1) n (t ∷ terms) ≤ 1 + named (j + 1) n terms = named_one_more (j + 1) n t terms in
          omega arith
    ]

named_few : (j n : ℕ) (terms : List Term) → named j n terms ≤ length terms
named_few j n [] = omega (arith, named_none j n)
named_few j n (t ∷ terms) = omega (arith, named_one_more j n t terms, named_few j n terms)

onto_size : (r : ℕ) (o : Option Decimal) (es : List (ℕ × Decimal)) → length (onto_entries r o es) ≡ size o + length es
onto_size r None es = omega arith
onto_size r (Some d) es = omega arith

added_split : (j n r : ℕ) (c : Ineq) (cuts : List Ineq) → added j n r (c ∷ cuts) ≡ named j n c.terms + added j n (r + 1) cuts
added_split j zero r c cuts = refl
added_split j (suc n) r c cuts =
    let here : length (cut_entries j r (c ∷ cuts)) ≡ size (coefficient_at j c.terms) + length (cut_entries j (r + 1) cuts) =
    onto_size r (coefficient_at j c.terms) (cut_entries j (r + 1) cuts) in
    omega (arith, added_split (j + 1) n r c cuts)

added_none : (j n r : ℕ) → added j n r [] ≡ 0
added_none j zero r = refl
added_none j (suc n) r = omega (arith, added_none (j + 1) n r)

added_few : (j n r : ℕ) (cuts : List Ineq) → added j n r cuts ≤ term_count cuts
added_few j n r [] = omega (arith, added_none j n r)
added_few j n r (c ∷ cuts) =
    let all : term_count (c ∷ cuts) ≡ length c.terms + term_count cuts = sum_by-cons (λ (v : Ineq). length v.terms) c cuts in
    omega (arith, added_split j n r c cuts, named_few j n c.terms, added_few j n (r + 1) cuts)

abbrev entries_in : List Column → ℕ
entries_in cols = sum_by (λ c. length c.entries) cols

entries_extended : (first j : ℕ) (cuts : List Ineq) (cols : List Column) → entries_in (extended_columns_from first j cuts cols) ≡ entries_in cols + added j (length cols) first cuts
entries_extended first j cuts [] = refl
entries_extended first j cuts (c ∷ cols) =
    let old : entries_in (c ∷ cols) ≡ length c.entries + entries_in cols = sum_by-cons (λ (v : Column). length v.entries) c cols in
    let new : entries_in (extended_columns_from first j cuts (c ∷ cols)) ≡ length (c.entries ++ cut_entries j first cuts) + entries_in (extended_columns_from first (j + 1) cuts cols) =
    sum_by-cons (λ (v : Column). length v.entries) (extended_column first j cuts c) (extended_columns_from first (j + 1) cuts cols) in
    omega (arith, length-append c.entries (cut_entries j first cuts), entries_extended first (j + 1) cuts cols)

pub extended_few : (first : ℕ) (cuts : List Ineq) (cols : List Column) → sum_by (λ c. length c.entries) (extended_columns_from first 0 cuts cols) ≤ sum_by (λ c. length c.entries) cols + term_count cuts
extended_few first cuts cols = omega (arith, entries_extended first 0 cuts cols, added_few 0 (length cols) first cuts)

pub columns_length : (first j : ℕ) (cuts : List Ineq) (cols : List Column) → length (extended_columns_from first j cuts cols) ≡ length cols
columns_length first j cuts [] = refl
columns_length first j cuts (c ∷ cols) = ap suc (columns_length first (j + 1) cuts cols)
