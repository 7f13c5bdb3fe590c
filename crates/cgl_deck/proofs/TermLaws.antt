-- The terms of a cut behind the entries of their columns.
use Rattle.std.proofs.Common.{◌≡◌, ◌≢◌, List, ℕ, zero, suc, ◌+◌, ◌<◌, ◌≤◌, [], ◌∷◌, ◌++◌, length, get_or, set, drop, ap, ap₂, refl, sym, ◌∙◌, true, None, Some, append-nil, add-one, inl, inr, arith, eqb, nat_lt, IsTrue, subst, find, option_map, pos}
use Rattle.std.specs.List.{list_all}
use Rattle.std.proofs.lemmas.List.Elements.{All-get_or}
use Rattle.std.proofs.lemmas.List.Sums.{AllPass-from_list_all}
use Rattle.std.proofs.Math.Seq.{drop-cons}
use Rattle.std.proofs.lemmas.List.{drop_all}
use Rattle.std.proofs.lemmas.Bool.{ne_eqb, eq-eqb, cond-true, cond-false, ltb-true}
use Rattle.std.proofs.lemmas.Bool.Decides.{eqb_tells}
use Rattle.cgl_num.specs.Decimal.{Decimal}
use Rattle.cgl_model.specs.declared.linear.Ineq.{Ineq}
use Rattle.cgl_model.specs.declared.mip.Column.{Column}
use Rattle.cgl_model.specs.Inequality.{Term}
use Rattle.cgl_model.specs.Rising.{IsRising}
use Rattle.cgl_model.specs.RowEntries.{onto_entries}
use Rattle.cgl_deck.specs.Extended.{coefficient_at, decimal_or_zero, extended_columns_from}

pub rising_tail : (t : Term) (terms : List Term) → IsRising (t ∷ terms) → IsRising terms
rising_tail t [] r = tt
rising_tail t (u ∷ terms) r = r.2

pub rising_drop : (i : ℕ) (terms : List Term) → IsRising terms → IsRising (drop i terms)
rising_drop zero terms r = r
rising_drop (suc i) [] r = r
rising_drop (suc i) (t ∷ terms) r = rising_drop i terms (rising_tail t terms r)

-- the columns behind a term are above its own
pub none_behind : (j : ℕ) (t : Term) (terms : List Term) → IsRising (t ∷ terms) → j ≤ t.0 → coefficient_at j terms ≡ None
none_behind j t [] r le = refl
none_behind j t (u ∷ terms) r le =
    let lt : t.0 < u.0 = r.1 in
    ap (λ o. option_map (λ v. decimal_or_zero v.1) o) (cond-false (eqb j u.0) (Some u) (find (λ v. eqb j v.0) terms) (ne_eqb j u.0 (λ e. omega arith)))
    ∙ none_behind j u terms r.2 (omega arith)

pub coefficient_here : (j : ℕ) (t : Term) (terms : List Term) → j ≡ t.0 → coefficient_at j (t ∷ terms) ≡ Some (decimal_or_zero t.1)
coefficient_here j t terms e = ap (λ o. option_map (λ v. decimal_or_zero v.1) o) (cond-true (eqb j t.0) (Some t) (find (λ v. eqb j v.0) terms) (eq-eqb j t.0 e))

pub coefficient_behind : (j : ℕ) (t : Term) (terms : List Term) → j ≢ t.0 → coefficient_at j (t ∷ terms) ≡ coefficient_at j terms
coefficient_behind j t terms ne = ap (λ o. option_map (λ v. decimal_or_zero v.1) o) (cond-false (eqb j t.0) (Some t) (find (λ v. eqb j v.0) terms) (ne_eqb j t.0 ne))

pub column_known : (n i : ℕ) (terms : List Term) (d : Term) → i < length terms → IsTrue (list_all (λ t. nat_lt t.0 n) terms) → (get_or terms i d).0 < n
column_known n i terms d lt h =
    ltb-true (get_or terms i d).0 n (All-get_or (λ t. nat_lt t.0 n ≡ true) terms i d lt (AllPass-from_list_all (λ t. nat_lt t.0 n) terms h))

pub column_known_at : (n m i : ℕ) (items terms : List Term) (d : Term) → items ≡ terms → m ≡ n → i < length items → IsTrue (list_all (λ t. nat_lt t.0 n) terms)
    → (get_or items i d).0 < m
column_known_at n m i items terms d same n_is lt h =
    let within : i < length terms = omega (arith, ap length same) in
    omega (arith, column_known n i terms d within h, ap (λ l. (get_or l i d).0) same)

-- ---- the terms of one cut, which has this row, behind the entries of columns j and on

abbrev pub with_terms : ℕ → ℕ → List Term → List Column → List Column
with_terms row j terms [] = []
with_terms row j terms (v ∷ cols) = record v { entries = v.entries ++ onto_entries row (coefficient_at j terms) [] } ∷ with_terms row (j + 1) terms cols

pub one_cut : (row j : ℕ) (c : Ineq) (cols : List Column) → extended_columns_from row j (c ∷ []) cols ≡ with_terms row j c.terms cols
one_cut row j c [] = refl
one_cut row j c (v ∷ cols) = ap (λ l. record v { entries = v.entries ++ onto_entries row (coefficient_at j c.terms) [] } ∷ l) (one_cut row (j + 1) c cols)

no_terms : (row j : ℕ) (cols : List Column) → with_terms row j [] cols ≡ cols
no_terms row j [] = refl
no_terms row j (v ∷ cols) = ap₂ (λ (es : List (ℕ × Decimal)) l. record v { entries = es } ∷ l) (append-nil v.entries) (no_terms row (j + 1) cols)

entries_split : (row j : ℕ) (t : Term) (terms : List Term) (es : List (ℕ × Decimal)) → IsRising (t ∷ terms)
    → (es ++ onto_entries row (coefficient_at j (t ∷ [])) []) ++ onto_entries row (coefficient_at j terms) [] ≡ es ++ onto_entries row (coefficient_at j (t ∷ terms)) []
entries_split row j t terms es r =
    elim (eqb_tells j t.0) [
      | inl w ↦ rw (coefficient_here j t [] w.1, coefficient_here j t terms w.1, none_behind j t terms r (omega arith)) (append-nil _)
      | inr w ↦ rw (coefficient_behind j t [] w.1, coefficient_behind j t terms w.1) (ap (λ l. l ++ onto_entries row (coefficient_at j terms) []) (append-nil es))
    ]

terms_split : (row j : ℕ) (t : Term) (terms : List Term) (cols : List Column) → IsRising (t ∷ terms)
    → with_terms row j terms (with_terms row j (t ∷ []) cols) ≡ with_terms row j (t ∷ terms) cols
terms_split row j t terms [] r = refl
terms_split row j t terms (v ∷ cols) r =
    ap₂ (λ (es : List (ℕ × Decimal)) l. record v { entries = es } ∷ l) (entries_split row j t terms v.entries r) (terms_split row (j + 1) t terms cols r)

-- a term of an earlier column
passed : (row j : ℕ) (t : Term) (cols : List Column) → t.0 < j → with_terms row j (t ∷ []) cols ≡ cols
passed row j t [] lt = refl
passed row j t (v ∷ cols) lt =
    rw (coefficient_behind j t [] (λ e. omega arith))
    (ap₂ (λ (es : List (ℕ × Decimal)) l. record v { entries = es } ∷ l) (append-nil v.entries) (passed row (j + 1) t cols (omega arith)))

term_set : (row j : ℕ) (t : Term) (cols : List Column) (i : ℕ) (d : Column) (es : List (ℕ × Decimal)) → t.0 ≡ j + i → i < length cols
    → es ≡ (get_or cols i d).entries ++ (row, decimal_or_zero t.1) ∷ [] → set cols i (record (get_or cols i d) { entries = es }) ≡ with_terms row j (t ∷ []) cols
term_set row j t [] i d es at lt now = absurd (omega arith)
term_set row j t (v ∷ cols) zero d es at lt now =
    rw (coefficient_here j t [] (omega arith))
    (ap₂ (λ (l : List (ℕ × Decimal)) rest. record v { entries = l } ∷ rest) now (sym (passed row (j + 1) t cols (omega arith))))
term_set row j t (v ∷ cols) (suc i) d es at lt now =
    rw (coefficient_behind j t [] (λ e. omega arith))
    (ap₂ (λ (l : List (ℕ × Decimal)) rest. record v { entries = l } ∷ rest) (sym (append-nil v.entries)) (term_set row (j + 1) t cols i d es (omega arith) (omega arith) now))

pub term_added : (row : ℕ) (t : Term) (cols : List Column) (d : Column) (number : Decimal) (es : List (ℕ × Decimal)) → t.0 < length cols → number ≡ decimal_or_zero t.1
    → es ≡ (get_or cols t.0 d).entries ++ (row, number) ∷ []
    → set cols t.0 (record (get_or cols t.0 d) { entries = es }) ≡ extended_columns_from row 0 (record { terms = t ∷ []; rhs = pos 0 } ∷ []) cols
term_added row t cols d number es lt is now =
    term_set row 0 t cols t.0 d es (omega arith) lt (now ∙ ap (λ n. (get_or cols t.0 d).entries ++ (row, n) ∷ []) is)
    ∙ sym (one_cut row 0 (record { terms = t ∷ []; rhs = pos 0 }) cols)

pub terms_turn : (cols next : List Column) (row : ℕ) (all : List Term) (i : ℕ) (d t : Term) (whole : List Column) → i < length all → IsRising all → t ≡ get_or all i d
    → next ≡ extended_columns_from row 0 (record { terms = t ∷ []; rhs = pos 0 } ∷ []) cols
    → with_terms row 0 (drop i all) cols ≡ whole → with_terms row 0 (drop (i + 1) all) next ≡ whole
terms_turn cols next row all i d t whole lt r is now before =
    let cut : drop i all ≡ t ∷ drop (i + 1) all = rw (is, add-one) (drop-cons all i d lt) in
    let rest : IsRising (t ∷ drop (i + 1) all) = subst IsRising cut (rising_drop i all r) in
    ap (with_terms row 0 (drop (i + 1) all)) (now ∙ one_cut row 0 (record { terms = t ∷ []; rhs = pos 0 }) cols)
    ∙ terms_split row 0 t (drop (i + 1) all) cols rest
    ∙ ap (λ terms. with_terms row 0 terms cols) (sym cut)
    ∙ before

pub terms_ended : (cols first : List Column) (row : ℕ) (c : Ineq) (i : ℕ) → length c.terms ≤ i
    → with_terms row 0 (drop i c.terms) cols ≡ with_terms row 0 c.terms first → cols ≡ extended_columns_from row 0 (c ∷ []) first
terms_ended cols first row c i le before =
    sym (no_terms row 0 cols) ∙ ap (λ terms. with_terms row 0 terms cols) (sym (drop_all i c.terms le)) ∙ before ∙ sym (one_cut row 0 c first)
