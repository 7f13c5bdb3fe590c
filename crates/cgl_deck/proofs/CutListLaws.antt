-- Turns of the loops that make the rows of cuts and hand their terms out to the lists of their columns.
use Rattle.std.proofs.Common.{◌≡◌, List, ℕ, zero, suc, ◌+◌, ◌<◌, ◌≤◌, [], ◌∷◌, ◌++◌, length, get_or, drop, append_assoc, append-nil, ap, ap₂, refl, sym, ◌∙◌, arith, subst, Option, None, Some, map, min, nat_lt, Bool, true, IsTrue}
use Rattle.std.specs.List.{list_all, zip}
use Rattle.std.proofs.lemmas.List.{drop_all}
use Rattle.std.proofs.lemmas.List.Elements.{All-get_or}
use Rattle.std.proofs.lemmas.List.Sums.{AllPass-from_list_all}
use Rattle.cgl_num.specs.Decimal.{Decimal}
use Rattle.cgl_model.specs.declared.linear.Ineq.{Ineq}
use Rattle.cgl_model.specs.declared.mip.Column.{Column}
use Rattle.cgl_model.specs.Rising.{IsRising}
use Rattle.cgl_model.specs.RowEntries.{onto_entries}
use Rattle.cgl_deck.specs.Extended.{AreRising, coefficient_at, cut_entries, extended_columns_from}
use Rattle.cgl_deck.proofs.TurnLaws.{next_item}

onto_front : (r : ℕ) (o : Option Decimal) (es : List (ℕ × Decimal)) → onto_entries r o [] ++ es ≡ onto_entries r o es
onto_front r None es = refl
onto_front r (Some d) es = refl

-- the terms of one cut are added, and those of the cuts behind it are to come
cuts_split : (r next j : ℕ) (c : Ineq) (cuts : List Ineq) (cols : List Column) → next ≡ r + 1
    → extended_columns_from next j cuts (extended_columns_from r j (c ∷ []) cols) ≡ extended_columns_from r j (c ∷ cuts) cols
cuts_split r next j c cuts [] is = refl
cuts_split r next j c cuts (v ∷ cols) is =
    ap₂ (λ (es : List (ℕ × Decimal)) l. record v { entries = es } ∷ l)
    (append_assoc v.entries (onto_entries r (coefficient_at j c.terms) []) (cut_entries j next cuts)
    ∙ ap (λ e. v.entries ++ e) (onto_front r (coefficient_at j c.terms) (cut_entries j next cuts) ∙ ap (λ n. onto_entries r (coefficient_at j c.terms) (cut_entries j n cuts)) is))
    (cuts_split r next (j + 1) c cuts cols is)

no_cuts : (r j : ℕ) (cols : List Column) → extended_columns_from r j [] cols ≡ cols
no_cuts r j [] = refl
no_cuts r j (v ∷ cols) = ap₂ (λ (es : List (ℕ × Decimal)) l. record v { entries = es } ∷ l) (append-nil v.entries) (no_cuts r (j + 1) cols)

pub cuts_start : (first : ℕ) (cuts : List Ineq) (cols : List Column) → extended_columns_from (first + 0) 0 cuts cols ≡ extended_columns_from first 0 cuts cols
cuts_start first cuts cols = let same : first + 0 ≡ first = omega arith in ap (λ r. extended_columns_from r 0 cuts cols) same

pub cuts_turn : (cols next whole : List Column) (first k : ℕ) (c : Ineq) (cuts : List Ineq) → k < length cuts → c ≡ get_or cuts k c
    → next ≡ extended_columns_from (first + k) 0 (c ∷ []) cols
    → extended_columns_from (first + k) 0 (drop k cuts) cols ≡ whole → extended_columns_from (first + (k + 1)) 0 (drop (k + 1) cuts) next ≡ whole
cuts_turn cols next whole first k c cuts lt is now before =
    ap (extended_columns_from (first + (k + 1)) 0 (drop (k + 1) cuts)) now
    ∙ cuts_split (first + k) (first + (k + 1)) 0 c (drop (k + 1) cuts) cols (omega arith)
    ∙ ap (λ l. extended_columns_from (first + k) 0 l cols) (sym (next_item cuts k c c lt is))
    ∙ before

pub cuts_ended : (cols whole : List Column) (first k : ℕ) (cuts : List Ineq) → length cuts ≤ k → extended_columns_from (first + k) 0 (drop k cuts) cols ≡ whole → cols ≡ whole
cuts_ended cols whole first k cuts le before = sym (no_cuts (first + k) 0 cols) ∙ ap (λ l. extended_columns_from (first + k) 0 l cols) (sym (drop_all k cuts le)) ∙ before

pub rising_turn : {Q : Type 0} (cuts : List Ineq) (k : ℕ) (c : Ineq) → k < length cuts → c ≡ get_or cuts k c → IsRising c.terms
    → (AreRising (drop k cuts) → Q) → AreRising (drop (k + 1) cuts) → Q
rising_turn cuts k c lt is here before rest = before (subst AreRising (sym (next_item cuts k c c lt is)) (here, rest))

none_beside : {X Y : Type 0} (xs : List X) (ys : List Y) → length ys ≡ 0 → zip xs ys ≡ []
none_beside [] ys h = refl
none_beside (x ∷ xs) [] h = refl
none_beside (x ∷ xs) (y ∷ ys) h = absurd (omega arith)

pub zip_ended : {X Y : Type 0} (xs : List X) (ys : List Y) (n : ℕ) → min (length xs) (length ys) ≤ n → zip (drop n xs) (drop n ys) ≡ []
zip_ended [] ys zero le = refl
zip_ended (x ∷ xs) [] zero le = refl
zip_ended (x ∷ xs) (y ∷ ys) zero le = absurd (omega arith)
zip_ended [] ys (suc n) le = refl
zip_ended (x ∷ xs) [] (suc n) le = none_beside (drop n xs) [] refl
zip_ended (x ∷ xs) (y ∷ ys) (suc n) le = zip_ended xs ys n (omega arith)

-- the image of a pair is added, and those of the pairs behind it are to come
pub zip_turn : {X Y Z : Type 0} (f : X × Y → Z) (done more all : List Z) (xs : List X) (ys : List Y) (k : ℕ) (x own : X) (y : Y) → k < length xs → k < length ys
    → x ≡ get_or xs k x → y ≡ get_or ys k y → own ≡ x → more ≡ done ++ f (own, y) ∷ []
    → done ++ map f (zip (drop k xs) (drop k ys)) ≡ all → more ++ map f (zip (drop (k + 1) xs) (drop (k + 1) ys)) ≡ all
zip_turn f done more all xs ys k x own y x_lt y_lt x_is y_is own_is now before =
    let rest = map f (zip (drop (k + 1) xs) (drop (k + 1) ys)) in
    ap (λ m. m ++ rest) now ∙ append_assoc done (f (own, y) ∷ []) rest ∙ ap (λ w. done ++ f (w, y) ∷ rest) own_is
    ∙ ap₂ (λ a b. done ++ map f (zip a b)) (sym (next_item xs k x x x_lt x_is)) (sym (next_item ys k y y y_lt y_is)) ∙ before

-- a copy of an item is added, and those of the items behind it are to come
pub copy_turn : {X : Type 0} (done more all xs : List X) (i : ℕ) (x : X) → i < length xs → x ≡ get_or xs i x → more ≡ done ++ x ∷ []
    → done ++ drop i xs ≡ all → more ++ drop (i + 1) xs ≡ all
copy_turn done more all xs i x lt is now before =
    ap (λ m. m ++ drop (i + 1) xs) now ∙ append_assoc done (x ∷ []) (drop (i + 1) xs) ∙ ap (λ l. done ++ l) (sym (next_item xs i x x lt is)) ∙ before

-- the cut of a turn passes what all cuts pass
pub cut_passes : (p : Ineq → Bool) (cuts : List Ineq) (k : ℕ) (c : Ineq) → k < length cuts → c ≡ get_or cuts k c → IsTrue (list_all p cuts) → IsTrue (p c)
cut_passes p cuts k c lt is all = ap p is ∙ All-get_or (λ x. p x ≡ true) cuts k c lt (AllPass-from_list_all p cuts all)

pub terms_known : (n count : ℕ) (c : Ineq) → n ≡ count → IsTrue (list_all (λ t. nat_lt t.0 count) c.terms) → IsTrue (list_all (λ t. nat_lt t.0 n) c.terms)
terms_known n count c e h = subst (λ (k : ℕ). IsTrue (list_all (λ t. nat_lt t.0 k) c.terms)) (sym e) h
