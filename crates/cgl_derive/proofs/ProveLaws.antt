-- When a sum proves a claim.
use Rattle.std.proofs.Common.{◌≡◌, ℕ, zero, suc, ℤ, pos, ◌*◌, ◌<◌, ◌≤◌, ◌==◌, ◌||◌, ◌^◌, List, [], ◌∷◌, length, get_or, Bool, true, false, sym, ap, ◌∙◌, subst, ⊎_elim, arith}
use Rattle.std.specs.Prelude.{◌*ℤ◌, unsigned_abs, All}
use Rattle.std.specs.List.{AllByRecursion}
use Rattle.std.proofs.Math.IntN.{*ℤ-zero}
use Rattle.std.proofs.lemmas.Int.{unsigned_abs-mul}
use Rattle.std.proofs.lemmas.Bool.Decides.{nat_tests}
use Rattle.std.proofs.lemmas.Bool.{cases_order}
use Rattle.std.proofs.lemmas.List.Elements.{recursion_from_All, All-from_recursion}
use Rattle.cgl_model.specs.Inequality.{Term}
use Rattle.cgl_model.specs.Rising.{IsRising}
use Rattle.cgl_derive.specs.Derives.{coefficient}
use Rattle.cgl_derive.specs.Totals.{Amount, nothing, amount_at, plus, is_wide, is_nothing, is_among, has_column, AreTouched, IsTimes, IsZeroOutside}
use Rattle.cgl_derive.proofs.CoefficientLaws.{coefficient_at, coefficient_not}
use Rattle.cgl_derive.proofs.AmountLaws.{at_past, nothing_is}
use Rattle.cgl_derive.proofs.TestLaws.{nat_same, or_true, tested}

wide_is : (q a : ℤ) → is_wide (plus q a nothing) ≡ true → 2 ^ 127 ≤ unsigned_abs q * unsigned_abs a
wide_is q a e = grind (arith, nat_tests, e)

-- a number that is too wide is no value of a sum
pub times_wide : (q a v : ℤ) → is_wide (plus q a nothing) ≡ true → unsigned_abs v < 2 ^ 127 → v ≡ q *ℤ a → ⊥
times_wide q a v e h is =
    let size = ap unsigned_abs is ∙ unsigned_abs-mul q a in
    let wide = wide_is q a e in
    omega (arith, size, wide, h)

all_of : {A : Type 0} (P : A → Type 0) (xs : List A) → ((x : A) → P x) → AllByRecursion P xs
all_of P [] h = tt
all_of P (x ∷ xs) h = (h x, all_of P xs h)

all_by_index : {A : Type 0} (P : A → Type 0) (xs : List A) → ((k : ℕ) (d : A) → k < length xs → P (get_or xs k d)) → AllByRecursion P xs
all_by_index P [] h = tt
all_by_index P (x ∷ xs) h = (h 0 x (omega arith), all_by_index P xs (λ k d l. h (suc k) d (omega (arith, l))))

all_at : {A : Type 0} (P : A → Type 0) (xs : List A) (k : ℕ) (d : A) → AllByRecursion P xs → k < length xs → P (get_or xs k d)
all_at P [] k d all h = absurd (omega (arith, h))
all_at P (x ∷ xs) zero d all h = all.0
all_at P (x ∷ xs) (suc k) d all h = all_at P xs k d all.1 (omega (arith, h))

pub find_column : (j : ℕ) (terms : List Term) → has_column j terms ≡ true → (k : ℕ) × (k < length terms) × ((d : Term) → (get_or terms k d).0 ≡ j)
find_column j [] e = cc
find_column j (t ∷ terms) e = ⊎_elim
    (λ here. (0, omega arith, λ d. sym (nat_same j t.0 here)))
    (λ later. let found = find_column j terms later in (suc found.0, omega (arith, found.1), found.2))
    (or_true (j == t.0) (has_column j terms) e)

abbrev AreValuesTimes : ℤ → List Amount → List Term → Type 0
AreValuesTimes q columns terms = (j : ℕ) → (amount_at columns j).value ≡ q *ℤ coefficient j terms

pub times_from : (q : ℤ) (columns : List Amount) (terms : List Term) → IsRising terms → AreValuesTimes q columns terms → AllByRecursion (IsTimes q columns) terms
times_from q columns terms r h = all_by_index (IsTimes q columns) terms (λ k d l. h (get_or terms k d).0 ∙ ap (λ z. q *ℤ z) (coefficient_at terms k d r l))

pub outside_from : (q : ℤ) (columns : List Amount) (terms : List Term) (j : ℕ) → AreValuesTimes q columns terms → IsZeroOutside columns terms j
outside_from q columns terms j h e = h j ∙ ap (λ z. q *ℤ z) e ∙ *ℤ-zero q

values_times : (q : ℤ) (columns : List Amount) (terms : List Term) → IsRising terms → AllByRecursion (IsTimes q columns) terms → ((j : ℕ) → IsZeroOutside columns terms j) → AreValuesTimes q columns terms
values_times q columns terms r times outside j = ⊎_elim
    (λ has.
    let found = find_column j terms has in
    let at = found.2 (j, pos 0) in
    ap (λ k. (amount_at columns k).value) (sym at) ∙ all_at (IsTimes q columns) terms found.0 (j, pos 0) times found.1
    ∙ ap (λ z. q *ℤ z) (sym (coefficient_at terms found.0 (j, pos 0) r found.1) ∙ ap (λ k. coefficient k terms) at))
    (λ not. let none = coefficient_not j terms not in outside j none ∙ sym (ap (λ z. q *ℤ z) none ∙ *ℤ-zero q))
    (tested (has_column j terms))

past : (j : ℕ) (columns : List Amount) (terms : List Term) → (j < length columns → IsZeroOutside columns terms j) → IsZeroOutside columns terms j
past j columns terms h none = ⊎_elim (λ e. ap (λ a. a.value) (at_past columns j (omega (arith, e))))
    (λ o. ⊎_elim (λ l. h l none) (λ l. ap (λ a. a.value) (at_past columns j (omega (arith, l)))) o) (cases_order j (length columns))

-- by all columns
pub left_all : (q : ℤ) (columns : List Amount) (terms : List Term) → IsRising terms → AllByRecursion (IsTimes q columns) terms → ((j : ℕ) → j < length columns → IsZeroOutside columns terms j) → AreValuesTimes q columns terms
left_all q columns terms r times outside = values_times q columns terms r times (λ j. past j columns terms (outside j))

among_all : (P : ℕ → Type 0) (j : ℕ) (touched : List ℕ) → AllByRecursion P touched → is_among j touched ≡ true → P j
among_all P j [] all e = cc
among_all P j (k ∷ touched) all e = ⊎_elim (λ here. subst P (sym (nat_same j k here)) all.0) (λ later. among_all P j touched all.1 later) (or_true (j == k) (is_among j touched) e)

not_full : (full among : Bool) → full ≡ false → (full || among) ≡ true → among ≡ true
not_full true among e h = cc
not_full false among e h = h

-- by the columns that were touched
pub left_touched : (q : ℤ) (columns : List Amount) (touched : List ℕ) (full : Bool) (terms : List Term) → IsRising terms → AreTouched columns touched full → full ≡ false → AllByRecursion (IsTimes q columns) terms
    → All (IsZeroOutside columns terms) touched → AreValuesTimes q columns terms
left_touched q columns touched full terms r covered e times outside = values_times q columns terms r times (λ j. ⊎_elim
    (λ none. λ zero. ap (λ a. a.value) (nothing_is (amount_at columns j) none))
    (λ or. among_all (IsZeroOutside columns terms) j touched (recursion_from_All (IsZeroOutside columns terms) touched outside) (not_full full (is_among j touched) e or))
    (or_true (is_nothing (amount_at columns j)) (full || is_among j touched) (covered j)))

pub touched_from : (q : ℤ) (columns : List Amount) (touched : List ℕ) (terms : List Term) → AreValuesTimes q columns terms → All (IsZeroOutside columns terms) touched
touched_from q columns touched terms h = All-from_recursion (IsZeroOutside columns terms) touched (all_of (IsZeroOutside columns terms) touched (λ j. outside_from q columns terms j h))
