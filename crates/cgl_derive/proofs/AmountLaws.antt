-- Amounts by columns.
use Rattle.std.proofs.Common.{◌≡◌, ℕ, zero, suc, ℤ, pos, ◌+◌, ◌*◌, ◌<◌, ◌≤◌, ◌==◌, ◌||◌, ◌&&◌, not, List, [], ◌∷◌, ◌++◌, length, take, get_or, replicate, set, Bool, true, false, IsTrue, refl, sym, ap, ◌∙◌, ⊎_elim, arith}
use Rattle.std.specs.Prelude.{◌+ℤ◌, ◌*ℤ◌, unsigned_abs, if◌then◌else◌}
use Rattle.std.specs.List.{list_any}
use Rattle.std.specs.Ordering.{int_eq}
use Rattle.std.proofs.Math.IntN.{*ℤ-zero}
use Rattle.std.proofs.lemmas.Int.{ints}
use Rattle.std.proofs.lemmas.Bool.Decides.{nat_tests}
use Rattle.std.proofs.lemmas.Bool.{cases_eq, cases_order, true≢false}
use Rattle.std.proofs.lemmas.List.Folds.{list_any_at}
use Rattle.std.proofs.lemmas.List.{get_or-set_same, get_or-set_other, get_or_default, length-set}
use Rattle.cgl_model.specs.Inequality.{Term, AreColumnsBelow}
use Rattle.cgl_model.specs.Rising.{IsRising}
use Rattle.cgl_derive.specs.Derives.{coefficient}
use Rattle.cgl_derive.specs.Totals.{Amount, nothing, amount_at, plus, plus_columns, is_wide, is_nothing, is_among, has_column, AreTouched, AreTouchedWith}
use Rattle.cgl_derive.proofs.CoefficientLaws.{coefficient_not, coefficient_more, coefficient_taken}
use Rattle.cgl_derive.proofs.TestLaws.{and_true, int_same, nat_same, plus_none, none_plus}

pub column_at : (n : ℕ) (terms : List Term) (i : ℕ) (d : Term) → AreColumnsBelow n terms → i < length terms → (get_or terms i d).0 < n
column_at n [] i d all h = absurd (omega arith)
column_at n (t ∷ terms) zero d all h = all.0
column_at n (t ∷ terms) (suc i) d all h = column_at n terms i d all.1 (omega arith)

-- two lists of one length with the same amounts are one
pub same_amounts : (xs ys : List Amount) → length xs ≡ length ys → ((j : ℕ) → j < length xs → amount_at xs j ≡ amount_at ys j) → xs ≡ ys
same_amounts [] [] e h = refl
same_amounts [] (y ∷ ys) e h = absurd (omega (arith, e))
same_amounts (x ∷ xs) [] e h = absurd (omega (arith, e))
same_amounts (x ∷ xs) (y ∷ ys) e h =
    ap (λ z. z ∷ xs) (h 0 (omega arith)) ∙ ap (λ z. y ∷ z) (same_amounts xs ys (omega (arith, e)) (λ j l. h (suc j) (omega arith)))

pub at_past : (xs : List Amount) (j : ℕ) → length xs ≤ j → amount_at xs j ≡ nothing
at_past [] j h = refl
at_past (x ∷ xs) zero h = absurd (omega arith)
at_past (x ∷ xs) (suc j) h = at_past xs j (omega arith)

picked : (j i : ℕ) (a b : Amount) → j ≡ i → (if j == i then a else b) ≡ a
picked j i a b e = grind (arith, nat_tests, e)

passed : (j i : ℕ) (a b : Amount) → (j ≡ i → ⊥) → (if j == i then a else b) ≡ b
passed j i a b n = grind (arith, nat_tests, n)

pub at_set : (xs : List Amount) (i j : ℕ) (a : Amount) → i < length xs → amount_at (set xs i a) j ≡ (if j == i then a else amount_at xs j)
at_set xs i j a h = ⊎_elim
    (λ e. ap (amount_at (set xs i a)) e ∙ get_or-set_same xs i a nothing h ∙ sym (picked j i a (amount_at xs j) e))
    (λ n. get_or-set_other xs i j a nothing n ∙ sym (passed j i a (amount_at xs j) n))
    (cases_eq j i)

picked_number : (j c : ℕ) (a : ℤ) → j ≡ c → (if j == c then a else pos 0) ≡ a
picked_number j c a e = grind (arith, nat_tests, e)

passed_number : (j c : ℕ) (a : ℤ) → (j ≡ c → ⊥) → (if j == c then a else pos 0) ≡ pos 0
passed_number j c a n = grind (arith, nat_tests, n)

all_nothing : (n j : ℕ) → amount_at (replicate n nothing) j ≡ nothing
all_nothing zero j = refl
all_nothing (suc n) zero = refl
all_nothing (suc n) (suc j) = all_nothing n j

length_all : (n : ℕ) → length (replicate n nothing) ≡ n
length_all zero = refl
length_all (suc n) = ap suc (length_all n)

pub cleared : (xs : List Amount) (n : ℕ) → length xs ≡ n → ((j : ℕ) → j < length xs → amount_at xs j ≡ nothing) → xs ≡ replicate n nothing
cleared xs n e h = same_amounts xs (replicate n nothing) (e ∙ sym (length_all n)) (λ j l. h j l ∙ sym (all_nothing n j))

-- ---- a multiple of terms more

pub length_plus : (by : ℤ) (terms : List Term) (n : ℕ) (xs : List Amount) → length (plus_columns by terms n xs) ≡ length xs
length_plus by terms n [] = refl
length_plus by terms n (x ∷ xs) = ap suc (length_plus by terms (suc n) xs)

at_plus_from : (by : ℤ) (terms : List Term) (n : ℕ) (xs : List Amount) (j : ℕ) → j < length xs → amount_at (plus_columns by terms n xs) j ≡ plus by (coefficient (n + j) terms) (amount_at xs j)
at_plus_from by terms n [] j h = absurd (omega arith)
at_plus_from by terms n (x ∷ xs) zero h = ap (λ k. plus by (coefficient k terms) x) (omega arith)
at_plus_from by terms n (x ∷ xs) (suc j) h = at_plus_from by terms (suc n) xs j (omega arith) ∙ ap (λ k. plus by (coefficient k terms) (amount_at xs j)) (omega arith)

pub at_plus : (by : ℤ) (terms : List Term) (xs : List Amount) (j : ℕ) → j < length xs → amount_at (plus_columns by terms 0 xs) j ≡ plus by (coefficient j terms) (amount_at xs j)
at_plus by terms xs j h = at_plus_from by terms 0 xs j h ∙ ap (λ k. plus by (coefficient k terms) (amount_at xs j)) (omega arith)

pub plus_zero : (by : ℤ) (a : Amount) → plus by (pos 0) a ≡ a
plus_zero by a =
    let none = *ℤ-zero by in
    let value : a.value +ℤ by *ℤ pos 0 ≡ a.value = omega (arith, ints, none) in
    let magnitude : a.magnitude + unsigned_abs by * 0 ≡ a.magnitude = omega arith in
    let P : ℤ → Amount = λ z. record { value = z; magnitude = a.magnitude + unsigned_abs by * 0 } in
    let Q : ℕ → Amount = λ n. record { value = a.value; magnitude = n } in
    ap P value ∙ ap Q magnitude

-- before its term comes a column is as it was
pub at_before : (by : ℤ) (terms : List Term) (xs : List Amount) (j : ℕ) → j < length xs → coefficient j terms ≡ pos 0 → amount_at (plus_columns by terms 0 xs) j ≡ amount_at xs j
at_before by terms xs j h e = at_plus by terms xs j h ∙ ap (λ z. plus by z (amount_at xs j)) e ∙ plus_zero by (amount_at xs j)

one_column : (by had more : ℤ) (j c : ℕ) (at_c at_j now : Amount) → now ≡ plus by had at_j → (j ≡ c → had ≡ pos 0) → (j ≡ c → at_j ≡ at_c)
    → (if j == c then plus by more at_c else now) ≡ plus by (had +ℤ (if j == c then more else pos 0)) at_j
one_column by had more j c at_c at_j now is none same = ⊎_elim
    (λ e. picked j c _ now e ∙ ap (plus by more) (sym (same e)) ∙ ap (λ z. plus by z at_j) (sym (ap (λ z. had +ℤ z) (picked_number j c more e) ∙ ap (λ z. z +ℤ more) (none e) ∙ none_plus more)))
    (λ n. passed j c _ now n ∙ is ∙ ap (λ z. plus by z at_j) (sym (ap (λ z. had +ℤ z) (passed_number j c more n) ∙ plus_none had)))
    (cases_eq j c)

-- one term more
pub plus_more : (by : ℤ) (terms : List Term) (i : ℕ) (d : Term) (xs : List Amount) → i < length terms → (get_or terms i d).0 < length xs → coefficient (get_or terms i d).0 (take i terms) ≡ pos 0
    → set (plus_columns by (take i terms) 0 xs) (get_or terms i d).0 (plus by (get_or terms i d).1 (amount_at xs (get_or terms i d).0)) ≡ plus_columns by (take (i + 1) terms) 0 xs
plus_more by terms i d xs h l e =
    let u = get_or terms i d in
    let ys = plus_columns by (take i terms) 0 xs in
    let n = length_plus by (take i terms) 0 xs in
    same_amounts (set ys u.0 (plus by u.1 (amount_at xs u.0))) (plus_columns by (take (i + 1) terms) 0 xs)
    (length-set ys u.0 _ ∙ n ∙ sym (length_plus by (take (i + 1) terms) 0 xs))
    (λ j within.
    let inside : j < length xs = omega (arith, within, n, length-set ys u.0 (plus by u.1 (amount_at xs u.0))) in
    at_set ys u.0 j _ (omega (arith, l, n))
    ∙ one_column by (coefficient j (take i terms)) u.1 j u.0 (amount_at xs u.0) (amount_at xs j) (amount_at ys j) (at_plus by (take i terms) xs j inside) (λ same. ap (λ k. coefficient k (take i terms)) same ∙ e) (λ same. ap (amount_at xs) same)
    ∙ sym (at_plus by (take (i + 1) terms) xs j inside ∙ ap (λ z. plus by z (amount_at xs j)) (coefficient_more j terms i d h)))

or_none : (a : Bool) → (a || (false || false)) ≡ true → a ≡ true
or_none true h = refl
or_none false h = cc

either_side : (none has touched now : Bool) → IsTrue ((none && not has) || touched) → (none ≡ true → has ≡ false → now ≡ true) → IsTrue (now || touched)
either_side none has true true h f = refl
either_side none has true false h f = refl
either_side true true false now h f = cc
either_side true false false true h f = refl
either_side true false false false h f = f refl refl
either_side false has false now h f = cc

by_length : (xs : List Amount) (j : ℕ) (a : Amount) → (j < length xs → a ≡ amount_at xs j) → (length xs ≤ j → a ≡ amount_at xs j) → a ≡ amount_at xs j
by_length xs j a f g = ⊎_elim (λ e. g (omega (arith, e))) (λ o. ⊎_elim f (λ l. g (omega (arith, l))) o) (cases_order j (length xs))

-- ---- clearing

pub nothing_is : (a : Amount) → is_nothing a ≡ true → a ≡ nothing
nothing_is a e =
    let both = and_true (int_eq a.value (pos 0)) (a.magnitude == 0) e in
    let by_value : ℤ → Amount = λ z. record { value = z; magnitude = a.magnitude } in
    let by_magnitude : ℕ → Amount = λ n. record { value = pos 0; magnitude = n } in
    ap by_value (int_same a.value (pos 0) both.0) ∙ ap by_magnitude (nat_same a.magnitude 0 both.1)

pub untouched : (a : Amount) (full among : Bool) → full ≡ false → IsTrue (is_nothing a || (full || among)) → (if among then nothing else a) ≡ nothing
untouched a full true e h = refl
untouched a true false e h = cc
untouched a false false e h = nothing_is a (or_none (is_nothing a) h)

-- ---- adding

pub none_columns : (by : ℤ) (n : ℕ) (xs : List Amount) → xs ≡ plus_columns by [] n xs
none_columns by n [] = refl
none_columns by n (x ∷ xs) = ap (λ z. z ∷ xs) (sym (plus_zero by x)) ∙ ap (λ z. plus by (pos 0) x ∷ z) (none_columns by (suc n) xs)

-- the amount at the next term's column is as it was
at_next : (by : ℤ) (terms : List Term) (i : ℕ) (d : Term) (old now : List Amount) (result : Amount) → IsRising terms → AreColumnsBelow (length old) terms → i < length terms
    → now ≡ plus_columns by (take i terms) 0 old → result ≡ get_or now (get_or terms i d).0 result → result ≡ amount_at old (get_or terms i d).0
at_next by terms i d old now result r b h is at =
    let c = (get_or terms i d).0 in
    let inside = column_at (length old) terms i d b h in
    at ∙ ap (λ xs. get_or xs c result) is ∙ get_or_default (plus_columns by (take i terms) 0 old) c result nothing (omega (arith, inside, length_plus by (take i terms) 0 old))
    ∙ at_before by (take i terms) old c inside (coefficient_taken terms i d r h)

pub add_step : (by : ℤ) (terms : List Term) (i : ℕ) (d : Term) (old now : List Amount) (result total : Amount) → IsRising terms → AreColumnsBelow (length old) terms → i < length terms
    → now ≡ plus_columns by (take i terms) 0 old → result ≡ get_or now (get_or terms i d).0 result → total ≡ plus by (get_or terms i d).1 result
    → set now (get_or terms i d).0 total ≡ plus_columns by (take (i + 1) terms) 0 old
add_step by terms i d old now result total r b h is at sum =
    let c = (get_or terms i d).0 in
    let inside = column_at (length old) terms i d b h in
    ap (λ xs. set xs c total) is ∙ ap (set (plus_columns by (take i terms) 0 old) c) (sum ∙ ap (plus by (get_or terms i d).1) (at_next by terms i d old now result r b h is at))
    ∙ plus_more by terms i d old h inside (coefficient_taken terms i d r h)

pub add_never : (by : ℤ) (terms : List Term) (i : ℕ) (d : Term) (old now : List Amount) (result : Amount) → IsRising terms → AreColumnsBelow (length old) terms → i < length terms
    → now ≡ plus_columns by (take i terms) 0 old → result ≡ get_or now (get_or terms i d).0 result → is_wide (plus by (get_or terms i d).1 result) ≡ true
    → list_any (λ u. is_wide (plus by u.1 (amount_at old u.0))) terms ≡ false → ⊥
add_never by terms i d old now result r b h is at wide none =
    let next = at_next by terms i d old now result r b h is at in
    true≢false (sym (list_any_at (λ u. is_wide (plus by u.1 (amount_at old u.0))) terms i d h (ap (λ a. is_wide (plus by (get_or terms i d).1 a)) (sym next) ∙ wide)) ∙ none)

-- the columns of the terms are noted, and so each column with an amount
pub touched_more : (by : ℤ) (terms : List Term) (xs : List Amount) (touched : List ℕ) (full : Bool) → AreTouchedWith xs terms touched full → AreTouched (plus_columns by terms 0 xs) touched full
touched_more by terms xs touched full h j = either_side (is_nothing (amount_at xs j)) (has_column j terms) (full || is_among j touched) (is_nothing (amount_at (plus_columns by terms 0 xs) j)) (h j)
    (λ none other. ap is_nothing (by_length xs j (amount_at (plus_columns by terms 0 xs) j)
    (λ l. at_before by terms xs j l (coefficient_not j terms other))
    (λ l. at_past (plus_columns by terms 0 xs) j (omega (arith, l, length_plus by terms 0 xs)) ∙ sym (at_past xs j l))) ∙ none)

-- a list of the vector's length in its place
pub whole_list : {A : Type 0} (n : ℕ) (xs ys : List A) → length xs ≡ n → take n (xs ++ ys) ≡ xs
whole_list n [] ys e = ap (λ k. take k ys) (sym e)
whole_list zero (x ∷ xs) ys e = absurd (omega (arith, e))
whole_list (suc n) (x ∷ xs) ys e = ap (λ z. x ∷ z) (whole_list n xs ys (omega (arith, e)))
