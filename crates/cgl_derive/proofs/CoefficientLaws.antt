-- The coefficients of a list of terms whose columns rise.
use Rattle.std.proofs.Common.{◌≡◌, ℕ, zero, suc, ℤ, pos, ◌+◌, ◌<◌, ◌≤◌, ◌==◌, List, [], ◌∷◌, ◌++◌, length, take, get_or, Bool, true, false, ◌≢◌, refl, sym, ap, ◌∙◌, ⊎_elim, arith}
use Rattle.std.specs.Prelude.{◌+ℤ◌, if◌then◌else◌}
use Rattle.std.specs.List.{AllByRecursion}
use Rattle.std.proofs.lemmas.Int.{ints}
use Rattle.std.proofs.lemmas.Bool.Decides.{nat_tests}
use Rattle.std.proofs.lemmas.Bool.{cases_eq}
use Rattle.std.proofs.lemmas.List.{get_or_default, take_more}
use Rattle.std.proofs.Math.IntN.{neg_ℤ, neg_ℤ-+ℤ}
use Rattle.cgl_model.specs.IntegerForm.{negated}
use Rattle.cgl_model.specs.Inequality.{Term}
use Rattle.cgl_model.specs.Rising.{IsRising}
use Rattle.cgl_derive.specs.Derives.{coefficient}
use Rattle.cgl_derive.specs.Totals.{has_column}
use Rattle.cgl_derive.proofs.TestLaws.{or_false}

pub rising_tail : (t : Term) (terms : List Term) → IsRising (t ∷ terms) → IsRising terms
rising_tail t [] r = tt
rising_tail t (u ∷ terms) r = r.2

above_all : (n m : ℕ) (terms : List Term) → n < m → AllByRecursion (λ v. m < v.0) terms → AllByRecursion (λ v. n < v.0) terms
above_all n m [] l all = tt
above_all n m (v ∷ terms) l all = (let first = all.0 in omega arith, above_all n m terms l all.1)

pub rising_head : (t : Term) (terms : List Term) → IsRising (t ∷ terms) → AllByRecursion (λ u. t.0 < u.0) terms
rising_head t [] r = tt
rising_head t (u ∷ terms) r = (r.1, above_all t.0 u.0 terms r.1 (rising_head u terms r.2))

at_above : (n : ℕ) (terms : List Term) (k : ℕ) (d : Term) → AllByRecursion (λ v. n < v.0) terms → k < length terms → n < (get_or terms k d).0
at_above n [] k d all h = absurd (omega arith)
at_above n (t ∷ terms) zero d all h = all.0
at_above n (t ∷ terms) (suc k) d all h = at_above n terms k d all.1 (omega arith)

-- a later term has a greater column
pub rising_less : (terms : List Term) (i k : ℕ) (d : Term) → IsRising terms → i < k → k < length terms → (get_or terms i d).0 < (get_or terms k d).0
rising_less [] i k d r h l = absurd (omega arith)
rising_less (t ∷ terms) i zero d r h l = absurd (omega arith)
rising_less (t ∷ terms) zero (suc k) d r h l = at_above t.0 terms k d (rising_head t terms r) (omega arith)
rising_less (t ∷ terms) (suc i) (suc k) d r h l = rising_less terms i k d (rising_tail t terms r) (omega arith) (omega arith)

ap_order : (terms : List Term) (i k : ℕ) (d : Term) → i ≡ k → (get_or terms i d).0 ≤ (get_or terms k d).0
ap_order terms i k d e = let same = ap (λ n. (get_or terms n d).0) e in omega (arith, same)

rising_order : (terms : List Term) (i k : ℕ) (d : Term) → IsRising terms → i ≤ k → k < length terms → (get_or terms i d).0 ≤ (get_or terms k d).0
rising_order terms i k d r h l = ⊎_elim (λ e. ap_order terms i k d e) (λ n. let less = rising_less terms i k d r (omega (arith, h, n)) l in omega arith) (cases_eq i k)

pub before_term : (terms : List Term) (m target : ℕ) (e : Term) → IsRising terms → m < length terms → (get_or terms m e).0 < target
    → (k : ℕ) (d : Term) → k < m + 1 → (get_or terms k d).0 < target
before_term terms m target e r l h k d below =
    let same = ap (λ t. t.0) (get_or_default terms m e d l) in
    let order = rising_order terms k m d r (omega arith) l in
    omega arith

pub after_term : (terms : List Term) (m target : ℕ) (e : Term) → IsRising terms → m < length terms → target ≤ (get_or terms m e).0
    → (k : ℕ) (d : Term) → m ≤ k → k < length terms → target ≤ (get_or terms k d).0
after_term terms m target e r l h k d above within =
    let same = ap (λ t. t.0) (get_or_default terms m e d l) in
    let order = rising_order terms m k d r above within in
    omega arith

-- ---- coefficients

abbrev IsOther : ℕ → List Term → Type 0
IsOther j terms = AllByRecursion (λ t. j ≡ t.0 → ⊥) terms

unit_other : (j c : ℕ) (a z : ℤ) → (j ≡ c → ⊥) → (if j == c then a else pos 0) +ℤ z ≡ z
unit_other j c a z h = grind (arith, ints, nat_tests, h)

unit_same : (j c : ℕ) (a z : ℤ) → j ≡ c → z ≡ pos 0 → (if j == c then a else pos 0) +ℤ z ≡ a
unit_same j c a z h e = grind (arith, ints, nat_tests, h, e)

pub coefficient_other : (j : ℕ) (terms : List Term) → IsOther j terms → coefficient j terms ≡ pos 0
coefficient_other j [] all = refl
coefficient_other j (t ∷ terms) all = unit_other j t.0 t.1 (coefficient j terms) all.0 ∙ coefficient_other j terms all.1

other_above : (j : ℕ) (terms : List Term) → AllByRecursion (λ u. j < u.0) terms → IsOther j terms
other_above j [] all = tt
other_above j (t ∷ terms) all = ((λ e. let less = all.0 in omega (arith, e, less)), other_above j terms all.1)

-- the coefficient of a term's column is the term's
pub coefficient_at : (terms : List Term) (i : ℕ) (d : Term) → IsRising terms → i < length terms → coefficient (get_or terms i d).0 terms ≡ (get_or terms i d).1
coefficient_at [] i d r h = absurd (omega arith)
coefficient_at (t ∷ terms) zero d r h = unit_same t.0 t.0 t.1 (coefficient t.0 terms) refl (coefficient_other t.0 terms (other_above t.0 terms (rising_head t terms r)))
coefficient_at (t ∷ terms) (suc i) d r h =
    let less = at_above t.0 terms i d (rising_head t terms r) (omega arith) in
    unit_other (get_or terms i d).0 t.0 t.1 (coefficient (get_or terms i d).0 terms) (λ e. omega (arith, e, less)) ∙ coefficient_at terms i d (rising_tail t terms r) (omega arith)

other_by_index : (j : ℕ) (terms : List Term) → ((k : ℕ) (d : Term) → k < length terms → (get_or terms k d).0 ≡ j → ⊥) → IsOther j terms
other_by_index j [] h = tt
other_by_index j (t ∷ terms) h = ((λ e. h 0 t (omega arith) (sym e)), other_by_index j terms (λ k d l. h (suc k) d (omega arith)))

-- no term has the column
pub coefficient_none : (j : ℕ) (terms : List Term) → ((k : ℕ) (d : Term) → k < length terms → (get_or terms k d).0 ≡ j → ⊥) → coefficient j terms ≡ pos 0
coefficient_none j terms h = coefficient_other j terms (other_by_index j terms h)

-- the search ended past all terms
pub searched_past : (terms : List Term) (place j : ℕ) → length terms ≤ place → ((k : ℕ) (d : Term) → k < place → (get_or terms k d).0 < j) → coefficient j terms ≡ pos 0
searched_past terms place j h before = coefficient_none j terms (λ k d l e. let less = before k d (omega arith) in omega (arith, e, less))

more_or_less : {A : Type 0} (a b : ℕ) → (a ≡ b → ⊥) → (a < b → A) → (b < a → A) → A
more_or_less zero zero n l g = absurd (n refl)
more_or_less zero (suc b) n l g = l (omega arith)
more_or_less (suc a) zero n l g = g (omega arith)
more_or_less (suc a) (suc b) n l g = more_or_less a b (λ e. n (ap suc e)) (λ h. l (omega arith)) (λ h. g (omega arith))

by_order : {A : Type 0} (a b : ℕ) → (a < b → A) → (a ≡ b → A) → (b < a → A) → A
by_order a b l e g = ⊎_elim e (λ n. more_or_less a b n l g) (cases_eq a b)

-- the search ended before a term of another column
pub searched_other : (terms : List Term) (place j : ℕ) (e : Term) → IsRising terms → place < length terms → ((k : ℕ) (d : Term) → k < place → (get_or terms k d).0 < j) → ((k : ℕ) (d : Term) → place ≤ k → k < length terms → j ≤ (get_or terms k d).0)
    → ((get_or terms place e).0 ≡ j → ⊥) → coefficient j terms ≡ pos 0
searched_other terms place j e r h before after other = coefficient_none j terms (λ k d l same.
    let first = after place e (omega arith) h in
    let default = ap (λ t. t.0) (get_or_default terms place e d h) in
    by_order k place
    (λ less. let here = before k d less in omega (arith, same, here))
    (λ eq. other (default ∙ ap (λ n. (get_or terms n d).0) (sym eq) ∙ same))
    (λ more. let order = rising_less terms place k d r more l in other (omega (arith, default, order, first, same))))

differ : (j c : ℕ) → (j == c) ≡ false → j ≡ c → ⊥
differ j c e same = grind (arith, nat_tests, e, same)

pub coefficient_not : (j : ℕ) (terms : List Term) → has_column j terms ≡ false → coefficient j terms ≡ pos 0
coefficient_not j [] e = refl
coefficient_not j (t ∷ terms) e = let both = or_false (j == t.0) (has_column j terms) e in unit_other j t.0 t.1 (coefficient j terms) (λ same. differ j t.0 both.0 same) ∙ coefficient_not j terms both.1

pub coefficient_append : (j : ℕ) (xs ys : List Term) → coefficient j (xs ++ ys) ≡ coefficient j xs +ℤ coefficient j ys
coefficient_append j [] ys = let z = coefficient j ys in omega (arith, ints)
coefficient_append j (x ∷ xs) ys = let rest = coefficient_append j xs ys in omega (arith, ints, rest)

pub coefficient_more : (j : ℕ) (terms : List Term) (i : ℕ) (d : Term) → i < length terms
    → coefficient j (take (i + 1) terms) ≡ coefficient j (take i terms) +ℤ (if j == (get_or terms i d).0 then (get_or terms i d).1 else pos 0)
coefficient_more j terms i d h =
    let u = get_or terms i d in
    let is = ap (coefficient j) (take_more terms i d h) ∙ coefficient_append j (take i terms) (u ∷ []) in
    omega (arith, ints, is)

-- no earlier term has a term's column
pub coefficient_taken : (terms : List Term) (i : ℕ) (d : Term) → IsRising terms → i < length terms → coefficient (get_or terms i d).0 (take i terms) ≡ pos 0
coefficient_taken [] i d r h = absurd (omega arith)
coefficient_taken (t ∷ terms) zero d r h = refl
coefficient_taken (t ∷ terms) (suc i) d r h =
    let less = at_above t.0 terms i d (rising_head t terms r) (omega arith) in
    unit_other (get_or terms i d).0 t.0 t.1 (coefficient (get_or terms i d).0 (take i terms)) (λ e. omega (arith, e, less)) ∙ coefficient_taken terms i d (rising_tail t terms r) (omega arith)

pub coefficient_past : (n j : ℕ) (terms : List Term) → n ≤ j → AllByRecursion (λ t. t.0 < n) terms → coefficient j terms ≡ pos 0
coefficient_past n j [] h all = refl
coefficient_past n j (t ∷ terms) h all = unit_other j t.0 t.1 (coefficient j terms) (λ e. let first = all.0 in omega (arith, first, h, e)) ∙ coefficient_past n j terms h all.1

-- ---- negated terms

by_test : (b : Bool) (a u v : ℤ) → u ≡ neg_ℤ v → (if b then neg_ℤ a else pos 0) +ℤ u ≡ neg_ℤ ((if b then a else pos 0) +ℤ v)
by_test true a u v e = ap (λ z. neg_ℤ a +ℤ z) e ∙ sym (neg_ℤ-+ℤ a v)
by_test false a u v e = ap (λ z. pos 0 +ℤ z) e ∙ sym (neg_ℤ-+ℤ (pos 0) v)

pub coefficient_negated : (j : ℕ) (terms : List Term) → coefficient j (negated terms) ≡ neg_ℤ (coefficient j terms)
coefficient_negated j [] = refl
coefficient_negated j (t ∷ terms) = by_test (j == t.0) t.1 (coefficient j (negated terms)) (coefficient j terms) (coefficient_negated j terms)

-- ---- lists with the same coefficients

head_stands : (t : Term) (terms : List Term) → IsRising (t ∷ terms) → t.1 ≢ pos 0
head_stands t [] r = r.not_zero
head_stands t (u ∷ terms) r = r.0.not_zero

head_number : (t : Term) (terms : List Term) → IsRising (t ∷ terms) → coefficient t.0 (t ∷ terms) ≡ t.1
head_number t terms r = coefficient_at (t ∷ terms) 0 t r (omega arith)

own_more : (t : Term) (whole more : List Term) → AllByRecursion (λ u. t.0 < u.0) more → AllByRecursion (λ s. coefficient s.0 whole ≡ s.1) more
    → AllByRecursion (λ s. coefficient s.0 (t ∷ whole) ≡ s.1) more
own_more t whole [] above all = tt
own_more t whole (s ∷ more) above all =
    (unit_other s.0 t.0 t.1 (coefficient s.0 whole) (λ e. let less = above.0 in omega (arith, e, less)) ∙ all.0, own_more t whole more above.1 all.1)

pub own_coefficients : (terms : List Term) → IsRising terms → AllByRecursion (λ t. coefficient t.0 terms ≡ t.1) terms
own_coefficients [] r = tt
own_coefficients (t ∷ terms) r = (head_number t terms r, own_more t terms terms (rising_head t terms r) (own_coefficients terms (rising_tail t terms r)))

-- a column below the first
number_below : (j : ℕ) (t : Term) (terms : List Term) → IsRising (t ∷ terms) → j < t.0 → coefficient j (t ∷ terms) ≡ pos 0
number_below j t terms r less = coefficient_other j (t ∷ terms) ((λ e. omega (arith, less, e)), other_above j terms (above_all j t.0 terms less (rising_head t terms r)))

rest_same : (u a b : ℤ) → u +ℤ a ≡ u +ℤ b → a ≡ b
rest_same u a b e = omega (arith, ints, e)

pub one_list : (xs ys : List Term) → IsRising xs → IsRising ys → ((j : ℕ) → coefficient j xs ≡ coefficient j ys) → xs ≡ ys
one_list [] [] r s same = refl
one_list [] (y ∷ ys) r s same = absurd (head_stands y ys s (sym (head_number y ys s) ∙ sym (same y.0)))
one_list (x ∷ xs) [] r s same = absurd (head_stands x xs r (sym (head_number x xs r) ∙ same x.0))
one_list (x ∷ xs) (y ∷ ys) r s same = by_order x.0 y.0
    (λ less. absurd (head_stands x xs r (sym (head_number x xs r) ∙ same x.0 ∙ number_below x.0 y ys s less)))
    (λ column.
    let number : x.1 ≡ y.1 = sym (head_number x xs r) ∙ same x.0 ∙ ap (λ j. coefficient j (y ∷ ys)) column ∙ head_number y ys s in
    let unit : (j : ℕ) → (if j == x.0 then x.1 else pos 0) ≡ (if j == y.0 then y.1 else pos 0) = λ j. ap (λ c. if j == c then x.1 else pos 0) column ∙ ap (λ z. if j == y.0 then z else pos 0) number in
    let rest = one_list xs ys (rising_tail x xs r) (rising_tail y ys s)
    (λ j. rest_same (if j == x.0 then x.1 else pos 0) (coefficient j xs) (coefficient j ys) (same j ∙ ap (λ z. z +ℤ coefficient j ys) (sym (unit j)))) in
    ap (λ c. (c, x.1) ∷ xs) column ∙ ap (λ z. (y.0, z) ∷ xs) number ∙ ap (λ z. y ∷ z) rest)
    (λ more. absurd (head_stands y ys s (sym (head_number y ys s) ∙ sym (same y.0) ∙ number_below y.0 x xs r more)))
