-- Sums over the terms of an inequality.
use Rattle.std.proofs.Common.{◌≡◌, ◌⊎◌, ℕ, zero, suc, ◌+◌, ◌≤◌, ◌<◌, ◌==◌, ◌^◌, ℤ, pos, negsuc, Bool, true, false, ◌&&◌, not, List, [], ◌∷◌, ◌++◌, length, map, take, drop, get_or, refl, sym, ap, ◌∙◌, subst, inl, inr, arith}
use Rattle.std.specs.Prelude.{◌+ℤ◌, ◌-ℤ◌, ◌≤ℤ◌, ◌<ℤ◌, unsigned_abs, if◌then◌else◌}
use Rattle.std.specs.List.{AllByRecursion, list_all}
use Rattle.std.proofs.Math.IntN.{neg_ℤ}
use Rattle.std.proofs.Math.Seq.{drop-cons}
use Rattle.std.proofs.lemmas.Int.{ints}
use Rattle.std.proofs.lemmas.Bool.{eqb-true, ne_eqb}
use Rattle.std.proofs.lemmas.List.{take_more}
use Rattle.cgl_model.specs.IntegerForm.{negated}
use Rattle.cgl_model.specs.Inequality.{Term}
use Rattle.cgl_model.specs.Rising.{IsCoefficient, IsRising}
use Rattle.cgl_derive.specs.Derives.{coefficient}
use Rattle.cgl_derive.specs.Knapsack.{coefficients, positive_part, positive_total, total_magnitude}
use Rattle.cgl_derive.specs.KnapsackLists.{coefficients_at, sizes}
use Rattle.cgl_knap.specs.Subset.{AreValues, total_value}
use Rattle.cgl_check.specs.LinearIneq.{signed, terms_of}

-- the sum of the magnitudes of numbers for the terms
pub sum_of : (Term → ℤ) → List Term → ℕ
sum_of f [] = 0
sum_of f (t ∷ terms) = unsigned_abs (f t) + sum_of f terms

-- those above 0 added up
abbrev pub positive_of : (Term → ℤ) → List Term → ℤ
positive_of f terms = positive_total (map f terms)

part_bounds : (z : ℤ) → (pos 0 ≤ℤ positive_part z) × (positive_part z ≤ℤ pos (unsigned_abs z))
part_bounds (pos n) = (omega (arith, ints), omega (arith, ints))
part_bounds (negsuc n) = (omega (arith, ints), omega (arith, ints))

pub positive_bounds : (f : Term → ℤ) (terms : List Term) → (pos 0 ≤ℤ positive_of f terms) × (positive_of f terms ≤ℤ pos (sum_of f terms))
unfolding sum_of
positive_bounds f [] = (omega (arith, ints), omega (arith, ints))
positive_bounds f (t ∷ terms) =
    let here = part_bounds (f t) in
    let rest = positive_bounds f terms in
    (omega (arith, ints, here.0, rest.0), omega (arith, ints, here.1, rest.1))

positive_push : (f : Term → ℤ) (terms : List Term) (t : Term) → positive_of f (terms ++ t ∷ []) ≡ positive_of f terms +ℤ positive_part (f t)
positive_push f [] t = omega (arith, ints)
positive_push f (s ∷ terms) t = omega (arith, ints, positive_push f terms t)

pub positive_more : (f : Term → ℤ) (terms : List Term) (i : ℕ) (d : Term) → i < length terms → positive_of f (take (i + 1) terms) ≡ positive_of f (take i terms) +ℤ positive_part (f (get_or terms i d))
positive_more f terms i d h = ap (positive_of f) (take_more terms i d h) ∙ positive_push f (take i terms) (get_or terms i d)

pub sum_front : (f : Term → ℤ) (terms : List Term) (i : ℕ) → sum_of f (take i terms) ≤ sum_of f terms
unfolding sum_of
sum_front f [] zero = omega arith
sum_front f [] (suc i) = omega arith
sum_front f (t ∷ terms) zero = omega arith
sum_front f (t ∷ terms) (suc i) = omega (arith, sum_front f terms i)

pub sum_back : (f : Term → ℤ) (terms : List Term) (i : ℕ) → sum_of f (drop i terms) ≤ sum_of f terms
unfolding sum_of
sum_back f [] zero = omega arith
sum_back f [] (suc i) = omega arith
sum_back f (t ∷ terms) zero = omega arith
sum_back f (t ∷ terms) (suc i) = omega (arith, sum_back f terms i)

-- a front of the terms with one term more stays at most the whole sum
pub positive_below : (f : Term → ℤ) (terms : List Term) (i : ℕ) → positive_of f (take i terms) ≤ℤ pos (sum_of f terms)
positive_below f terms i = omega (arith, ints, (positive_bounds f (take i terms)).1, sum_front f terms i)

-- a term more, and the bounds of what is added up
pub positive_next : (f : Term → ℤ) (terms : List Term) (i : ℕ) (d : Term) (total part : ℤ) → i < length terms → sum_of f terms < 2 ^ 127 → total ≡ positive_of f (take i terms) → part ≡ positive_part (f (get_or terms i d))
    → (total +ℤ part ≡ positive_of f (take (i + 1) terms)) × (pos 0 ≤ℤ (total +ℤ part)) × ((total +ℤ part) <ℤ pos (2 ^ 127))
positive_next f terms i d total part h narrow is part_is =
    let more = positive_more f terms i d h in
    let sum : total +ℤ part ≡ positive_of f (take (i + 1) terms) = omega (arith, ints, more, is, part_is) in
    (sum, omega (arith, ints, sum, (positive_bounds f (take (i + 1) terms)).0), omega (arith, ints, sum, positive_below f terms (i + 1), narrow))

-- ---- magnitudes

pub magnitude_sum : (negative : Bool) (terms : List Term) → sum_of (λ t. signed negative t.1) terms ≡ total_magnitude terms
unfolding sum_of
magnitude_sum negative [] = refl
magnitude_sum negative (t ∷ terms) = omega (arith, abs_signed negative t.1, magnitude_sum negative terms)
  where
    abs_signed : (b : Bool) (z : ℤ) → unsigned_abs (signed b z) ≡ unsigned_abs z
    abs_signed true (pos zero) = refl
    abs_signed true (pos (suc n)) = refl
    abs_signed true (negsuc n) = refl
    abs_signed false z = refl

magnitude_negated : (terms : List Term) → total_magnitude (negated terms) ≡ total_magnitude terms
magnitude_negated [] = refl
magnitude_negated (t ∷ terms) = omega (arith, abs_neg t.1, magnitude_negated terms)
  where
    abs_neg : (z : ℤ) → unsigned_abs (neg_ℤ z) ≡ unsigned_abs z
    abs_neg (pos zero) = refl
    abs_neg (pos (suc n)) = refl
    abs_neg (negsuc n) = refl

pub magnitude_signed : (negative : Bool) (terms : List Term) → total_magnitude (terms_of negative terms) ≡ total_magnitude terms
magnitude_signed true terms = magnitude_negated terms
magnitude_signed false terms = refl

magnitude_push : (terms : List Term) (t : Term) → total_magnitude (terms ++ t ∷ []) ≡ total_magnitude terms + unsigned_abs t.1
magnitude_push [] t = omega arith
magnitude_push (s ∷ terms) t = omega (arith, magnitude_push terms t)

pub magnitude_more : (terms : List Term) (i : ℕ) (d : Term) → i < length terms → total_magnitude (take (i + 1) terms) ≡ total_magnitude (take i terms) + unsigned_abs (get_or terms i d).1
magnitude_more terms i d h = ap total_magnitude (take_more terms i d h) ∙ magnitude_push (take i terms) (get_or terms i d)

pub magnitude_front : (terms : List Term) (i : ℕ) → total_magnitude (take i terms) ≤ total_magnitude terms
magnitude_front [] zero = omega arith
magnitude_front [] (suc i) = omega arith
magnitude_front (t ∷ terms) zero = omega arith
magnitude_front (t ∷ terms) (suc i) = omega (arith, magnitude_front terms i)

-- ---- terms that are told negated

pub coefficients_signed : (negative : Bool) (terms : List Term) → coefficients (terms_of negative terms) ≡ map (λ t. signed negative t.1) terms
coefficients_signed true terms = negated_are terms
  where
    negated_are : (ts : List Term) → coefficients (negated ts) ≡ map (λ t. neg_ℤ t.1) ts
    negated_are [] = refl
    negated_are (t ∷ ts) = ap (λ z. neg_ℤ t.1 ∷ z) (negated_are ts)
coefficients_signed false terms = refl

pub columns_signed : (negative : Bool) (terms claim : List Term) → coefficients_at (terms_of negative terms) claim ≡ map (λ t. coefficient t.0 claim) terms
columns_signed true terms claim = negated_are terms
  where
    negated_are : (ts : List Term) → coefficients_at (negated ts) claim ≡ map (λ t. coefficient t.0 claim) ts
    negated_are [] = refl
    negated_are (t ∷ ts) = ap (λ z. coefficient t.0 claim ∷ z) (negated_are ts)
columns_signed false terms claim = refl

-- ---- the claim's coefficients at columns that rise

abbrev IsAbove : ℕ → List Term → Type 0
IsAbove j terms = AllByRecursion (λ t. j < t.0) terms

still_above : (i j : ℕ) (terms : List Term) → i < j → IsAbove j terms → IsAbove i terms
still_above i j [] h all = tt
still_above i j (t ∷ terms) h all = (omega (arith, h, all.0), still_above i j terms h all.1)

rising_above : (t : Term) (terms : List Term) → IsRising (t ∷ terms) → IsAbove t.0 terms
rising_above t [] r = tt
rising_above t (u ∷ terms) r = (r.1, still_above t.0 u.0 terms r.1 (rising_above u terms r.2))

pub rising_rest : (t : Term) (terms : List Term) → IsRising (t ∷ terms) → IsRising terms
rising_rest t [] r = tt
rising_rest t (u ∷ terms) r = r.2

pub rising_drop : (terms : List Term) (i : ℕ) → IsRising terms → IsRising (drop i terms)
rising_drop [] zero r = tt
rising_drop [] (suc i) r = tt
rising_drop (t ∷ terms) zero r = r
rising_drop (t ∷ terms) (suc i) r = rising_drop terms i (rising_rest t terms r)

abbrev only : Term → Term → ℤ
only s t = if t.0 == s.0 then s.1 else pos 0

only_none : (s t : Term) → s.0 < t.0 → unsigned_abs (only s t) ≡ 0
only_none s t h = ap (λ (b : Bool). unsigned_abs (if b then s.1 else pos 0)) (ne_eqb t.0 s.0 (λ q. omega (arith, q, h)))

only_past : (s : Term) (terms : List Term) → IsAbove s.0 terms → sum_of (only s) terms ≡ 0
unfolding sum_of
only_past s [] all = refl
only_past s (t ∷ terms) all = omega (arith, only_none s t all.0, only_past s terms all.1)

only_once : (s : Term) (terms : List Term) → IsRising terms → sum_of (only s) terms ≤ unsigned_abs s.1
unfolding sum_of
only_once s [] r = omega arith
only_once s (t ∷ terms) r = at (t.0 == s.0) refl (only_once s terms (rising_rest t terms r))
  where
    at : (b : Bool) → (t.0 == s.0) ≡ b → sum_of (only s) terms ≤ unsigned_abs s.1 → unsigned_abs (only s t) + sum_of (only s) terms ≤ unsigned_abs s.1
    at true e rest =
        let same : t.0 ≡ s.0 = eqb-true t.0 s.0 e in
        let here : unsigned_abs (only s t) ≡ unsigned_abs s.1 = ap (λ (b : Bool). unsigned_abs (if b then s.1 else pos 0)) e in
        omega (arith, here, only_past s terms (subst (λ (j : ℕ). IsAbove j terms) same (rising_above t terms r)))
    at false e rest =
        let here : unsigned_abs (only s t) ≡ 0 = ap (λ (b : Bool). unsigned_abs (if b then s.1 else pos 0)) e in
        omega (arith, here, rest)

sum_add : (f g : Term → ℤ) (terms : List Term) → sum_of (λ t. f t +ℤ g t) terms ≤ sum_of f terms + sum_of g terms
unfolding sum_of
sum_add f g [] = omega arith
sum_add f g (t ∷ terms) =
    let here : unsigned_abs (f t +ℤ g t) ≤ unsigned_abs (f t) + unsigned_abs (g t) = omega (arith, ints) in
    omega (arith, here, sum_add f g terms)

sum_zero : (terms : List Term) → sum_of (λ t. pos 0) terms ≡ 0
unfolding sum_of
sum_zero [] = refl
sum_zero (t ∷ terms) = omega (arith, sum_zero terms)

-- they add up to at most the claim's own
pub claim_sum : (terms claim : List Term) → IsRising terms → sum_of (λ t. coefficient t.0 claim) terms ≤ total_magnitude claim
claim_sum terms [] r = omega (arith, sum_zero terms)
claim_sum terms (s ∷ claim) r = omega (arith, sum_add (only s) (λ t. coefficient t.0 claim) terms, only_once s terms r, claim_sum terms claim r)

-- ---- one coefficient

coefficient_past : (j : ℕ) (terms : List Term) → IsAbove j terms → coefficient j terms ≡ pos 0
coefficient_past j [] all = refl
coefficient_past j (t ∷ terms) all =
    ap (λ (b : Bool). (if b then t.1 else pos 0) +ℤ coefficient j terms) (ne_eqb j t.0 (λ q. omega (arith, q, all.0))) ∙ omega (arith, ints, coefficient_past j terms all.1)

pub coefficient_narrow : (j : ℕ) (terms : List Term) → IsRising terms → unsigned_abs (coefficient j terms) < 2 ^ 127
coefficient_narrow j [] r = omega arith
coefficient_narrow j (t ∷ terms) r = at (j == t.0) refl (coefficient_narrow j terms (rising_rest t terms r))
  where
    narrow : (u : Term) (more : List Term) → IsRising (u ∷ more) → unsigned_abs u.1 < 2 ^ 127
    narrow u [] h = h.narrow
    narrow u (v ∷ more) h = h.0.narrow

    at : (b : Bool) → (j == t.0) ≡ b → unsigned_abs (coefficient j terms) < 2 ^ 127 → unsigned_abs (coefficient j (t ∷ terms)) < 2 ^ 127
    at true e rest =
        let same : t.0 ≡ j = sym (eqb-true j t.0 e) in
        let past = coefficient_past j terms (subst (λ (i : ℕ). IsAbove i terms) same (rising_above t terms r)) in
        let is : coefficient j (t ∷ terms) ≡ t.1 = ap (λ (b : Bool). (if b then t.1 else pos 0) +ℤ coefficient j terms) e ∙ omega (arith, ints, past) in
        subst (λ (z : ℤ). unsigned_abs z < 2 ^ 127) (sym is) (narrow t terms r)
    at false e rest =
        let is : coefficient j (t ∷ terms) ≡ coefficient j terms = ap (λ (b : Bool). (if b then t.1 else pos 0) +ℤ coefficient j terms) e ∙ omega (arith, ints) in
        subst (λ (z : ℤ). unsigned_abs z < 2 ^ 127) (sym is) rest

-- ---- weights and values

abbrev pub term_weights : List Term → List ℕ
term_weights terms = map (λ t. unsigned_abs t.1) terms

abbrev pub term_values : List Term → List Term → List ℤ
term_values terms claim = map (λ t. pos (unsigned_abs (coefficient t.0 claim))) terms

pub weights_signed : (negative : Bool) (terms : List Term) → map (λ a. unsigned_abs a) (coefficients (terms_of negative terms)) ≡ term_weights terms
weights_signed true terms = all terms
  where
    abs_neg : (z : ℤ) → unsigned_abs (neg_ℤ z) ≡ unsigned_abs z
    abs_neg (pos zero) = refl
    abs_neg (pos (suc n)) = refl
    abs_neg (negsuc n) = refl

    all : (ts : List Term) → map (λ a. unsigned_abs a) (coefficients (negated ts)) ≡ term_weights ts
    all [] = refl
    all (t ∷ ts) = ap (λ n. n ∷ map (λ a. unsigned_abs a) (coefficients (negated ts))) (abs_neg t.1) ∙ ap (λ z. unsigned_abs t.1 ∷ z) (all ts)
weights_signed false terms = all terms
  where
    all : (ts : List Term) → map (λ a. unsigned_abs a) (coefficients ts) ≡ term_weights ts
    all [] = refl
    all (t ∷ ts) = ap (λ z. unsigned_abs t.1 ∷ z) (all ts)

pub values_signed : (negative : Bool) (terms claim : List Term) → sizes (coefficients_at (terms_of negative terms) claim) ≡ term_values terms claim
values_signed negative terms claim = ap sizes (columns_signed negative terms claim) ∙ all terms
  where
    all : (ts : List Term) → sizes (map (λ t. coefficient t.0 claim) ts) ≡ term_values ts claim
    all [] = refl
    all (t ∷ ts) = ap (λ z. pos (unsigned_abs (coefficient t.0 claim)) ∷ z) (all ts)

pub values_total : (terms claim : List Term) → total_value (term_values terms claim) ≡ pos (sum_of (λ t. coefficient t.0 claim) terms)
unfolding sum_of
values_total [] claim = refl
values_total (t ∷ terms) claim = omega (arith, ints, values_total terms claim)

pub values_positive : (terms claim : List Term) → AreValues (term_values terms claim)
values_positive [] claim = tt
values_positive (t ∷ terms) claim = (omega (arith, ints), values_positive terms claim)

pub drop_next : (terms : List Term) (i n : ℕ) (d : Term) → n ≡ i + 1 → i < length terms → drop i terms ≡ get_or terms i d ∷ drop n terms
drop_next terms i n d e h = let next : suc i ≡ n = omega (arith, e) in drop-cons terms i d h ∙ ap (λ m. get_or terms i d ∷ drop m terms) next

-- the value of one term and those behind it stay within the claim's numbers
pub next_total : (terms claim : List Term) (i n : ℕ) (d : Term) → n ≡ i + 1 → i < length terms → IsRising terms
    → (pos (unsigned_abs (coefficient (get_or terms i d).0 claim)) +ℤ total_value (term_values (drop n terms) claim)) ≤ℤ pos (total_magnitude claim)
unfolding sum_of
next_total terms claim i n d e h r =
    let f : Term → ℤ = λ t. coefficient t.0 claim in
    let whole = claim_sum (drop i terms) claim (rising_drop terms i r) in
    let parts = ap (sum_of f) (drop_next terms i n d e h) in
    let rest = values_total (drop n terms) claim in
    let first : sum_of f (get_or terms i d ∷ drop n terms) ≡ unsigned_abs (f (get_or terms i d)) + sum_of f (drop n terms) = refl in
    omega (arith, ints, whole, parts, rest, first)
