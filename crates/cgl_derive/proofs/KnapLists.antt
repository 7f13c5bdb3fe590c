-- Points of zeros and ones over all columns, and lists of them over the columns of an inequality.
use Rattle.std.proofs.Common.{◌≡◌, ℕ, zero, suc, ◌+◌, ◌<◌, ℤ, pos, Bool, true, false, List, [], ◌∷◌, Option, Some, None, length, map, refl, sym, ap, ◌∙◌, subst, arith, inl, inr}
use Rattle.std.specs.Prelude.{◌+ℤ◌, ◌*ℤ◌, ◌==◌, ◌↔◌, slice_get, unwrap_or, option_map, if◌then◌else◌}
use Rattle.std.specs.List.{AllByRecursion}
use Rattle.std.proofs.lemmas.Int.{ints}
use Rattle.std.proofs.lemmas.Bool.{eqb-true, eq-eqb, eqb-false, ne_eqb}
use Rattle.std.proofs.lemmas.Option.{slice_get-map}
use Rattle.std.proofs.Math.IntN.{*ℤ_comm, zero-*ℤ, *ℤ-zero}
use Rattle.cgl_num.specs.IntegerLaws.{+ℤ-*ℤ}
use Rattle.cgl_model.specs.declared.linear.Ineq.{Ineq}
use Rattle.cgl_model.specs.declared.mip.Model.{Model}
use Rattle.cgl_model.specs.Inequality.{Term, sum_at, AreColumnsBelow}
use Rattle.cgl_model.specs.Point.{number_at}
use Rattle.cgl_model.specs.Rising.{IsRising}
use Rattle.cgl_derive.specs.Binary.{bit, HoldsAtBits}
use Rattle.cgl_derive.specs.Derives.{coefficient}
use Rattle.cgl_derive.specs.Knapsack.{IsSameSign, coefficients}
use Rattle.cgl_derive.specs.KnapsackLists.{HoldsAtLists, chosen_sum, coefficients_at}
use Rattle.cgl_derive.proofs.TestLaws.{none_plus}
use Rattle.std.proofs.lemmas.List.{length-map}

-- ---- columns that stand once

pub IsFresh : ℕ → List Term → Type 0
IsFresh j terms = AllByRecursion (λ t. (j == t.0) ≡ false) terms

pub AreDistinct : List Term → Type 0
AreDistinct [] = Unit {0}
AreDistinct (t ∷ terms) = IsFresh t.0 terms × AreDistinct terms

-- ---- sums at the columns of one list

-- these numbers at the columns of a list
abbrev at_columns : (ℕ → ℤ) → List Term → List Term
at_columns u terms = map (λ t. (t.0, u t.0)) terms

sum_add : (p : List ℤ) (u v : ℕ → ℤ) (terms : List Term) → sum_at p (at_columns (λ j. u j +ℤ v j) terms) ≡ sum_at p (at_columns u terms) +ℤ sum_at p (at_columns v terms)
sum_add p u v [] = refl
sum_add p u v (t ∷ terms) = omega (arith, ints, sum_add p u v terms, +ℤ-*ℤ (u t.0) (v t.0) (number_at p t.0))

sum_none : (p : List ℤ) (terms : List Term) → sum_at p (at_columns (λ j. pos 0) terms) ≡ pos 0
sum_none p [] = refl
sum_none p (t ∷ terms) = omega (arith, ints, sum_none p terms, zero-*ℤ (number_at p t.0))

-- the number a at column c, and 0 elsewhere
abbrev only : ℕ → ℤ → ℕ → ℤ
only c a j = if j == c then a else pos 0

eqb_self : (j : ℕ) → (j == j) ≡ true
eqb_self j = eq-eqb j j refl

eqb_other : (i j : ℕ) → (i == j) ≡ false → (j == i) ≡ false
eqb_other i j e = ne_eqb j i (λ q. eqb-false i j e (sym q))

only_here : (c : ℕ) (a : ℤ) → only c a c ≡ a
only_here c a = ap (λ (b : Bool). if b then a else pos 0) (eqb_self c)

only_else : (c : ℕ) (a : ℤ) (j : ℕ) → (j == c) ≡ false → only c a j ≡ pos 0
only_else c a j e = ap (λ (b : Bool). if b then a else pos 0) e

only_fresh : (p : List ℤ) (c : ℕ) (a : ℤ) (terms : List Term) → IsFresh c terms → sum_at p (at_columns (only c a) terms) ≡ pos 0
unfolding IsFresh
only_fresh p c a [] f = refl
only_fresh p c a (t ∷ terms) f =
    let here : only c a t.0 ≡ pos 0 = only_else c a t.0 (eqb_other c t.0 f.0) in
    ap (λ z. z *ℤ number_at p t.0 +ℤ sum_at p (at_columns (only c a) terms)) here ∙ omega (arith, ints, only_fresh p c a terms f.1, zero-*ℤ (number_at p t.0))

-- a number other than 0 stands at the column
abbrev pub HasColumn : ℕ → List Term → Type 0
HasColumn j terms = coefficient j terms ≡ pos 0 → ⊥

only_once : (p : List ℤ) (c : ℕ) (a : ℤ) (terms : List Term) → AreDistinct terms → HasColumn c terms → sum_at p (at_columns (only c a) terms) ≡ a *ℤ number_at p c
unfolding AreDistinct
only_once p c a [] d has = absurd (has refl)
only_once p c a (t ∷ terms) d has = at (c == t.0) refl (only_once p c a terms d.1)
  where
    at : (b : Bool) → (c == t.0) ≡ b → (HasColumn c terms → sum_at p (at_columns (only c a) terms) ≡ a *ℤ number_at p c) → sum_at p (at_columns (only c a) (t ∷ terms)) ≡ a *ℤ number_at p c
    at true e rest =
        let same : c ≡ t.0 = eqb-true c t.0 e in
        let fresh : IsFresh c terms = subst (λ (j : ℕ). IsFresh j terms) (sym same) d.0 in
        ap (λ (j : ℕ). only c a j *ℤ number_at p j +ℤ sum_at p (at_columns (only c a) terms)) (sym same)
        ∙ ap (λ z. z *ℤ number_at p c +ℤ sum_at p (at_columns (only c a) terms)) (only_here c a)
        ∙ omega (arith, ints, only_fresh p c a terms fresh)
    at false e rest =
        let has_rest : HasColumn c terms = λ q. has (ap (λ (b : Bool). (if b then t.1 else pos 0) +ℤ coefficient c terms) e ∙ none_plus (coefficient c terms) ∙ q) in
        let here : only c a t.0 ≡ pos 0 = only_else c a t.0 (eqb_other c t.0 e) in
        ap (λ z. z *ℤ number_at p t.0 +ℤ sum_at p (at_columns (only c a) terms)) here ∙ omega (arith, ints, rest has_rest, zero-*ℤ (number_at p t.0))

-- a sum over a claim is that of its coefficients at the columns of a list that has all of them
aligned : (p : List ℤ) (from claim : List Term) → AreDistinct from → AllByRecursion (λ t. HasColumn t.0 from) claim
    → sum_at p (at_columns (λ j. coefficient j claim) from) ≡ sum_at p claim
unfolding AreDistinct
aligned p from [] distinct has = sum_none p from
aligned p from (t ∷ claim) distinct has =
    sum_add p (only t.0 t.1) (λ j. coefficient j claim) from
    ∙ ap (λ z. z +ℤ sum_at p (at_columns (λ j. coefficient j claim) from)) (only_once p t.0 t.1 from distinct has.0)
    ∙ ap (λ z. t.1 *ℤ number_at p t.0 +ℤ z) (aligned p from claim distinct has.1)

-- ---- points and lists

-- the point has these zeros and ones at the columns of the list
abbrev pub IsAt : List ℤ → (ℕ → Bool) → List Term → Type 0
IsAt p truth terms = AllByRecursion (λ t. number_at p t.0 ≡ bit (truth t.0)) terms

abbrev pub restricted : (ℕ → Bool) → List Term → List Bool
restricted truth terms = map (λ t. truth t.0) terms

bit_times : (a : ℤ) (b : Bool) (rest : ℤ) → a *ℤ bit b +ℤ rest ≡ (if b then a +ℤ rest else rest)
bit_times a true rest = omega (arith, ints, *ℤ_comm a (pos 1))
bit_times a false rest = omega (arith, ints, *ℤ-zero a)

sum_list : (p : List ℤ) (truth : ℕ → Bool) (u : ℕ → ℤ) (terms : List Term) → IsAt p truth terms → sum_at p (at_columns u terms) ≡ chosen_sum (map (λ t. u t.0) terms) (restricted truth terms)
sum_list p truth u [] all = refl
sum_list p truth u (t ∷ terms) all =
    ap (λ z. u t.0 *ℤ z +ℤ sum_at p (at_columns u terms)) all.0 ∙ bit_times (u t.0) (truth t.0) (sum_at p (at_columns u terms)) ∙ at (truth t.0) (sum_list p truth u terms all.1)
  where
    at : (b : Bool) → sum_at p (at_columns u terms) ≡ chosen_sum (map (λ s. u s.0) terms) (restricted truth terms)
        → (if b then u t.0 +ℤ sum_at p (at_columns u terms) else sum_at p (at_columns u terms)) ≡ chosen_sum (u t.0 ∷ map (λ s. u s.0) terms) (b ∷ restricted truth terms)
    at true rest = ap (λ z. u t.0 +ℤ z) rest
    at false rest = rest

pub sum_own : (p : List ℤ) (truth : ℕ → Bool) (terms : List Term) → IsAt p truth terms → sum_at p terms ≡ chosen_sum (coefficients terms) (restricted truth terms)
sum_own p truth [] all = refl
sum_own p truth (t ∷ terms) all =
    ap (λ z. t.1 *ℤ z +ℤ sum_at p terms) all.0 ∙ bit_times t.1 (truth t.0) (sum_at p terms) ∙ at (truth t.0) (sum_own p truth terms all.1)
  where
    at : (b : Bool) → sum_at p terms ≡ chosen_sum (coefficients terms) (restricted truth terms)
        → (if b then t.1 +ℤ sum_at p terms else sum_at p terms) ≡ chosen_sum (t.1 ∷ coefficients terms) (b ∷ restricted truth terms)
    at true rest = ap (λ z. t.1 +ℤ z) rest
    at false rest = rest

-- ---- from a list over the columns of an inequality to a point

abbrev truth_of : List Term → List Bool → ℕ → Bool
truth_of [] z j = false
truth_of (t ∷ terms) [] j = false
truth_of (t ∷ terms) (b ∷ z) j = if j == t.0 then b else truth_of terms z j

restricted_fresh : (t : Term) (b : Bool) (terms : List Term) (z : List Bool) (more : List Term) → IsFresh t.0 more → restricted (truth_of (t ∷ terms) (b ∷ z)) more ≡ restricted (truth_of terms z) more
unfolding IsFresh
restricted_fresh t b terms z [] f = refl
restricted_fresh t b terms z (s ∷ more) f =
    ap (λ (x : Bool). (if x then b else truth_of terms z s.0) ∷ restricted (truth_of (t ∷ terms) (b ∷ z)) more) (eqb_other t.0 s.0 f.0)
    ∙ ap (λ (l : List Bool). truth_of terms z s.0 ∷ l) (restricted_fresh t b terms z more f.1)

restricted_truth : (terms : List Term) (z : List Bool) → AreDistinct terms → length z ≡ length terms → restricted (truth_of terms z) terms ≡ z
unfolding AreDistinct
restricted_truth [] [] d e = refl
restricted_truth [] (b ∷ z) d e = absurd (omega (arith, e))
restricted_truth (t ∷ terms) [] d e = absurd (omega (arith, e))
restricted_truth (t ∷ terms) (b ∷ z) d e =
    ap (λ (x : Bool). (if x then b else truth_of terms z t.0) ∷ restricted (truth_of (t ∷ terms) (b ∷ z)) terms) (eqb_self t.0)
    ∙ ap (λ (l : List Bool). b ∷ l) (restricted_fresh t b terms z terms d.0 ∙ restricted_truth terms z d.1 (omega (arith, e)))

-- the truth values of n columns from one on
abbrev tabulated : (ℕ → Bool) → ℕ → ℕ → List Bool
tabulated truth j zero = []
tabulated truth j (suc n) = truth j ∷ tabulated truth (suc j) n

tabulated_size : (truth : ℕ → Bool) (j n : ℕ) → length (tabulated truth j n) ≡ n
tabulated_size truth j zero = refl
tabulated_size truth j (suc n) = ap suc (tabulated_size truth (suc j) n)

tabulated_at : (truth : ℕ → Bool) (j n i : ℕ) → i < n → number_at (map bit (tabulated truth j n)) i ≡ bit (truth (j + i))
tabulated_at truth j zero i h = absurd (omega (arith, h))
tabulated_at truth j (suc n) zero h = let same : j ≡ j + 0 = omega arith in ap (λ (k : ℕ). bit (truth k)) same
tabulated_at truth j (suc n) (suc i) h = let same : suc j + i ≡ j + suc i = omega arith in tabulated_at truth (suc j) n i (omega (arith, h)) ∙ ap (λ (k : ℕ). bit (truth k)) same

tabulated_is : (truth : ℕ → Bool) (n : ℕ) (terms : List Term) → AreColumnsBelow n terms → IsAt (map bit (tabulated truth 0 n)) truth terms
tabulated_is truth n [] all = tt
tabulated_is truth n (t ∷ terms) all =
    let same : 0 + t.0 ≡ t.0 = omega arith in
    (tabulated_at truth 0 n t.0 all.0 ∙ ap (λ (k : ℕ). bit (truth k)) same, tabulated_is truth n terms all.1)

-- ---- from a point to a list

abbrev pub truth_at : List Bool → ℕ → Bool
truth_at z j = unwrap_or (slice_get z j) false

point_at : (z : List Bool) (j : ℕ) → number_at (map bit z) j ≡ bit (truth_at z j)
point_at z j = ap (λ (o : Option ℤ). unwrap_or o (pos 0)) (slice_get-map bit z j) ∙ at (slice_get z j)
  where
    at : (o : Option Bool) → unwrap_or (option_map bit o) (pos 0) ≡ bit (unwrap_or o false)
    at None = refl
    at (Some b) = refl

pub point_is : (z : List Bool) (terms : List Term) → IsAt (map bit z) (truth_at z) terms
point_is z [] = tt
point_is z (t ∷ terms) = (point_at z t.0, point_is z terms)

-- ---- columns of the claim

pub columns_of : (from claim : List Term) → AllByRecursion (λ t. IsSameSign (coefficient t.0 from) t.1) claim → AllByRecursion (λ t. HasColumn t.0 from) claim
columns_of from [] signs = tt
columns_of from (t ∷ claim) signs = (at signs.0, columns_of from claim signs.1)
  where
    at : IsSameSign (coefficient t.0 from) t.1 → HasColumn t.0 from
    at (inl s) q = omega (arith, ints, s.0, q)
    at (inr s) q = omega (arith, ints, s.0, q)

-- ---- rising columns stand once

fresh_below : (j : ℕ) (t : Term) (terms : List Term) → j < t.0 → IsRising (t ∷ terms) → IsFresh j (t ∷ terms)
unfolding IsFresh
fresh_below j t [] h r = (ne_eqb j t.0 (λ q. omega (arith, q, h)), tt)
fresh_below j t (u ∷ terms) h r = (ne_eqb j t.0 (λ q. omega (arith, q, h)), fresh_below j u terms (omega (arith, h, r.1)) r.2)

pub distinct : (terms : List Term) → IsRising terms → AreDistinct terms
unfolding AreDistinct IsFresh
distinct [] r = tt
distinct (t ∷ []) r = (tt, tt)
distinct (t ∷ u ∷ terms) r = (fresh_below t.0 u terms r.1 r.2, distinct (u ∷ terms) r.2)

-- ---- the two forms of the sentence

bits_lists : (m : Model) (from claim : Ineq) → AreDistinct from.terms → AreColumnsBelow (length m.cols) from.terms → AllByRecursion (λ t. HasColumn t.0 from.terms) claim.terms
    → HoldsAtBits m from claim ↔ HoldsAtLists from claim
bits_lists m from claim df below has = (forward, backward)
  where
    claim_sum : (p : List ℤ) (truth : ℕ → Bool) → IsAt p truth from.terms → sum_at p claim.terms ≡ chosen_sum (coefficients_at from.terms claim.terms) (restricted truth from.terms)
    claim_sum p truth all = sym (aligned p from.terms claim.terms df has) ∙ sum_list p truth (λ j. coefficient j claim.terms) from.terms all

    forward : HoldsAtBits m from claim → HoldsAtLists from claim
    forward holds z size met =
        let truth : ℕ → Bool = truth_of from.terms z in
        let all = tabulated truth 0 (length m.cols) in
        let is = tabulated_is truth (length m.cols) from.terms below in
        let back : restricted truth from.terms ≡ z = restricted_truth from.terms z df size in
        let row : sum_at (map bit all) from.terms ≡ chosen_sum (coefficients from.terms) z = sum_own (map bit all) truth from.terms is ∙ ap (chosen_sum (coefficients from.terms)) back in
        let cut : sum_at (map bit all) claim.terms ≡ chosen_sum (coefficients_at from.terms claim.terms) z = claim_sum (map bit all) truth is ∙ ap (chosen_sum (coefficients_at from.terms claim.terms)) back in
        omega (arith, ints, holds all (tabulated_size truth 0 (length m.cols)) (omega (arith, ints, row, met)), cut)

    backward : HoldsAtLists from claim → HoldsAtBits m from claim
    backward holds z size met =
        let is = point_is z from.terms in
        let row = sum_own (map bit z) (truth_at z) from.terms is in
        let cut = claim_sum (map bit z) (truth_at z) is in
        let wide : length (restricted (truth_at z) from.terms) ≡ length from.terms = length-map from.terms (λ t. truth_at z t.0) in
        omega (arith, ints, holds (restricted (truth_at z) from.terms) wide (omega (arith, ints, row, met)), cut)

pub knap_lists : (m : Model) (from claim : Ineq) → IsRising from.terms → AreColumnsBelow (length m.cols) from.terms → AllByRecursion (λ t. IsSameSign (coefficient t.0 from.terms) t.1) claim.terms
    → HoldsAtBits m from claim ↔ HoldsAtLists from claim
knap_lists m from claim rising below signs = bits_lists m from claim (distinct from.terms rising) below (columns_of from.terms claim.terms signs)
