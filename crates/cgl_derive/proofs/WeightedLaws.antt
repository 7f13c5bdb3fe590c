-- A running sum is the weighted sum of what was added.
use Rattle.std.proofs.Common.{◌≡◌, ℕ, zero, suc, ℤ, ◌+◌, ◌*◌, ◌<◌, ◌≤◌, List, [], ◌∷◌, ◌++◌, length, replicate, sym, ap, ◌∙◌, refl, ⊎_elim, arith}
use Rattle.std.specs.Prelude.{◌+ℤ◌, ◌*ℤ◌, unsigned_abs}
use Rattle.std.proofs.lemmas.Int.{ints}
use Rattle.std.proofs.lemmas.Bool.{cases_order}
use Rattle.cgl_model.specs.declared.linear.Ineq.{Ineq}
use Rattle.cgl_model.specs.Inequality.{AreColumnsBelow}
use Rattle.cgl_derive.specs.Derives.{Part, coefficient, weighted, magnitudes}
use Rattle.cgl_derive.specs.Totals.{Amount, Totals, IsSumOf, amount_at, no_totals, nothing, plus, plus_columns, plus_side}
use Rattle.cgl_derive.proofs.CoefficientLaws.{coefficient_past}
use Rattle.cgl_derive.proofs.AmountLaws.{at_past, at_plus, length_plus, plus_zero}

pub by_size : {A : Type 0} (j n : ℕ) → (j < n → A) → (n ≤ j → A) → A
by_size j n f g = ⊎_elim (λ e. g (omega (arith, e))) (λ o. ⊎_elim f (λ l. g (omega (arith, l))) o) (cases_order j n)

pub weighted_push : (f : Ineq → ℤ) (xs : List Part) (p : Part) → weighted f (xs ++ p ∷ []) ≡ weighted f xs +ℤ p.1 *ℤ f p.0
weighted_push f [] p = let z = p.1 *ℤ f p.0 in omega (arith, ints)
weighted_push f (x ∷ xs) p = let rest = weighted_push f xs p in omega (arith, ints, rest)

pub magnitudes_push : (f : Ineq → ℤ) (xs : List Part) (p : Part) → magnitudes f (xs ++ p ∷ []) ≡ magnitudes f xs + unsigned_abs p.1 * unsigned_abs (f p.0)
magnitudes_push f [] p = omega arith
magnitudes_push f (x ∷ xs) p = let rest = magnitudes_push f xs p in omega (arith, rest)

-- the amounts with a part more, at each column
pub at_more : (by : ℤ) (c : Ineq) (xs : List Amount) (j : ℕ) → AreColumnsBelow (length xs) c.terms → amount_at (plus_columns by c.terms 0 xs) j ≡ plus by (coefficient j c.terms) (amount_at xs j)
at_more by c xs j below = by_size j (length xs) (λ l. at_plus by c.terms xs j l)
    (λ l. at_past (plus_columns by c.terms 0 xs) j (omega (arith, l, length_plus by c.terms 0 xs)) ∙ sym (ap (λ z. plus by z (amount_at xs j)) (coefficient_past (length xs) j c.terms l below) ∙ plus_zero by (amount_at xs j) ∙ at_past xs j l))

pub sum_more : (parts : List Part) (c : Ineq) (by : ℤ) (t : Totals) → AreColumnsBelow (length t.columns) c.terms → IsSumOf parts t → IsSumOf (parts ++ (c, by) ∷ []) (plus_side by c t)
sum_more parts c by t below is = record {
  left = (λ j. ap (λ a. a.value) (at_more by c t.columns j below) ∙ ap (λ z. z +ℤ by *ℤ coefficient j c.terms) (is.left j) ∙ sym (weighted_push (λ d. coefficient j d.terms) parts (c, by)));
  right = ap (λ z. z +ℤ by *ℤ c.rhs) is.right ∙ sym (weighted_push (λ d. d.rhs) parts (c, by));
  left_magnitude = (λ j. ap (λ a. a.magnitude) (at_more by c t.columns j below) ∙ ap (λ n. n + unsigned_abs by * unsigned_abs (coefficient j c.terms)) (is.left_magnitude j) ∙ sym (magnitudes_push (λ d. coefficient j d.terms) parts (c, by)));
  right_magnitude = ap (λ n. n + unsigned_abs by * unsigned_abs c.rhs) is.right_magnitude ∙ sym (magnitudes_push (λ d. d.rhs) parts (c, by));
}

pub at_none : (n j : ℕ) → amount_at (replicate n nothing) j ≡ nothing
at_none zero j = refl
at_none (suc n) zero = refl
at_none (suc n) (suc j) = at_none n j

pub sum_none : (n : ℕ) → IsSumOf [] (no_totals n)
sum_none n = record { left = (λ j. ap (λ a. a.value) (at_none n j)); right = refl; left_magnitude = (λ j. ap (λ a. a.magnitude) (at_none n j)); right_magnitude = refl }
