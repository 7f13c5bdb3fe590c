-- Inequalities that are knapsacks within the limits, and others.
use Rattle.std.proofs.Common.{◌≡◌, ℕ, zero, suc, ◌+◌, ◌*◌, ◌≤◌, ◌<◌, ◌==◌, ◌^◌, ℤ, pos, List, [], ◌∷◌, length, Option, Some, None, Bool, true, false, cond, refl, sym, ap, ◌∙◌, subst, arith}
use Rattle.std.specs.Prelude.{◌≤ℤ◌, ◌<ℤ◌, nat_le, unsigned_abs, if◌then◌else◌}
use Rattle.std.proofs.lemmas.Int.{ints}
use Rattle.std.proofs.lemmas.Bool.Decides.{nat_tests}
use Rattle.cgl_model.specs.declared.linear.Ineq.{Ineq}
use Rattle.cgl_model.specs.IntegerForm.{negated}
use Rattle.cgl_model.specs.Inequality.{Term}
use Rattle.cgl_derive.specs.Knapsack.{capacity, coefficients, positive_total, total_magnitude}
use Rattle.cgl_check.specs.Knapsacks.{small_capacity, table_capacity}
use Rattle.cgl_check.specs.LinearIneq.{signed, terms_of}
use Rattle.cgl_check.specs.Tests.{is_small, reaches}
use Rattle.cgl_check.proofs.TestLaws.{at_reaches, if_not}
use Rattle.cgl_check.proofs.KnapExact.{small_holds, small_passes}
use Rattle.cgl_check.proofs.KnapSumLaws.{coefficients_signed, magnitude_sum, positive_bounds}

length_negated : (terms : List Term) → length (negated terms) ≡ length terms
length_negated [] = refl
length_negated (t ∷ terms) = ap suc (length_negated terms)

pub length_signed : (negative : Bool) (terms : List Term) → length (terms_of negative terms) ≡ length terms
length_signed true terms = length_negated terms
length_signed false terms = refl

pub total_bounds : (negative : Bool) (terms : List Term)
    → (pos 0 ≤ℤ positive_total (coefficients (terms_of negative terms))) × (positive_total (coefficients (terms_of negative terms)) ≤ℤ pos (total_magnitude terms))
total_bounds negative terms =
    let f : Term → ℤ = λ t. signed negative t.1 in
    let bounds = positive_bounds f terms in
    let same = ap positive_total (coefficients_signed negative terms) in
    (omega (arith, ints, bounds.0, same), omega (arith, ints, bounds.1, same, magnitude_sum negative terms))

not_small : (from : Ineq) → is_small from ≡ false → None ≡ small_capacity from
not_small from e = sym (ap (λ (b : Bool). if b then Some (table_capacity from) else None) e)

pub wide_not : (from : Ineq) → reaches (total_magnitude from.terms + unsigned_abs from.rhs) ≡ true → None ≡ small_capacity from
wide_not from e = not_small from (if_not (is_small from) (λ s. let n = (small_holds from s).narrow in let r = at_reaches _ e in omega (arith, n, r)))

pub low_not : (from : Ineq) → capacity from <ℤ pos 0 → None ≡ small_capacity from
low_not from h = not_small from (if_not (is_small from) (λ s. let r = (small_holds from s).room in omega (arith, ints, r, h)))

over_limit : (n cap : ℕ) → 0 < n → 50000000 < cap → n * (cap + 2) ≤ 50000000 → ⊥
over_limit zero cap h big le = omega (arith, h)
over_limit (suc n) cap h big le = omega (arith, big, le)

pub large_not : (from : Ineq) → 0 < length from.terms → pos 50000000 <ℤ capacity from → None ≡ small_capacity from
large_not from h big = not_small from (if_not (is_small from) (λ s.
    let size : 50000000 < unsigned_abs (capacity from) = omega (arith, ints, big) in
    over_limit (length from.terms) (unsigned_abs (capacity from)) h size (small_holds from s).small))

le_false : (a b : ℕ) → nat_le a b ≡ false → b < a
le_false a b e = grind (arith, nat_tests, e)

le_true : (a b : ℕ) → nat_le a b ≡ true → a ≤ b
le_true a b e = grind (arith, nat_tests, e)

pub over_not : (from : Ineq) → nat_le (length from.terms * (unsigned_abs (capacity from) + 2)) 50000000 ≡ false → None ≡ small_capacity from
over_not from e = not_small from (if_not (is_small from) (λ s. let small = (small_holds from s).small in let over = le_false _ _ e in omega (arith, small, over)))

is_some : (from : Ineq) (cap : ℕ) → is_small from ≡ true → cap ≡ table_capacity from → Some cap ≡ small_capacity from
is_some from cap e f = ap Some f ∙ sym (ap (λ (b : Bool). if b then Some (table_capacity from) else None) e)

not_none : (n : ℕ) → (suc n == 0) ≡ false
not_none n = grind (arith, nat_tests)

table_at : (n cap : ℕ) → 0 < n → cap ≡ (if n == 0 then 0 else cap)
table_at zero cap h = absurd (omega (arith, h))
table_at (suc n) cap h = sym (ap (λ (b : Bool). if b then 0 else cap) (not_none n))

pub small_is : (from : Ineq) → 0 < length from.terms → pos 0 ≤ℤ capacity from → total_magnitude from.terms + unsigned_abs from.rhs < 2 ^ 127 → nat_le (length from.terms * (unsigned_abs (capacity from) + 2)) 50000000 ≡ true
    → Some (unsigned_abs (capacity from)) ≡ small_capacity from
small_is from h room narrow e = is_some from (unsigned_abs (capacity from)) (small_passes from room (le_true _ _ e) narrow) (table_at (length from.terms) (unsigned_abs (capacity from)) h)

pub empty_is : (from : Ineq) → length from.terms ≡ 0 → pos 0 ≤ℤ capacity from → total_magnitude from.terms + unsigned_abs from.rhs < 2 ^ 127 → Some 0 ≡ small_capacity from
empty_is from e room narrow =
    let none = ap (λ (n : ℕ). n * (unsigned_abs (capacity from) + 2)) e in
    is_some from 0 (small_passes from room (omega (arith, none)) narrow) (sym (ap (λ (n : ℕ). if n == 0 then 0 else unsigned_abs (capacity from)) e))
