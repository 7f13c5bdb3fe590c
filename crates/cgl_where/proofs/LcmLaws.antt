-- Least common multiples, and the common denominator of fractions.
use Rattle.std.proofs.Common.{◌≡◌, refl, sym, ap, ap₂, ◌∙◌, subst, arith, ℕ, zero, suc, ◌+◌, ◌-◌, ◌*◌, ◌/◌, ◌^◌, ◌<◌, ◌≤◌, nat_lt, Bool, true, false, cond, List, [], ◌∷◌, length, drop, get_or, Some, None}
use Rattle.std.specs.Prelude.{pos, ◌<ℤ◌, unsigned_abs}
use Rattle.std.specs.Int.{◌∣◌}
use Rattle.std.proofs.lemmas.Int.{ints}
use Rattle.std.proofs.lemmas.List.{drop_more}
use Rattle.std.proofs.lemmas.Bool.Decides.{nat_tests}
use Rattle.std.proofs.lemmas.Nat.Gcd.{le_of_dvd}
use Rattle.std.proofs.Math.Nat.{div-mul_cancel, dvd-mul_left, dvd-mul_right, dvd_of_mul-dvd-mul_right, mul-dvd-mul_left, pos_of_dvd_of_pos, mul-le-mul}
use Rattle.cgl_num.specs.Fraction.{Fraction}
use Rattle.cgl_num.specs.Gcd.{gcd}
use Rattle.cgl_num.proofs.GcdLaws.{gcd_is, gcd_one, gcd_above, gcd_quotients, dvd_other}
use Rattle.cgl_where.specs.PointFile.{lcm, common_denominator}
use Rattle.cgl_where.specs.Limits.{ArePositive, fitting_denominator}

gcd_swap : (a b : ℕ) → gcd a b ≡ gcd b a
gcd_swap a b = let is = gcd_is a b in gcd_one b a (gcd a b) (is.1, is.0, λ d p q. is.2 d q p)

pub lcm_first : (a b : ℕ) → a ∣ lcm a b
lcm_first a b = dvd-mul_right a (b / gcd a b)

pub lcm_second : (a b : ℕ) → b ∣ lcm a b
lcm_second a b =
    let g = gcd a b in
    let is = gcd_is a b in
    let whole : (a / g) * g * (b / g) ≡ a * (b / g) = ap (λ n. n * (b / g)) (div-mul_cancel g is.0) in
    let parts : (a / g) * (b / g * g) ≡ (a / g) * b = ap (λ n. (a / g) * n) (div-mul_cancel g is.1) in
    let same : (a / g) * b ≡ lcm a b = omega (arith, whole, parts) in
    let D : ℕ → Type 0 = λ n. b ∣ n in
    subst D same (dvd-mul_left b (a / g))

product_above : (a b : ℕ) → 0 < a → 0 < b → 0 < a * b
product_above a b p q = let m : 1 * 1 ≤ a * b = mul-le-mul p q in m

pub lcm_above : (a b : ℕ) → 0 < a → 0 < b → 0 < lcm a b
lcm_above a b p q =
    let g = gcd a b in
    let D : ℕ → Type 0 = λ n. b / g ∣ n in
    let part : b / g ∣ b = subst D (div-mul_cancel g (gcd_is a b).1) (dvd-mul_right (b / g) g) in
    product_above a (b / g) p (pos_of_dvd_of_pos part q)

-- what both divide, it divides
pub lcm_least : (a b n : ℕ) → 0 < b → a ∣ n → b ∣ n → lcm a b ∣ n
lcm_least a b n above p q =
    let g = gcd a b in
    let is = gcd_is a b in
    let k = n / a in
    let some : 0 < g = gcd_above a b above in
    let first : k * a ≡ n = div-mul_cancel a p in
    let parts : k * (a / g * g) ≡ k * a = ap (λ m. k * m) (div-mul_cancel g is.0) in
    let whole : n ≡ (a / g * k) * g = omega (arith, first, parts) in
    let D : ℕ → Type 0 = λ m. m ∣ n in
    let E : ℕ → Type 0 = λ m. (b / g) * g ∣ m in
    let scaled : (b / g) * g ∣ (a / g * k) * g = subst E whole (subst D (sym (div-mul_cancel g is.1)) q) in
    let apart : gcd (b / g) (a / g) ≡ 1 = gcd_swap (b / g) (a / g) ∙ gcd_quotients a b some in
    let part : b / g ∣ k = dvd_other (b / g) (a / g) k apart (dvd_of_mul-dvd-mul_right (b / g) some scaled) in
    let F : ℕ → Type 0 = λ m. a * (b / g) ∣ m in
    let back : a * k ≡ n = omega (arith, first) in
    subst F back (mul-dvd-mul_left (b / g) a part)

-- ---- the common denominator

den_above : (f : Fraction) → pos 0 <ℤ f.den → 0 < unsigned_abs f.den
den_above f h = omega (arith, ints, h)

pub denominator_above : (fs : List Fraction) → ArePositive fs → 0 < common_denominator fs
denominator_above [] all = omega arith
denominator_above (f ∷ fs) all = lcm_above (unsigned_abs f.den) (common_denominator fs) (den_above f all.0) (denominator_above fs all.1)

one_more : (f : Fraction) (fs : List Fraction) → ArePositive (f ∷ fs) → common_denominator fs ≤ common_denominator (f ∷ fs)
one_more f fs all = le_of_dvd (denominator_above (f ∷ fs) all) (lcm_second (unsigned_abs f.den) (common_denominator fs))

pub denominator_grows : (fs : List Fraction) (k : ℕ) → ArePositive fs → common_denominator (drop k fs) ≤ common_denominator fs
denominator_grows fs zero all = omega arith
denominator_grows [] (suc k) all = omega arith
denominator_grows (f ∷ fs) (suc k) all = omega (arith, one_more f fs all, denominator_grows fs k all.1)

-- ---- what fits

fits_case : (n next : ℕ) (b : Bool) → nat_lt (2 ^ 62) n ≡ b → Some next ≡ cond b None (Some n) → (next ≡ n) × (n ≤ 2 ^ 62)
fits_case n next true t e = cc
fits_case n next false t e = (cc, grind (arith, nat_tests))

pub fits : (n next : ℕ) → Some next ≡ fitting_denominator n → (next ≡ n) × (n ≤ 2 ^ 62)
fits n next e = fits_case n next (nat_lt (2 ^ 62) n) refl e

fits_not_case : (n : ℕ) (b : Bool) → nat_lt (2 ^ 62) n ≡ b → None ≡ cond b None (Some n) → 2 ^ 62 < n
fits_not_case n true t e = grind (arith, nat_tests)
fits_not_case n false t e = cc

pub fits_not : (n : ℕ) → None ≡ fitting_denominator n → 2 ^ 62 < n
fits_not n e = fits_not_case n (nat_lt (2 ^ 62) n) refl e

above_fits : (n : ℕ) → 2 ^ 62 < n → None ≡ fitting_denominator n
above_fits n lt = let yes : nat_lt (2 ^ 62) n ≡ true = grind (arith, nat_tests) in ap (λ c. cond c None (Some n)) (sym yes)

-- ---- from the right, one fraction more

from_place : (fs : List Fraction) (i den d : ℕ) (f : Fraction) → 0 < i → i ≤ length fs → f ≡ get_or fs (i - 1) f → den ≡ unsigned_abs f.den → d ≡ common_denominator (drop i fs)
    → common_denominator (drop (i - 1) fs) ≡ lcm den d
from_place fs i den d f some within is den_is d_is =
    let next : i - 1 + 1 ≡ i = omega arith in
    ap common_denominator (drop_more fs (i - 1) f (omega arith))
    ∙ ap₂ (λ x n. lcm (unsigned_abs x.den) (common_denominator (drop n fs))) (sym is) next
    ∙ ap₂ (λ x y. lcm x y) (sym den_is) (sym d_is)

pub record IsFolded (fs : List Fraction) (i d : ℕ) : Type 0 where
  pub value : d ≡ common_denominator (drop i fs)
  pub positive : 0 < d
  pub below : d ≤ 2 ^ 62

pub folded : (fs : List Fraction) (i den d next : ℕ) (f : Fraction) → 0 < i → i ≤ length fs → f ≡ get_or fs (i - 1) f → den ≡ unsigned_abs f.den → d ≡ common_denominator (drop i fs)
    → 0 < den → 0 < d → Some next ≡ fitting_denominator (lcm den d) → IsFolded fs (i - 1) next
folded fs i den d next f some within is den_is d_is p q e =
    let fit = fits (lcm den d) next e in
    record {
      value = fit.0 ∙ sym (from_place fs i den d f some within is den_is d_is);
      positive = omega (arith, fit.0, lcm_above den d p q);
      below = omega (arith, fit.0, fit.1);
    }

pub folded_not : (fs : List Fraction) (i den d : ℕ) (f : Fraction) → 0 < i → i ≤ length fs → f ≡ get_or fs (i - 1) f → den ≡ unsigned_abs f.den → d ≡ common_denominator (drop i fs)
    → ArePositive fs → None ≡ fitting_denominator (lcm den d) → None ≡ fitting_denominator (common_denominator fs)
folded_not fs i den d f some within is den_is d_is all e =
    above_fits (common_denominator fs) (omega (arith, fits_not (lcm den d) e, from_place fs i den d f some within is den_is d_is, denominator_grows fs (i - 1) all))
