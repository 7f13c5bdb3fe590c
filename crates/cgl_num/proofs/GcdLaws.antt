-- Laws of the greatest common divisor.
use Rattle.std.proofs.Common.{◌≡◌, ℕ, zero, suc, ◌+◌, ◌*◌, ◌/◌, ◌%◌, ◌≤◌, ◌<◌, ap, refl, sym, ◌∙◌, subst, arith}
use Rattle.std.specs.Prelude.{ℤ, pos, unsigned_abs, List, [], ◌∷◌}
use Rattle.std.specs.Int.{IsGcd, ◌∣◌}
use Rattle.std.specs.List.{All}
use Rattle.std.proofs.Common.{get_or}
use Rattle.std.proofs.lemmas.Int.{ints}
use Rattle.std.proofs.lemmas.List.Elements.{All-nil, All-cons, All-head, All-tail}
use Rattle.std.proofs.Math.Nat.{mul-lt-mul_of_pos_right, dvd-mul_right, div-mul_cancel, mul-dvd-mul_right, dvd_of_mul-dvd-mul_right, mod-zero, mod-lt, eq-one_of_dvd-one, eq-zero_of_zero-dvd, pos_of_dvd_of_pos}
use Rattle.std.proofs.lemmas.Nat.{mod-mul-add, div-add-mod'}
use Rattle.std.proofs.lemmas.Nat.Gcd.{IsGcd-from_mod, IsGcd-from_zero, same_from_IsGcd, le_of_dvd, dvd-zero, dvd_trans, dvd_refl}
use Rattle.cgl_num.specs.Gcd.{gcd, gcd_within, gcd_of}

within : (n a b : ℕ) → b ≤ n → IsGcd a b (gcd_within n a b)
within zero a b h = IsGcd-from_zero a b (omega arith)
within (suc n) a zero h = IsGcd-from_zero a 0 refl
within (suc n) a (suc b) h =
    let less : a % suc b < suc b = mod-lt a (omega arith) in
    IsGcd-from_mod a (suc b) _ (within n (suc b) (a % suc b) (omega arith))

pub gcd_is : (a b : ℕ) → IsGcd a b (gcd a b)
unfolding gcd
gcd_is a b = within b a b (omega arith)

-- a number that meets the relation is the gcd
pub gcd_one : (a b g : ℕ) → IsGcd a b g → g ≡ gcd a b
gcd_one a b g is = same_from_IsGcd a b g (gcd a b) is (gcd_is a b)

-- the gcd is 0 only where both numbers are
pub gcd_zero : (a b : ℕ) → gcd a b ≡ 0 → (a ≡ 0) × (b ≡ 0)
gcd_zero a b e =
    let D : ℕ → Type 0 = λ g. g ∣ a in
    let E : ℕ → Type 0 = λ g. g ∣ b in
    (eq-zero_of_zero-dvd (subst D e (gcd_is a b).0), eq-zero_of_zero-dvd (subst E e (gcd_is a b).1))

-- the gcd of numbers below a bound is below it
pub gcd_below : (a b n : ℕ) → a < n → b < n → gcd a b < n
gcd_below zero zero n p q = let none : 0 ∣ gcd 0 0 = (gcd_is 0 0).2 0 (dvd_refl 0) (dvd_refl 0) in omega (arith, eq-zero_of_zero-dvd none)
gcd_below zero (suc b) n p q = omega (arith, le_of_dvd (omega arith) (gcd_is 0 (suc b)).1)
gcd_below (suc a) b n p q = omega (arith, le_of_dvd (omega arith) (gcd_is (suc a) b).0)

pub gcd_above : (a b : ℕ) → 0 < b → 0 < gcd a b
gcd_above a b h = pos_of_dvd_of_pos (gcd_is a b).1 h

-- ---- lists

-- it divides each magnitude
pub gcd_of_divides : (zs : List ℤ) → All (λ z. gcd_of zs ∣ unsigned_abs z) zs
unfolding gcd_of
gcd_of_divides [] = All-nil _
gcd_of_divides (z ∷ zs) =
    let is = gcd_is (unsigned_abs z) (gcd_of zs) in
    All-cons (λ x. gcd_of (z ∷ zs) ∣ unsigned_abs x) z zs is.0 (λ k d h. dvd_trans _ is.1 (gcd_of_divides zs k d h))

-- what divides each magnitude divides it
pub gcd_of_greatest : (zs : List ℤ) (d : ℕ) → All (λ z. d ∣ unsigned_abs z) zs → d ∣ gcd_of zs
unfolding gcd_of
gcd_of_greatest [] d h = dvd-zero d
gcd_of_greatest (z ∷ zs) d h =
    let is = gcd_is (unsigned_abs z) (gcd_of zs) in
    let D : ℤ → Type 0 = λ x. d ∣ unsigned_abs x in
    is.2 d (All-head D z zs h) (gcd_of_greatest zs d (All-tail D z zs h))

-- it is 0 only where every number is
pub gcd_of_zero : (zs : List ℤ) → gcd_of zs ≡ 0 → All (λ z. z ≡ pos 0) zs
gcd_of_zero zs e k d h =
    let D : ℕ → Type 0 = λ g. g ∣ unsigned_abs (get_or zs k d) in
    let none : unsigned_abs (get_or zs k d) ≡ 0 = eq-zero_of_zero-dvd (subst D e (gcd_of_divides zs k d h)) in
    omega (arith, ints, none)

-- ---- a common factor

-- a remainder of multiples
mod-times : (c a b : ℕ) → 0 < b → (a * c) % (b * c) ≡ (a % b) * c
mod-times zero a b h = omega (arith, mod-zero 0)
mod-times (suc c) a b h =
    let less : (a % b) * suc c < b * suc c = mul-lt-mul_of_pos_right (mod-lt a h) (omega arith) in
    let parts : a * suc c ≡ (a / b) * (b * suc c) + (a % b) * suc c = ap (λ n. n * suc c) (sym (div-add-mod' a b)) ∙ omega arith in
    ap (λ n. n % (b * suc c)) parts ∙ mod-mul-add (a / b) (b * suc c) ((a % b) * suc c) less

-- a number with both gcds, of two numbers and of their multiples
abbrev Scaled : ℕ → ℕ → ℕ → Type 0
Scaled c a b = (g : ℕ) × IsGcd a b g × IsGcd (a * c) (b * c) (g * c)

scaled : (n c a b : ℕ) → b ≤ n → Scaled c a b
scaled n c a zero h = (a, IsGcd-from_zero a 0 refl, IsGcd-from_zero (a * c) (0 * c) (omega arith))
scaled zero c a (suc b) h = absurd (omega arith)
scaled (suc n) c a (suc b) h =
    let less : a % suc b < suc b = mod-lt a (omega arith) in
    let rest = scaled n c (suc b) (a % suc b) (omega arith) in
    let D : ℕ → Type 0 = λ r. IsGcd (suc b * c) r (rest.0 * c) in
    (rest.0, IsGcd-from_mod a (suc b) rest.0 rest.1, IsGcd-from_mod (a * c) (suc b * c) (rest.0 * c) (subst D (sym (mod-times c a (suc b) (omega arith))) rest.2))

pub IsGcd-mul : (a b g c : ℕ) → IsGcd a b g → IsGcd (a * c) (b * c) (g * c)
IsGcd-mul a b g c is =
    let both = scaled b c a b (omega arith) in
    let D : ℕ → Type 0 = λ r. IsGcd (a * c) (b * c) (r * c) in
    subst D (same_from_IsGcd a b both.0 g both.1 is) both.2

-- what divides a product and shares nothing with one factor divides the other
pub dvd_other : (a b c : ℕ) → gcd a b ≡ 1 → a ∣ b * c → a ∣ c
dvd_other a b c e h =
    let is : IsGcd a b 1 = subst (λ g. IsGcd a b g) e (gcd_is a b) in
    let D : ℕ → Type 0 = λ r. a ∣ r in
    subst D (omega arith) ((IsGcd-mul a b 1 c is).2 a (dvd-mul_right a c) h)

-- the quotients by the gcd share nothing
pub gcd_quotients : (a b : ℕ) → 0 < gcd a b → gcd (a / gcd a b) (b / gcd a b) ≡ 1
gcd_quotients a b h =
    let g = gcd a b in
    let d = gcd (a / g) (b / g) in
    let is = gcd_is (a / g) (b / g) in
    let A : ℕ → Type 0 = λ r. d * g ∣ r in
    let first : d * g ∣ a = subst A (div-mul_cancel g (gcd_is a b).0) (mul-dvd-mul_right d is.0 g) in
    let second : d * g ∣ b = subst A (div-mul_cancel g (gcd_is a b).1) (mul-dvd-mul_right d is.1 g) in
    let whole : d * g ∣ 1 * g = subst A (omega arith) ((gcd_is a b).2 (d * g) first second) in
    eq-one_of_dvd-one (dvd_of_mul-dvd-mul_right d h whole)
