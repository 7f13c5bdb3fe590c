-- A number of n digits, the first of which isn't 0, is at least 10^(n-1) and below 10^n.
use Rattle.std.proofs.Common.{◌≡◌, refl, sym, ap, subst, ◌∙◌, arith, ℕ, suc, ◌+◌, ◌-◌, ◌*◌, ◌^◌, ◌<◌, ◌≤◌, Bool, true, false, cond, ◌&&◌, [], ◌∷◌, length, fold, pow-suc, pow-add, mul-le-mul_right, true≢false}
use Rattle.std.specs.List.{list_all, prefix_len}
use Rattle.std.proofs.lemmas.Bool.Decides.{nat_tests}
use Rattle.cgl_num.specs.NumberText.{Word, natural, is_digit, is_zero, size}
use Rattle.cgl_num.proofs.DecimalLaws.{tens_pos, tens_mono}

abbrev pub digits_from : ℕ → Word → ℕ
digits_from a digits = fold (λ n b. 10 * n + (b - 48)) a digits

low_step : (a x p f : ℕ) → (10 * a + x) * p ≤ f → a * (p * 10) ≤ f
low_step a x p f le = omega (arith, le)

pub digits-low : (a : ℕ) (digits : Word) → a * 10 ^ length digits ≤ digits_from a digits
digits-low a [] = omega arith
digits-low a (d ∷ digits) =
    let e : a * 10 ^ suc (length digits) ≡ a * (10 ^ length digits * 10) = ap (λ q. a * q) (pow-suc 10 (length digits)) in
    omega (arith, e, low_step a (d - 48) (10 ^ length digits) (digits_from (10 * a + (d - 48)) digits) (digits-low (10 * a + (d - 48)) digits))

pub digit-least : (d : ℕ) → is_digit d ≡ true → 48 ≤ d
digit-least d yes_digit = grind (arith, nat_tests)

pub digit-small : (d : ℕ) → is_digit d ≡ true → d - 48 < 10
digit-small d yes_digit = grind (arith, nat_tests)

pub and-left : (a b : Bool) → (a && b) ≡ true → a ≡ true
and-left true b e = refl
and-left false b e = e

pub and-right : (a b : Bool) → (a && b) ≡ true → b ≡ true
and-right true b e = e
and-right false b e = absurd (true≢false (sym e))

high_step : (a x p f : ℕ) → x < 10 → f + 1 ≤ (10 * a + x + 1) * p → f + 1 ≤ (a + 1) * (p * 10)
high_step a x p f small le = let m : (x + 1) * p ≤ 10 * p = mul-le-mul_right p (omega arith) in omega (arith, le, m)

pub digits-high : (a : ℕ) (digits : Word) → list_all is_digit digits ≡ true → digits_from a digits + 1 ≤ (a + 1) * 10 ^ length digits
digits-high a [] all = omega arith
digits-high a (d ∷ digits) all =
    let e : (a + 1) * 10 ^ suc (length digits) ≡ (a + 1) * (10 ^ length digits * 10) = ap (λ q. (a + 1) * q) (pow-suc 10 (length digits)) in
    omega (arith, e, high_step a (d - 48) (10 ^ length digits) (digits_from (10 * a + (d - 48)) digits) (digit-small d (and-left _ _ all)) (digits-high (10 * a + (d - 48)) digits (and-right _ _ all)))

pub zero-is : (d : ℕ) → is_zero d ≡ true → d - 48 ≡ 0
zero-is d e = grind (arith, nat_tests)

pub nonzero-is : (d : ℕ) → is_digit d ≡ true → is_zero d ≡ false → 1 ≤ d - 48
nonzero-is d digit e = grind (arith, nat_tests)

pub record IsOfSize (n value : ℕ) : Type 0 where
  pub low : 10 ^ (n - 1) ≤ value
  pub high : value + 1 ≤ 10 ^ n

size-case : (d : ℕ) (digits : Word) → is_digit d ≡ true → list_all is_digit digits ≡ true → (0 < natural digits → IsOfSize (size digits) (natural digits)) → (b : Bool) → is_zero d ≡ b
    → 0 < digits_from (d - 48) digits → IsOfSize (suc (length digits) - cond b (1 + prefix_len is_zero digits) 0) (digits_from (d - 48) digits)
size-case d digits digit all later true e some =
    let same : digits_from (d - 48) digits ≡ natural digits = ap (λ a. digits_from a digits) (zero-is d e) in
    let n : suc (length digits) - (1 + prefix_len is_zero digits) ≡ size digits = omega arith in
    let s = later (omega (arith, some, same)) in
    subst (λ v. IsOfSize (suc (length digits) - (1 + prefix_len is_zero digits)) v) (sym same) (subst (λ k. IsOfSize k (natural digits)) (sym n) s)
size-case d digits digit all later false e some =
    let p = 10 ^ length digits in
    let one : 1 * p ≤ (d - 48) * p = mul-le-mul_right p (nonzero-is d digit e) in
    let n : suc (length digits) - 0 - 1 ≡ length digits = omega arith in
    let m : suc (length digits) - 0 ≡ suc (length digits) = omega arith in
    record {
      low = let q : 10 ^ (suc (length digits) - 0 - 1) ≡ p = ap (λ k. 10 ^ k) n in omega (arith, q, one, digits-low (d - 48) digits);
      high =
          let q : 10 ^ (suc (length digits) - 0) ≡ p * 10 = ap (λ k. 10 ^ k) m ∙ pow-suc 10 (length digits) in
          let most : (d - 48 + 1) * p ≤ 10 * p = mul-le-mul_right p (omega (arith, digit-small d digit)) in
          omega (arith, q, most, digits-high (d - 48) digits all);
    }

-- a number that isn't 0 has as many digits as stand from the first that isn't 0 on
pub size-is : (digits : Word) → list_all is_digit digits ≡ true → 0 < natural digits → IsOfSize (size digits) (natural digits)
size-is [] all some = absurd (omega (arith, some))
size-is (d ∷ digits) all some =
    let from : natural (d ∷ digits) ≡ digits_from (d - 48) digits = ap (λ a. digits_from a digits) (omega arith) in
    subst (λ v. IsOfSize (size (d ∷ digits)) v) (sym from)
    (size-case d digits (and-left _ _ all) (and-right _ _ all) (size-is digits (and-right _ _ all)) (is_zero d) refl (omega (arith, some, from)))

-- with e zeros more: at least 10^k where more than k digits stand before the point, and else below
pub size-above : (n v k e : ℕ) → IsOfSize n v → k < n + e → 0 < n → 10 ^ k ≤ v * 10 ^ e
size-above n v k e s more some =
    let up : 10 ^ k ≤ 10 ^ (n - 1 + e) = tens_mono k (n - 1 + e) (omega (arith, more, some)) in
    let apart : 10 ^ (n - 1 + e) ≡ 10 ^ (n - 1) * 10 ^ e = pow-add 10 (n - 1) e in
    let wide : 10 ^ (n - 1) * 10 ^ e ≤ v * 10 ^ e = mul-le-mul_right (10 ^ e) s.low in
    omega (arith, up, apart, wide)

pub size-below : (n v k e : ℕ) → IsOfSize n v → n + e ≤ k → v * 10 ^ e < 10 ^ k
size-below n v k e s less =
    let up : 10 ^ (n + e) ≤ 10 ^ k = tens_mono (n + e) k less in
    let apart : 10 ^ (n + e) ≡ 10 ^ n * 10 ^ e = pow-add 10 n e in
    let wide : (v + 1) * 10 ^ e ≤ 10 ^ n * 10 ^ e = mul-le-mul_right (10 ^ e) s.high in
    let some : 0 < 10 ^ e = tens_pos e in
    omega (arith, up, apart, wide, some)
