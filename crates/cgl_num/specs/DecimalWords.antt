-- The mantissa of a decimal as a sign and two words.
use Rattle.std.proofs.Common.{◌≡◌, ℕ, zero, suc, ◌+◌, ◌*◌, ◌/◌, ◌%◌, ◌^◌, ◌<◌, Bool, true, false, cond, refl, ap, ◌∙◌, arith}
use Rattle.std.specs.Prelude.{ℤ, pos, unsigned_abs, neg_ℤ}
use Rattle.std.specs.Int.Signed.{lt_z}
use Rattle.std.proofs.lemmas.Nat.{shr_high}
use Rattle.std.proofs.lemmas.Bool.Decides.{nat_tests}
use Rattle.cgl_num.specs.Decimal.{IsDecimal}

abbrev pub magnitude : ℕ → ℕ → ℕ
magnitude high low = high * 2 ^ 64 + low

abbrev pub mantissa : Bool → ℕ → ℕ → ℤ
mantissa negative high low = cond negative (neg_ℤ (pos (magnitude high low))) (pos (magnitude high low))

-- low is a word, and 0 has no sign, so that one sign and two words stand for each mantissa
pub record IsPacked (negative : Bool) (high low : ℕ) (e : ℤ) : Type 0 where
  pub decimal : IsDecimal (record { m = mantissa negative high low; e = e })
  pub word : low < 2 ^ 64
  pub sign : negative ≡ true → 0 < magnitude high low

keeps : (negative : Bool) (n : ℕ) → unsigned_abs (cond negative (neg_ℤ (pos n)) (pos n)) ≡ n
keeps true zero = refl
keeps true (suc n) = refl
keeps false n = refl

sign_of : (negative : Bool) (n : ℕ) → (negative ≡ true → 0 < n) → lt_z (cond negative (neg_ℤ (pos n)) (pos n)) (pos 0) ≡ negative
sign_of true zero some = absurd (omega (arith, some refl))
sign_of true (suc n) some = refl
sign_of false n some = grind (arith, nat_tests)

pub low_back : (negative : Bool) (high low : ℕ) → low < 2 ^ 64 → unsigned_abs (mantissa negative high low) % 2 ^ 64 ≡ low
low_back negative high low word = ap (λ n. n % 2 ^ 64) (keeps negative (magnitude high low)) ∙ omega (arith, word)

pub high_back : (negative : Bool) (high low : ℕ) → low < 2 ^ 64 → unsigned_abs (mantissa negative high low) / 2 ^ 64 ≡ high
high_back negative high low word = ap (λ n. n / 2 ^ 64) (keeps negative (magnitude high low)) ∙ shr_high high 64 low word

pub sign_back : (negative : Bool) (high low : ℕ) → (negative ≡ true → 0 < magnitude high low) → lt_z (mantissa negative high low) (pos 0) ≡ negative
sign_back negative high low some = sign_of negative (magnitude high low) some
