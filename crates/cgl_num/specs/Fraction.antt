-- Fractions, and their text.
use Rattle.std.specs.Prelude.{◌≡◌, ℕ, ℤ, pos, ◌<ℤ◌, ◌<◌, ◌^◌, unsigned_abs, int_div, List, ◌∷◌, ◌++◌, if◌then◌else◌}
use Rattle.std.specs.Ordering.{int_eq}
use Rattle.std.specs.Fmt.{signed_decimal}
use Rattle.cgl_num.specs.Gcd.{gcd}

pub record Fraction : Type 0 where
  pub num : ℤ
  pub den : ℤ

-- the denominator is above 0, both numbers fit 127 bits, and they share no divisor
pub record IsLowest (f : Fraction) : Type 0 where
  pub positive : pos 0 <ℤ f.den
  pub narrow_num : unsigned_abs f.num < 2 ^ 127
  pub narrow_den : unsigned_abs f.den < 2 ^ 127
  pub lowest : gcd (unsigned_abs f.num) (unsigned_abs f.den) ≡ 1

-- num/den in lowest terms
unfoldable pub lowest : ℤ → ℤ → Fraction
lowest num den =
    let g = pos (gcd (unsigned_abs num) (unsigned_abs den)) in
    record { num = int_div num g; den = int_div den g }

-- `num/den`, or `num` alone where den is 1
unfoldable pub fraction_text : Fraction → List ℕ
fraction_text f = if int_eq f.den (pos 1) then signed_decimal f.num else signed_decimal f.num ++ (47 ∷ signed_decimal f.den)
