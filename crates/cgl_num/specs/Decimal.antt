-- Decimal numbers `m * 10^e`, their limits and their text.
use Rattle.std.specs.Prelude.{◌≡◌, ℕ, zero, suc, ◌+◌, ◌-◌, ◌*◌, ◌/◌, ◌%◌, ◌^◌, ◌<◌, nat_lt, ℤ, pos, negsuc, ◌*ℤ◌, ◌≤ℤ◌, int_div, unsigned_abs, Bool, ◌&&◌, List, [], ◌∷◌, ◌++◌, length, if◌then◌else◌, Option, Some, None, decimal, replicate}

pub record Decimal : Type 0 where
  pub m : ℤ
  pub e : ℤ

-- m * 10^e where e is at least 0, and m where it is not
abbrev pub times_power : ℤ → ℤ → ℤ
times_power m (pos e) = m *ℤ pos (10 ^ e)
times_power m (negsuc e) = m

-- how many times 10 divides a number above 0, in at most n steps
abbrev pub zeros_within : ℕ → ℕ → ℕ
zeros_within zero number = 0
zeros_within (suc n) number = elim (number % 10) [ zero ↦ suc (zeros_within n (number / 10)) | suc r ↦ 0 ]

-- m is not divisible by 10, or both are 0
pub record IsNormal (d : Decimal) : Type 0 where
  pub digit : (unsigned_abs d.m % 10 ≡ 0) → d.m ≡ pos 0
  pub zero : d.m ≡ pos 0 → d.e ≡ pos 0

-- |m| < 10^24, e >= -30, |m * 10^e| < 10^36
pub record IsWithin (d : Decimal) : Type 0 where
  pub digits : unsigned_abs d.m < 10 ^ 24
  pub scale : negsuc 29 ≤ℤ d.e
  pub size : unsigned_abs (times_power d.m d.e) < 10 ^ 36

pub record IsDecimal (d : Decimal) : Type 0 where
  pub normal : IsNormal d
  pub within : IsWithin d

abbrev pub zero_decimal : Decimal
zero_decimal = record { m = pos 0; e = pos 0 }

-- the number n as `m * 10^e`
abbrev pub normal_of : ℤ → Decimal
normal_of (pos zero) = zero_decimal
normal_of (pos (suc n)) = let k = zeros_within (suc n) (suc n) in record { m = pos (suc n / 10 ^ k); e = pos k }
normal_of (negsuc n) = let k = zeros_within (suc n) (suc n) in record { m = int_div (negsuc n) (pos (10 ^ k)); e = pos k }

-- the whole number n, where it is within the limits
unfoldable pub decimal_of : ℤ → Option Decimal
decimal_of n = if nat_lt (unsigned_abs (normal_of n).m) (10 ^ 24) && nat_lt (unsigned_abs n) (10 ^ 36) then Some (normal_of n) else None

-- ---- text

abbrev pub sign_text : ℤ → List ℕ → List ℕ
sign_text (pos n) text = text
sign_text (negsuc n) text = 45 ∷ text

abbrev pub minus : Bool → List ℕ
minus negative = if negative then 45 ∷ [] else []

-- the digits of n, with zeros in front, k in all
abbrev pub padded : ℕ → ℕ → List ℕ
padded k n = replicate (k - length (decimal n)) 48 ++ decimal n

-- all digits; the last k of them behind a point
abbrev pub magnitude_text : ℕ → ℤ → List ℕ
magnitude_text m (pos e) = decimal (m * 10 ^ e)
magnitude_text m (negsuc e) = decimal (m / 10 ^ suc e) ++ (46 ∷ padded (suc e) (m % 10 ^ suc e))

-- plain digits, with a point only where e is below 0
unfoldable pub decimal_text : Decimal → List ℕ
decimal_text d = sign_text d.m (magnitude_text (unsigned_abs d.m) d.e)

-- ---- multiples by powers of ten

-- m * 10^(e + k), which is whole where e is at least -k; for a smaller e it is m
abbrev pub scaled_by : ℕ → ℤ → ℤ → ℤ
scaled_by k m (pos e) = m *ℤ pos (10 ^ (e + k))
scaled_by k m (negsuc e) = m *ℤ pos (10 ^ (k - suc e))

abbrev pub scaled : ℕ → Decimal → ℤ
scaled k d = scaled_by k d.m d.e

-- the least k, at least 0, for which 10^k times the number is whole
abbrev pub places_in : ℤ → ℕ
places_in (pos e) = 0
places_in (negsuc e) = suc e

abbrev pub places : Decimal → ℕ
places d = places_in d.e
