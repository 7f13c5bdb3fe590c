-- Values over a common denominator, within the limits.
use Rattle.std.specs.Prelude.{ℕ, ◌^◌, nat_lt, nat_le, ℤ, pos, ◌<ℤ◌, unsigned_abs, ◌&&◌, if◌then◌else◌, List, [], ◌∷◌, Option, Some, None}
use Rattle.cgl_num.specs.Fraction.{Fraction}
use Rattle.cgl_num.specs.NumberText.{Word, is_digits, natural}

abbrev pub ArePositive : List Fraction → Type 0
ArePositive [] = Unit {0}
ArePositive (f ∷ fs) = (pos 0 <ℤ f.den) × ArePositive fs

-- a denominator, unless it is above 2^62
abbrev pub fitting_denominator : ℕ → Option ℕ
fitting_denominator n = if nat_lt (2 ^ 62) n then None else Some n

-- a numerator, unless it reaches 2^100
abbrev pub fitting_numerator : ℤ → Option ℤ
fitting_numerator z = if nat_le (2 ^ 100) (unsigned_abs z) then None else Some z

-- the number of one digit or more, where it is below 10^36
abbrev pub fitting_natural : Word → Option ℕ
fitting_natural digits = if is_digits digits && nat_lt (natural digits) (10 ^ 36) then Some (natural digits) else None
