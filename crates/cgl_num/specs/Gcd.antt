-- The greatest common divisor, by Euclid's steps.
use Rattle.std.specs.Prelude.{ℕ, zero, suc, ◌%◌, ℤ, unsigned_abs, List, [], ◌∷◌}

-- at most n steps
abbrev pub gcd_within : ℕ → ℕ → ℕ → ℕ
gcd_within zero a b = a
gcd_within (suc n) a zero = a
gcd_within (suc n) a (suc b) = gcd_within n (suc b) (a % suc b)

-- gcd 0 0 is 0
unfoldable pub gcd : ℕ → ℕ → ℕ
gcd a b = gcd_within b a b

-- of the magnitudes of all; of none it is 0
unfoldable pub gcd_of : List ℤ → ℕ
gcd_of [] = 0
gcd_of (z ∷ zs) = gcd (unsigned_abs z) (gcd_of zs)
