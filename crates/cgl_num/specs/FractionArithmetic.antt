-- Sums, products and quotients of fractions, and where they do not fit 127 bits.
use Rattle.std.specs.Prelude.{◌≡◌, ◌⊎◌, suc, ℤ, pos, negsuc, neg_ℤ, ◌+ℤ◌, ◌-ℤ◌, ◌*ℤ◌, ◌≤ℤ◌, ◌<ℤ◌, ◌≤◌, ◌-◌, ◌^◌, unsigned_abs, int_div}
use Rattle.std.specs.declared.cmp.Ordering.{Ordering}
use Rattle.std.specs.Ordering.{int_cmp, then_cmp, on}
use Rattle.cgl_num.specs.Gcd.{gcd}
use Rattle.cgl_num.specs.Fraction.{Fraction, IsLowest, lowest}

abbrev pub IsWide : ℤ → Type 0
IsWide z = 2 ^ 127 ≤ unsigned_abs z

abbrev pub plus : Fraction → Fraction → Fraction
plus f h = lowest (f.num *ℤ h.den +ℤ h.num *ℤ f.den) (f.den *ℤ h.den)

abbrev pub minus : Fraction → Fraction → Fraction
minus f h = lowest (f.num *ℤ h.den -ℤ h.num *ℤ f.den) (f.den *ℤ h.den)

abbrev pub times : Fraction → Fraction → Fraction
times f h = lowest (f.num *ℤ h.num) (f.den *ℤ h.den)

-- den/num, with a denominator above 0 where num is not 0
abbrev pub reciprocal_of : ℤ → ℤ → Fraction
reciprocal_of (pos n) den = record { num = den; den = pos n }
reciprocal_of (negsuc n) den = record { num = neg_ℤ den; den = pos (suc n) }

abbrev pub reciprocal : Fraction → Fraction
reciprocal f = reciprocal_of f.num f.den

abbrev pub over : Fraction → Fraction → Fraction
over f h = times f (reciprocal h)

-- over the least common denominator a term is wide, or the sum is, or the reduced denominator
abbrev pub SumOverflows : Fraction → Fraction → Type 0
SumOverflows f h =
    let g = pos (gcd (unsigned_abs f.den) (unsigned_abs h.den)) in
    let left = f.num *ℤ int_div h.den g in
    let right = h.num *ℤ int_div f.den g in
    IsWide left ⊎ IsWide right ⊎ IsWide (left +ℤ right) ⊎ IsWide (plus f h).den

-- s is the sum of f and h, and nothing overflows on the way
abbrev pub IsSum : Fraction → Fraction → Fraction → Type 0
IsSum f h s = (s ≡ plus f h) × IsLowest s × (SumOverflows f h → ⊥)

abbrev pub DifferenceOverflows : Fraction → Fraction → Type 0
DifferenceOverflows f h =
    let g = pos (gcd (unsigned_abs f.den) (unsigned_abs h.den)) in
    let left = f.num *ℤ int_div h.den g in
    let right = h.num *ℤ int_div f.den g in
    IsWide left ⊎ IsWide right ⊎ IsWide (left -ℤ right) ⊎ IsWide (minus f h).den

-- a fraction in lowest terms that does not fit
abbrev pub IsWideFraction : Fraction → Type 0
IsWideFraction f = IsWide f.num ⊎ IsWide f.den

-- ---- whole and fractional part

-- the greatest whole number that is not above f
pub record IsFloor (f : Fraction) (n : ℤ) : Type 0 where
  pub below : (n *ℤ f.den) ≤ℤ f.num
  pub above : f.num <ℤ ((n +ℤ pos 1) *ℤ f.den)

-- f less a whole number
abbrev pub less_whole : Fraction → ℤ → Fraction
less_whole f n = record { num = f.num -ℤ n *ℤ f.den; den = f.den }

-- the order of the rational numbers, by the cross products
abbrev pub fraction_cmp : Fraction → Fraction → Ordering
fraction_cmp f h = int_cmp (f.num *ℤ h.den) (h.num *ℤ f.den)

-- a denominator above 0 for every record, so that there is one order of all of them
abbrev pub order_den : Fraction → ℤ
order_den f = pos (suc (unsigned_abs f.den - 1))

abbrev pub cross_cmp : Fraction → Fraction → Ordering
cross_cmp f h = int_cmp (f.num *ℤ order_den h) (h.num *ℤ order_den f)

-- what `cmp` computes: the order of the rational numbers, at fractions in lowest terms
abbrev pub fraction_order : Fraction → Fraction → Ordering
fraction_order = then_cmp cross_cmp (on (λ f. f.den) int_cmp)
