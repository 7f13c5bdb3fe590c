-- The order of fractions with one sign, by the magnitudes.
use Rattle.std.proofs.Common.{◌≡◌, ℕ, ◌*◌, ◌<◌, ap, ap₂, ◌∙◌, sym, rules, arith, true, false}
use Rattle.std.specs.Prelude.{ℤ, pos, ◌*ℤ◌, ◌<ℤ◌, ◌≤ℤ◌, unsigned_abs}
use Rattle.std.specs.Int.Signed.{lt_z}
use Rattle.std.specs.Ordering.{nat_cmp, int_cmp}
use Rattle.std.specs.declared.cmp.Ordering.TheVariants.{Less, Greater}
use Rattle.std.proofs.lemmas.Grind.{common_steps}
use Rattle.std.proofs.lemmas.Int.{ints}
use Rattle.cgl_num.specs.Fraction.{Fraction, IsLowest}
use Rattle.cgl_num.specs.FractionArithmetic.{fraction_cmp}
use Rattle.cgl_num.proofs.NumberLawsRange.{from_less, from_not_less}

both_below : (a b c d : ℤ) → a <ℤ pos 0 → c <ℤ pos 0 → pos 0 <ℤ b → pos 0 <ℤ d → nat_cmp (unsigned_abs c * unsigned_abs b) (unsigned_abs a * unsigned_abs d) ≡ int_cmp (a *ℤ d) (c *ℤ b)
both_below a b c d h k l m = grind (arith, common_steps)

none_below : (a b c d : ℤ) → pos 0 ≤ℤ a → pos 0 ≤ℤ c → pos 0 <ℤ b → pos 0 <ℤ d → nat_cmp (unsigned_abs a * unsigned_abs d) (unsigned_abs c * unsigned_abs b) ≡ int_cmp (a *ℤ d) (c *ℤ b)
none_below a b c d h k l m = search rules

-- the parts of two fractions as numbers with a sign, and their magnitudes
pub record IsPair (f h : Fraction) (x u y v : ℤ) (a b c d : ℕ) : Type 0 where
  pub left : IsLowest f
  pub right : IsLowest h
  pub num : x ≡ f.num
  pub den : u ≡ f.den
  pub other_num : y ≡ h.num
  pub other_den : v ≡ h.den
  pub num_size : a ≡ unsigned_abs x
  pub den_size : b ≡ unsigned_abs u
  pub other_num_size : c ≡ unsigned_abs y
  pub other_den_size : d ≡ unsigned_abs v

product : (m n : ℕ) (x y z w : ℤ) → m ≡ unsigned_abs x → x ≡ z → n ≡ unsigned_abs y → y ≡ w → m * n ≡ unsigned_abs z * unsigned_abs w
product m n x y z w p q r s = ap₂ (λ i j. i * j) (p ∙ ap unsigned_abs q) (r ∙ ap unsigned_abs s)

pub order_below : (f h : Fraction) (x u y v : ℤ) (a b c d : ℕ) → IsPair f h x u y v a b c d → lt_z x (pos 0) ≡ true → lt_z y (pos 0) ≡ true
    → nat_cmp (c * b) (a * d) ≡ fraction_cmp f h
order_below f h x u y v a b c d is left right =
    ap₂ nat_cmp (product c b y u h.num f.den is.other_num_size is.other_num is.den_size is.den) (product a d x v f.num h.den is.num_size is.num is.other_den_size is.other_den)
    ∙ both_below f.num f.den h.num h.den (from_less _ _ (ap (λ z. lt_z z (pos 0)) (sym is.num) ∙ left)) (from_less _ _ (ap (λ z. lt_z z (pos 0)) (sym is.other_num) ∙ right)) is.left.positive is.right.positive

pub order_not_below : (f h : Fraction) (x u y v : ℤ) (a b c d : ℕ) → IsPair f h x u y v a b c d → lt_z x (pos 0) ≡ false → lt_z y (pos 0) ≡ false
    → nat_cmp (a * d) (c * b) ≡ fraction_cmp f h
order_not_below f h x u y v a b c d is left right =
    ap₂ nat_cmp (product a d x v f.num h.den is.num_size is.num is.other_den_size is.other_den) (product c b y u h.num f.den is.other_num_size is.other_num is.den_size is.den)
    ∙ none_below f.num f.den h.num h.den (from_not_less _ _ (ap (λ z. lt_z z (pos 0)) (sym is.num) ∙ left)) (from_not_less _ _ (ap (λ z. lt_z z (pos 0)) (sym is.other_num) ∙ right)) is.left.positive is.right.positive

less_below : (a b c d : ℤ) → a <ℤ pos 0 → pos 0 ≤ℤ c → pos 0 <ℤ b → pos 0 <ℤ d → Less ≡ int_cmp (a *ℤ d) (c *ℤ b)
less_below a b c d h k l m = grind (arith, common_steps)

greater_below : (a b c d : ℤ) → pos 0 ≤ℤ a → c <ℤ pos 0 → pos 0 <ℤ b → pos 0 <ℤ d → Greater ≡ int_cmp (a *ℤ d) (c *ℤ b)
greater_below a b c d h k l m = grind (arith, common_steps)

-- only the left one is below 0
pub order_less : (f h : Fraction) (x y : ℤ) → IsLowest f → IsLowest h → x ≡ f.num → y ≡ h.num → lt_z x (pos 0) ≡ true → lt_z y (pos 0) ≡ false → Less ≡ fraction_cmp f h
order_less f h x y f_is h_is x_is y_is left right =
    less_below f.num f.den h.num h.den (from_less _ _ (ap (λ z. lt_z z (pos 0)) (sym x_is) ∙ left)) (from_not_less _ _ (ap (λ z. lt_z z (pos 0)) (sym y_is) ∙ right)) f_is.positive h_is.positive

-- only the right one is below 0
pub order_greater : (f h : Fraction) (x y : ℤ) → IsLowest f → IsLowest h → x ≡ f.num → y ≡ h.num → lt_z x (pos 0) ≡ false → lt_z y (pos 0) ≡ true → Greater ≡ fraction_cmp f h
order_greater f h x y f_is h_is x_is y_is left right =
    greater_below f.num f.den h.num h.den (from_not_less _ _ (ap (λ z. lt_z z (pos 0)) (sym x_is) ∙ left)) (from_less _ _ (ap (λ z. lt_z z (pos 0)) (sym y_is) ∙ right)) f_is.positive h_is.positive

-- the magnitude of a denominator
pub den_above : (f : Fraction) (u : ℤ) (b : ℕ) → IsLowest f → u ≡ f.den → b ≡ unsigned_abs u → 0 < b
den_above f u b is den size = let above = is.positive in omega (arith, ints, above, den, size)
