-- When sums and products of fractions fit.
use Rattle.std.proofs.Common.{◌≡◌, ◌⊎◌, ⊎_elim, inl, inr, ℕ, ℤ, pos, ◌≤◌, ◌<◌, ◌^◌, ap, refl, sym, ◌∙◌, subst, arith, Option, Some, None}
use Rattle.std.specs.Prelude.{◌+ℤ◌, ◌-ℤ◌, ◌*ℤ◌, ◌<ℤ◌, unsigned_abs, int_div, ◌↔◌}
use Rattle.std.specs.Option.{MatchOption}
use Rattle.std.proofs.lemmas.Int.{ints, by_lt_z}
use Rattle.std.proofs.Math.IntN.{neg_ℤ}
use Rattle.cgl_num.specs.IntegerLaws.{neg-*ℤ}
use Rattle.cgl_num.specs.Gcd.{gcd}
use Rattle.cgl_num.specs.Fraction.{Fraction, IsLowest, lowest}
use Rattle.cgl_num.specs.FractionArithmetic.{plus, minus, times, IsWide, IsWideFraction, SumOverflows, DifferenceOverflows, IsSum}
use Rattle.cgl_num.proofs.GcdLaws.{gcd_is, gcd_above}
use Rattle.cgl_num.proofs.FractionLaws.{exact_quotient, quotient_above, Same}
use Rattle.cgl_num.proofs.ArithmeticLaws.{abs_negated, gcd_swap, times_is, lowest_as, positive_product, plus_is, coprime_sum, coprime_parts, quotient_divides, quotients_apart}
use Rattle.std.proofs.lemmas.Nat.Gcd.{dvd_refl}

pub match_weaker : {A : Type 0} {P P' : Type 0} {Q Q' : A → Type 0} (r : Option A) → (P → P') → ((x : A) → Q x → Q' x) → MatchOption r P Q → MatchOption r P' Q'
match_weaker None f g h = f h
match_weaker (Some x) f g h = g x h

-- what a sum is computed from: the common divisor of the denominators, and both by it
pub record SumParts (f h : Fraction) (g x y : ℤ) : Type 0 where
  pub left : IsLowest f
  pub right : IsLowest h
  pub divisor : g ≡ pos (gcd (unsigned_abs f.den) (unsigned_abs h.den))
  pub rest : x ≡ int_div f.den g
  pub other : y ≡ int_div h.den g

abbrev pub Terms : Fraction → Fraction → ℤ → ℤ → Type 0
Terms f h x y = IsWide (f.num *ℤ y) ⊎ IsWide (h.num *ℤ x) ⊎ IsWide (f.num *ℤ y +ℤ h.num *ℤ x)

pub divisor_positive : (f h : Fraction) (g : ℤ) → IsLowest h → g ≡ pos (gcd (unsigned_abs f.den) (unsigned_abs h.den)) → pos 0 <ℤ g
divisor_positive f h g low is =
    let above = gcd_above (unsigned_abs f.den) (unsigned_abs h.den) (omega (arith, ints, low.positive)) in
    omega (arith, ints, is, above)

pub rest_positive : (f h : Fraction) (g x y : ℤ) → SumParts f h g x y → pos 0 <ℤ x
rest_positive f h g x y p =
    let k = gcd (unsigned_abs f.den) (unsigned_abs h.den) in
    let x_is : x ≡ int_div f.den (pos k) = p.rest ∙ ap (int_div f.den) p.divisor in
    quotient_above x f.den k (ap (λ z. z *ℤ pos k) x_is ∙ exact_quotient f.den k (gcd_is _ _).0) p.left.positive

pub sum_apart : (f h : Fraction) (g x y t : ℤ) → SumParts f h g x y → t ≡ f.num *ℤ y +ℤ h.num *ℤ x → gcd (unsigned_abs t) (unsigned_abs x) ≡ 1
sum_apart f h g x y t p is =
    let k = gcd (unsigned_abs f.den) (unsigned_abs h.den) in
    let some : 0 < k = gcd_above (unsigned_abs f.den) (unsigned_abs h.den) (omega (arith, ints, p.right.positive)) in
    let x_is : x ≡ int_div f.den (pos k) = p.rest ∙ ap (int_div f.den) p.divisor in
    let y_is : y ≡ int_div h.den (pos k) = p.other ∙ ap (int_div h.den) p.divisor in
    let x' = int_div f.den (pos k) in
    let y' = int_div h.den (pos k) in
    let own : gcd (unsigned_abs f.num) (unsigned_abs x') ≡ 1 =
    coprime_parts (unsigned_abs f.num) (unsigned_abs f.den) _ _ p.left.lowest (dvd_refl _) (quotient_divides f.den k (gcd_is _ _).0) in
    rw (is, x_is, y_is) (coprime_sum f.num h.num x' y' (quotients_apart f.den h.den some) own)

sum_is : (f h : Fraction) (g x y t : ℤ) → SumParts f h g x y → t ≡ f.num *ℤ y +ℤ h.num *ℤ x → plus f h ≡ lowest t (x *ℤ h.den)
sum_is f h g x y t p is = rw (is, p.rest, p.other) (plus_is f h p.right.positive g p.divisor)

-- a term or the sum is wide
pub terms_overflow : (f h : Fraction) (g x y : ℤ) → SumParts f h g x y → Terms f h x y → SumOverflows f h
terms_overflow f h g x y p w =
    let w' = rw (p.rest, p.other, p.divisor) at w in
    ⊎_elim (λ l. inl l) (λ r. inr (⊎_elim (λ l. inl l) (λ s. inr (inl s)) r)) w'

-- the reduced denominator is wide
pub den_overflows : (f h : Fraction) (g x y t : ℤ) → SumParts f h g x y → t ≡ f.num *ℤ y +ℤ h.num *ℤ x → IsWide (lowest t (x *ℤ h.den)).den → SumOverflows f h
den_overflows f h g x y t p is w = inr (inr (inr (subst (λ q. IsWide q.den) (sym (sum_is f h g x y t p is)) w)))

-- nothing is wide
pub sum_fits : (f h : Fraction) (g x y t : ℤ) (s : Fraction) → SumParts f h g x y → t ≡ f.num *ℤ y +ℤ h.num *ℤ x → unsigned_abs t < 2 ^ 127
    → unsigned_abs (f.num *ℤ y) < 2 ^ 127 → unsigned_abs (h.num *ℤ x) < 2 ^ 127 → s ≡ lowest t (x *ℤ h.den) → IsLowest s → IsSum f h s
sum_fits f h g x y t s p is narrow left right s_is low =
    let whole : s ≡ plus f h = s_is ∙ sym (sum_is f h g x y t p is) in
    let den : unsigned_abs (plus f h).den < 2 ^ 127 = subst (λ q. unsigned_abs q.den < 2 ^ 127) whole low.narrow_den in
    let both : unsigned_abs (f.num *ℤ y +ℤ h.num *ℤ x) < 2 ^ 127 = subst (λ z. unsigned_abs z < 2 ^ 127) is narrow in
    let left' = rw (p.other, p.divisor) at left in
    let right' = rw (p.rest, p.divisor) at right in
    let both' = rw (p.rest, p.other, p.divisor) at both in
    (whole, low, λ w. ⊎_elim (λ a. absurd (omega (arith, a, left'))) (λ r. ⊎_elim (λ b. absurd (omega (arith, b, right'))) (λ q. ⊎_elim (λ c. absurd (omega (arith, c, both'))) (λ d. absurd (omega (arith, d, den))) q) r) w)

-- ---- differences

abbrev pub opposite : Fraction → Fraction
opposite h = record { num = neg_ℤ h.num; den = h.den }

pub plus_opposite : (f h : Fraction) → plus f (opposite h) ≡ minus f h
plus_opposite f h =
    let is : f.num *ℤ h.den +ℤ neg_ℤ h.num *ℤ f.den ≡ f.num *ℤ h.den -ℤ h.num *ℤ f.den = rw (neg-*ℤ h.num f.den) (omega (arith, ints)) in
    ap (λ z. lowest z (f.den *ℤ h.den)) is

either4 : {A B C D A' B' C' D' : Type 0} → (A → A') → (B → B') → (C → C') → (D → D') → A ⊎ B ⊎ C ⊎ D → A' ⊎ B' ⊎ C' ⊎ D'
either4 p q r s = ⊎_elim (λ a. inl (p a)) (λ t. inr (⊎_elim (λ b. inl (q b)) (λ u. inr (⊎_elim (λ c. inl (r c)) (λ d. inr (s d)) u)) t))

-- the difference overflows exactly where the sum with the opposite does
pub difference_overflows : (f h : Fraction) → SumOverflows f (opposite h) ↔ DifferenceOverflows f h
difference_overflows f h =
    let g = pos (gcd (unsigned_abs f.den) (unsigned_abs h.den)) in
    let left = f.num *ℤ int_div h.den g in
    let right = h.num *ℤ int_div f.den g in
    let turned : neg_ℤ h.num *ℤ int_div f.den g ≡ neg_ℤ right = neg-*ℤ h.num (int_div f.den g) in
    let second : unsigned_abs (neg_ℤ h.num *ℤ int_div f.den g) ≡ unsigned_abs right = ap unsigned_abs turned ∙ abs_negated right in
    let third : unsigned_abs (left +ℤ neg_ℤ h.num *ℤ int_div f.den g) ≡ unsigned_abs (left -ℤ right) = ap (λ z. unsigned_abs (left +ℤ z)) turned in
    let fourth : unsigned_abs (plus f (opposite h)).den ≡ unsigned_abs (minus f h).den = ap (λ q. unsigned_abs q.den) (plus_opposite f h) in
    let W : ℕ → Type 0 = λ n. 2 ^ 127 ≤ n in
    (either4 (λ a. a) (subst W second) (subst W third) (subst W fourth), either4 (λ a. a) (subst W (sym second)) (subst W (sym third)) (subst W (sym fourth)))

-- ---- products

-- what a product is computed from: what each numerator shares with the other denominator
pub record ProductParts (f h : Fraction) (g k : ℤ) : Type 0 where
  pub left : IsLowest f
  pub right : IsLowest h
  pub left_divisor : g ≡ pos (gcd (unsigned_abs f.num) (unsigned_abs h.den))
  pub right_divisor : k ≡ pos (gcd (unsigned_abs h.num) (unsigned_abs f.den))

pub left_positive : (f h : Fraction) (g : ℤ) → IsLowest h → g ≡ pos (gcd (unsigned_abs f.num) (unsigned_abs h.den)) → pos 0 <ℤ g
left_positive f h g low is =
    let above = gcd_above (unsigned_abs f.num) (unsigned_abs h.den) (omega (arith, ints, low.positive)) in
    omega (arith, ints, is, above)

pub product_made : (f h : Fraction) (g k p q : ℤ) → ProductParts f h g k → p ≡ int_div f.num g *ℤ int_div h.num k → q ≡ int_div f.den k *ℤ int_div h.den g
    → Same (record { num = p; den = q }) (times f h)
product_made f h g k p q parts p_is q_is =
    rw (p_is, q_is) (times_is f.num f.den h.num h.den parts.left.positive parts.right.positive parts.left.lowest parts.right.lowest g k parts.left_divisor parts.right_divisor)

pub num_wide : (f h : Fraction) (g k : ℤ) → ProductParts f h g k → IsWide (int_div f.num g *ℤ int_div h.num k) → IsWideFraction (times f h)
num_wide f h g k parts w = inl (subst (λ q. IsWide q.num) (product_made f h g k _ _ parts refl refl) w)

pub den_wide : (f h : Fraction) (g k : ℤ) → ProductParts f h g k → IsWide (int_div f.den k *ℤ int_div h.den g) → IsWideFraction (times f h)
den_wide f h g k parts w = inr (subst (λ q. IsWide q.den) (product_made f h g k _ _ parts refl refl) w)

pub product_lowest : (f h : Fraction) (g k p q : ℤ) → ProductParts f h g k → p ≡ int_div f.num g *ℤ int_div h.num k → q ≡ int_div f.den k *ℤ int_div h.den g
    → unsigned_abs p < 2 ^ 127 → unsigned_abs q < 2 ^ 127 → IsLowest (record { num = p; den = q })
product_lowest f h g k p q parts p_is q_is p_narrow q_narrow =
    lowest_as _ (f.num *ℤ h.num) (f.den *ℤ h.den) (product_made f h g k p q parts p_is q_is) (positive_product f.den h.den parts.left.positive parts.right.positive) p_narrow q_narrow

-- a fraction that fits is not wide
pub lowest_fits : (f h : Fraction) → f ≡ h → IsLowest f → IsWideFraction h → ⊥
lowest_fits f h e low w =
    let w' = rw (sym e) at w in
    ⊎_elim (λ a. absurd (omega (arith, a, low.narrow_num))) (λ b. absurd (omega (arith, b, low.narrow_den))) w'

-- ---- reciprocals

pub upright_lowest : (f : Fraction) → IsLowest f → pos 0 <ℤ f.num → IsLowest (record { num = f.den; den = f.num })
upright_lowest f low h = record {
  positive = h;
  narrow_num = low.narrow_den;
  narrow_den = low.narrow_num;
  lowest = gcd_swap (unsigned_abs f.den) (unsigned_abs f.num) ∙ low.lowest;
}

pub turned_lowest : (f : Fraction) → IsLowest f → (pos 0 <ℤ f.num → ⊥) → (f.num ≡ pos 0 → ⊥) → IsLowest (record { num = neg_ℤ f.den; den = neg_ℤ f.num })
turned_lowest f low above zero = record {
  positive = by_lt_z f.num (pos 0) (λ l. omega (arith, ints, l)) (λ le. by_lt_z (pos 0) f.num (λ l. absurd (above l)) (λ ge. absurd (zero (omega (arith, ints, le, ge)))));
  narrow_num = rw (abs_negated f.den) low.narrow_den;
  narrow_den = rw (abs_negated f.num) low.narrow_num;
  lowest = rw (abs_negated f.den, abs_negated f.num) (gcd_swap (unsigned_abs f.den) (unsigned_abs f.num) ∙ low.lowest);
}
