-- Laws of fractions in lowest terms.
use Rattle.std.proofs.Common.{◌≡◌, ℕ, zero, suc, ℤ, pos, negsuc, ◌/◌, ◌≤◌, ◌<◌, ◌^◌, ap, refl, sym, ◌∙◌, subst, arith, lit<, length, decimal, List, [], ◌∷◌, ◌++◌, ◌+◌, take, set, true, false}
use Rattle.std.specs.Prelude.{◌*ℤ◌, ◌<ℤ◌, unsigned_abs, int_div}
use Rattle.std.specs.Int.{◌∣◌}
use Rattle.std.specs.Fmt.{signed_decimal}
use Rattle.std.proofs.lemmas.Fmt.{length-decimal-le_wide}
use Rattle.std.proofs.Math.Nat.{div-mul_cancel, div-le_self, zero-div}
use Rattle.std.proofs.lemmas.Int.{ints}
use Rattle.std.proofs.Math.IntN.{*ℤ_comm, zero-*ℤ, neg_ℤ}
use Rattle.cgl_num.specs.IntegerLaws.{neg-*ℤ, *ℤ_swap}
use Rattle.std.specs.Ordering.{int_eq}
use Rattle.std.proofs.lemmas.Bool.{cond-true, cond-false, false_from_ne_true}
use Rattle.std.proofs.lemmas.Bool.Decides.{Decides-int_eq}
use Rattle.std.proofs.lemmas.List.{take_more_set, append_assoc}
use Rattle.cgl_num.specs.Gcd.{gcd}
use Rattle.cgl_num.specs.Fraction.{Fraction, IsLowest, lowest, fraction_text}
use Rattle.cgl_num.proofs.GcdLaws.{gcd_is, gcd_above, gcd_quotients}

-- a quotient without remainder gives the number back
pub exact_quotient : (a : ℤ) (g : ℕ) → g ∣ unsigned_abs a → int_div a (pos g) *ℤ pos g ≡ a
exact_quotient (pos a) g d = ap pos (div-mul_cancel g d)
exact_quotient (negsuc a) g d = neg-*ℤ (pos (suc a / g)) (pos g) ∙ ap (λ n. neg_ℤ (pos n)) (div-mul_cancel g d)

abs_neg : (n : ℕ) → unsigned_abs (neg_ℤ (pos n)) ≡ n
abs_neg zero = refl
abs_neg (suc n) = refl

pub abs_quotient : (a : ℤ) (g : ℕ) → unsigned_abs (int_div a (pos g)) ≡ unsigned_abs a / g
abs_quotient (pos a) g = refl
abs_quotient (negsuc a) g = abs_neg (suc a / g)

-- a quotient has the sign of the dividend
pub quotient_above : (q a : ℤ) (g : ℕ) → q *ℤ pos g ≡ a → pos 0 <ℤ a → pos 0 <ℤ q
quotient_above (pos zero) a g e p = absurd (omega (arith, ints, p, sym e ∙ zero-*ℤ (pos g)))
quotient_above (pos (suc n)) a g e p = omega (arith, ints)
quotient_above (negsuc n) a g e p = absurd (omega (arith, ints, p, sym e ∙ neg-*ℤ (pos (suc n)) (pos g)))

-- two quotients by one divisor have the value of the fraction
same_value : (num den g p q : ℤ) → p *ℤ g ≡ num → q *ℤ g ≡ den → p *ℤ den ≡ num *ℤ q
same_value num den g p q e f = ap (λ z. p *ℤ z) (sym f) ∙ *ℤ_swap p q g ∙ ap (λ z. q *ℤ z) e ∙ *ℤ_comm q num

divisor_above : (num den : ℤ) → pos 0 <ℤ den → 0 < gcd (unsigned_abs num) (unsigned_abs den)
divisor_above num den h = gcd_above (unsigned_abs num) (unsigned_abs den) (omega (arith, ints, h))

pub lowest_value : (num den : ℤ) → (lowest num den).num *ℤ den ≡ num *ℤ (lowest num den).den
unfolding lowest
lowest_value num den =
    let g = gcd (unsigned_abs num) (unsigned_abs den) in
    let is = gcd_is (unsigned_abs num) (unsigned_abs den) in
    same_value num den (pos g) _ _ (exact_quotient num g is.0) (exact_quotient den g is.1)

pub lowest_positive : (num den : ℤ) → pos 0 <ℤ den → pos 0 <ℤ (lowest num den).den
unfolding lowest
lowest_positive num den h =
    let g = gcd (unsigned_abs num) (unsigned_abs den) in
    quotient_above _ den g (exact_quotient den g (gcd_is (unsigned_abs num) (unsigned_abs den)).1) h

pub lowest_apart : (num den : ℤ) → pos 0 <ℤ den → gcd (unsigned_abs (lowest num den).num) (unsigned_abs (lowest num den).den) ≡ 1
unfolding lowest
lowest_apart num den h =
    let a = unsigned_abs num in
    let b = unsigned_abs den in
    let g = gcd a b in
    let D : ℕ → Type 0 = λ n. gcd n (unsigned_abs (int_div den (pos g))) ≡ 1 in
    let E : ℕ → Type 0 = λ n. gcd (a / g) n ≡ 1 in
    subst D (sym (abs_quotient num g)) (subst E (sym (abs_quotient den g)) (gcd_quotients a b (divisor_above num den h)))

pub quotient_narrow : (a : ℤ) (g n : ℕ) → unsigned_abs a < n → unsigned_abs (int_div a (pos g)) < n
quotient_narrow a g n h = omega (arith, abs_quotient a g, div-le_self (unsigned_abs a) g, h)

pub lowest_lowest : (num den : ℤ) → unsigned_abs num < 2 ^ 127 → unsigned_abs den < 2 ^ 127 → pos 0 <ℤ den → IsLowest (lowest num den)
unfolding lowest
lowest_lowest num den p q h =
    let g = gcd (unsigned_abs num) (unsigned_abs den) in
    record {
      positive = lowest_positive num den h;
      narrow_num = quotient_narrow num g (2 ^ 127) p;
      narrow_den = quotient_narrow den g (2 ^ 127) q;
      lowest = lowest_apart num den h;
    }

abbrev pub Same : Fraction → Fraction → Type 0
Same f h = f ≡ h

-- the quotients by the gcd are the fraction in lowest terms
pub quotients_are : (num den g p q : ℤ) → g ≡ pos (gcd (unsigned_abs num) (unsigned_abs den)) → p ≡ int_div num g → q ≡ int_div den g
    → Same (record { num = p; den = q }) (lowest num den)
unfolding lowest
quotients_are num den g p q is e f =
    let left : p ≡ int_div num (pos (gcd (unsigned_abs num) (unsigned_abs den))) = e ∙ ap (int_div num) is in
    let right : q ≡ int_div den (pos (gcd (unsigned_abs num) (unsigned_abs den))) = f ∙ ap (int_div den) is in
    rw (left, right) refl

-- the gcd of a numerator and a positive denominator
pub positive_divisor : (num den g : ℤ) → g ≡ pos (gcd (unsigned_abs num) (unsigned_abs den)) → pos 0 <ℤ den → pos 0 <ℤ g
positive_divisor num den g is h = let above = divisor_above num den h in omega (arith, ints, is, above)

-- the numerator keeps its sign
pub lowest_above : (num den : ℤ) → pos 0 <ℤ num → pos 0 <ℤ (lowest num den).num
unfolding lowest
lowest_above num den h = let g = gcd (unsigned_abs num) (unsigned_abs den) in quotient_above _ num g (exact_quotient num g (gcd_is (unsigned_abs num) (unsigned_abs den)).0) h

pub above_lowest : (num den : ℤ) → pos 0 <ℤ (lowest num den).num → pos 0 <ℤ num
unfolding lowest
above_lowest (pos zero) den h = let g = gcd 0 (unsigned_abs den) in absurd (omega (arith, ints, h, zero-div g))
above_lowest (pos (suc n)) den h = omega (arith, ints)
above_lowest (negsuc n) den h = let g = gcd (suc n) (unsigned_abs den) in absurd (omega (arith, ints, h))

-- ---- lengths of texts

pub length_number : (z : ℤ) → unsigned_abs z < 2 ^ 127 → length (signed_decimal z) ≤ 40
length_number (pos n) h = let short : length (decimal n) ≤ 39 = length-decimal-le_wide 39 n (lit< tt) (omega arith) (omega arith) in omega (arith, short)
length_number (negsuc n) h = let short : length (decimal (suc n)) ≤ 39 = length-decimal-le_wide 39 (suc n) (lit< tt) (omega arith) (omega arith) in omega (arith, short)

pub length_positive : (z : ℤ) → pos 0 <ℤ z → unsigned_abs z < 2 ^ 127 → length (signed_decimal z) ≤ 39
length_positive (pos n) p h = length-decimal-le_wide 39 n (lit< tt) (omega arith) (omega arith)
length_positive (negsuc n) p h = absurd (omega (arith, ints, p))

-- ---- texts

pub text_whole : (f : Fraction) → f.den ≡ pos 1 → fraction_text f ≡ signed_decimal f.num
unfolding fraction_text
text_whole f e = let yes : int_eq f.den (pos 1) ≡ true = (Decides-int_eq f.den (pos 1)).1 e in cond-true _ _ _ yes

pub text_parts : (f : Fraction) → (f.den ≡ pos 1 → ⊥) → fraction_text f ≡ signed_decimal f.num ++ (47 ∷ signed_decimal f.den)
unfolding fraction_text
text_parts f ne = let no : int_eq f.den (pos 1) ≡ false = false_from_ne_true _ (λ e. ne ((Decides-int_eq f.den (pos 1)).0 e)) in cond-false _ _ _ no

-- a stroke behind a number, and another number behind it
pub text_joined : (f : Fraction) (out : List ℕ) (end : ℕ) (text : List ℕ) → (f.den ≡ pos 1 → ⊥) → end < length out → take end out ≡ signed_decimal f.num
    → text ≡ take (end + 1) (set out end 47) ++ signed_decimal f.den → text ≡ fraction_text f
text_joined f out end text ne room first is =
    let front : take (end + 1) (set out end 47) ≡ signed_decimal f.num ++ (47 ∷ []) = take_more_set out end 47 room ∙ ap (λ x. x ++ (47 ∷ [])) first in
    is ∙ ap (λ x. x ++ signed_decimal f.den) front ∙ append_assoc (signed_decimal f.num) (47 ∷ []) (signed_decimal f.den) ∙ sym (text_parts f ne)

-- ---- zero

pub lowest_zero : (num den : ℤ) → num ≡ pos 0 → (lowest num den).num ≡ pos 0
unfolding lowest
lowest_zero num den e = let g = gcd (unsigned_abs num) (unsigned_abs den) in ap (λ z. int_div z (pos g)) e ∙ ap pos (zero-div g)

pub zero_lowest : (num den : ℤ) → (lowest num den).num ≡ pos 0 → num ≡ pos 0
unfolding lowest
zero_lowest num den e =
    let g = gcd (unsigned_abs num) (unsigned_abs den) in
    sym (exact_quotient num g (gcd_is (unsigned_abs num) (unsigned_abs den)).0) ∙ ap (λ z. z *ℤ pos g) e ∙ zero-*ℤ (pos g)
