-- The order of fractions, by their whole parts and their rests.
use Rattle.std.proofs.Common.{◌≡◌, ◌⊎◌, ℕ, ◌+◌, ◌*◌, ◌/◌, ◌%◌, ◌≤◌, ◌<◌, ap, sym, ◌∙◌, arith, ⊎_elim, inl, inr, refl, subst}
use Rattle.std.specs.Prelude.{ℤ, pos, negsuc, ◌+ℤ◌, ◌-ℤ◌, ◌*ℤ◌, ◌≤ℤ◌, ◌<ℤ◌, unsigned_abs}
use Rattle.std.specs.Int.{int_div_euclid, int_rem_euclid}
use Rattle.std.specs.Ordering.{nat_cmp}
use Rattle.std.specs.declared.cmp.Ordering.TheVariants.{Less, Equal, Greater}
use Rattle.std.specs.Cmp.{nat_cmp_is}
use Rattle.std.proofs.lemmas.Bool.{cases_lt}
use Rattle.std.proofs.Math.Nat.{mul-lt-mul_of_pos_right, mul-le-mul_right, mod-lt, dvd-mul_left_of_dvd, eq-one_of_dvd-one}
use Rattle.std.proofs.lemmas.Nat.{div-add-mod'}
use Rattle.std.proofs.lemmas.Int.{ints, unsigned_abs-mul}
use Rattle.std.proofs.Math.IntN.{neg_ℤ, *ℤ_comm}
use Rattle.std.specs.Int.{◌∣◌}
use Rattle.cgl_num.specs.IntegerLaws.{neg-*ℤ, cancel_left}
use Rattle.cgl_num.specs.Gcd.{gcd}
use Rattle.cgl_num.specs.Fraction.{Fraction, IsLowest}
use Rattle.cgl_num.specs.FractionArithmetic.{IsFloor, less_whole}
use Rattle.cgl_num.proofs.FractionLaws.{Same}
use Rattle.cgl_num.proofs.GcdLaws.{gcd_is}
use Rattle.cgl_num.proofs.ArithmeticLaws.{divides_sum}

-- two comparisons that go alike
same_order : (x y u v : ℕ) → (x < y → u < v) → (x ≡ y → u ≡ v) → (y < x → v < u) → nat_cmp x y ≡ nat_cmp u v
same_order x y u v less same more =
    ⊎_elim (λ l. sym (nat_cmp_is x y Less l) ∙ nat_cmp_is u v Less (less l))
    (λ ge. ⊎_elim (λ g. sym (nat_cmp_is x y Greater g) ∙ nat_cmp_is u v Greater (more g))
    (λ le. let e : x ≡ y = omega arith in sym (nat_cmp_is x y Equal e) ∙ nat_cmp_is u v Equal (same e)) (cases_lt y x))
    (cases_lt x y)

-- different whole parts decide
below : (a b c d : ℕ) → 0 < b → 0 < d → a / b < c / d → a * d < c * b
below a b c d h k l =
    let top : a < (a / b + 1) * b = omega (arith, div-add-mod' a b, mod-lt a h) in
    let one : a * d < ((a / b + 1) * b) * d = mul-lt-mul_of_pos_right top k in
    let two : (a / b + 1) * (b * d) ≤ (c / d) * (b * d) = mul-le-mul_right (b * d) (omega arith) in
    let low : (c / d) * d ≤ c = omega (arith, div-add-mod' c d) in
    let three : ((c / d) * d) * b ≤ c * b = mul-le-mul_right b low in
    omega (arith, one, two, three)

pub by_quotients : (a b c d : ℕ) → 0 < b → 0 < d → (a / b ≡ c / d → ⊥) → nat_cmp (a / b) (c / d) ≡ nat_cmp (a * d) (c * b)
by_quotients a b c d h k ne = same_order (a / b) (c / d) (a * d) (c * b) (λ l. below a b c d h k l) (λ e. absurd (ne e)) (λ l. below c d a b k h l)

-- with one whole part, the rests decide
pub by_rests : (a b c d : ℕ) → a / b ≡ c / d → nat_cmp (d * (a % b)) (b * (c % d)) ≡ nat_cmp (a * d) (c * b)
by_rests a b c d e =
    let left : a * d ≡ ((a / b) * b) * d + d * (a % b) = ap (λ n. n * d) (sym (div-add-mod' a b)) ∙ omega arith in
    let right : c * b ≡ ((c / d) * d) * b + b * (c % d) = ap (λ n. n * b) (sym (div-add-mod' c d)) ∙ omega arith in
    let parts : ((a / b) * b) * d ≡ ((c / d) * d) * b = ap (λ n. (n * b) * d) e ∙ omega arith in
    same_order (d * (a % b)) (b * (c % d)) (a * d) (c * b) (λ l. omega (arith, left, right, parts)) (λ s. omega (arith, left, right, parts)) (λ l. omega (arith, left, right, parts))

swap : {A B : Type 0} → A ⊎ B → B ⊎ A
swap s = ⊎_elim (λ x. inr x) (λ x. inl x) s

rest_less : (r s b d : ℕ) → 0 < b → 0 < d → (r ≡ 0) ⊎ (s ≡ 0) → r < s → d * r < b * s
rest_less r s b d h k none l = ⊎_elim (λ e. omega (arith, ap (λ n. d * n) e, mul-lt-mul_of_pos_right h (zero-lt r s l))) (λ e. absurd (omega arith)) none
  where
    zero-lt : (r s : ℕ) → r < s → 0 < s
    zero-lt r s l = omega arith

both_none : (r s b d : ℕ) → (r ≡ 0) ⊎ (s ≡ 0) → r ≡ s → d * r ≡ b * s
both_none r s b d none e =
    let left : r ≡ 0 = ⊎_elim (λ z. z) (λ z. e ∙ z) none in
    ap (λ n. d * n) left ∙ omega arith ∙ ap (λ n. b * n) (sym (sym e ∙ left))

-- where a rest is nothing, the rests alone decide
pub by_no_rest : (a b c d : ℕ) → 0 < b → 0 < d → a / b ≡ c / d → (a % b ≡ 0) ⊎ (c % d ≡ 0) → nat_cmp (a % b) (c % d) ≡ nat_cmp (a * d) (c * b)
by_no_rest a b c d h k e none =
    same_order (a % b) (c % d) (d * (a % b)) (b * (c % d)) (λ l. rest_less (a % b) (c % d) b d h k none l) (λ s. both_none (a % b) (c % d) b d none s) (λ l. rest_less (c % d) (a % b) d b k h (swap none) l)
    ∙ by_rests a b c d e

-- ---- whole and fractional part

floor_parts : (a d : ℤ) → pos 0 <ℤ d → ((int_div_euclid a d *ℤ d) ≤ℤ a) × (a <ℤ ((int_div_euclid a d +ℤ pos 1) *ℤ d))
floor_parts (pos a) (pos d) h =
    let whole = div-add-mod' a d in
    let small : a % d < d = mod-lt a (omega (arith, ints, h)) in
    (omega (arith, ints, whole), omega (arith, ints, whole, small))
floor_parts (negsuc a) (pos d) h =
    let q = a / d in
    let whole = div-add-mod' a d in
    let small : a % d < d = mod-lt a (omega (arith, ints, h)) in
    let up : negsuc q +ℤ pos 1 ≡ neg_ℤ (pos q) = omega (arith, ints) in
    let top : (negsuc q +ℤ pos 1) *ℤ pos d ≡ neg_ℤ (pos (q * d)) = ap (λ z. z *ℤ pos d) up ∙ neg-*ℤ (pos q) (pos d) in
    (omega (arith, ints, whole, small), rw top (omega (arith, ints, whole)))
floor_parts a (negsuc d) h = absurd (omega (arith, ints, h))

pub floor_is : (f : Fraction) → pos 0 <ℤ f.den → IsFloor f (int_div_euclid f.num f.den)
floor_is f h = record { below = (floor_parts f.num f.den h).0; above = (floor_parts f.num f.den h).1 }

not_above : (f : Fraction) (n m : ℤ) → pos 0 <ℤ f.den → IsFloor f n → IsFloor f m → n <ℤ (m +ℤ pos 1)
not_above f n m h p q = cancel_left f.den n (m +ℤ pos 1) h (omega (arith, ints, p.below, q.above, *ℤ_comm f.den n, *ℤ_comm f.den (m +ℤ pos 1)))

pub one_floor : (f : Fraction) (n m : ℤ) → pos 0 <ℤ f.den → IsFloor f n → IsFloor f m → n ≡ m
one_floor f n m h p q = omega (arith, ints, not_above f n m h p q, not_above f m n h q p)

-- the remainder is the number less the whole part times the divisor
pub rest_is : (a d : ℤ) → pos 0 <ℤ d → int_rem_euclid a d ≡ a -ℤ int_div_euclid a d *ℤ d
rest_is (pos a) (pos d) h = let whole = div-add-mod' a d in omega (arith, ints, whole)
rest_is (negsuc a) (pos d) h =
    let whole = div-add-mod' a d in
    let small : a % d < d = mod-lt a (omega (arith, ints, h)) in
    omega (arith, ints, whole, small)
rest_is a (negsuc d) h = absurd (omega (arith, ints, h))

pub rest_small : (a d : ℤ) → pos 0 <ℤ d → (pos 0 ≤ℤ int_rem_euclid a d) × (int_rem_euclid a d <ℤ d)
rest_small (pos a) (pos d) h = let small : a % d < d = mod-lt a (omega (arith, ints, h)) in (omega (arith, ints), omega (arith, ints, small))
rest_small (negsuc a) (pos d) h = (omega (arith, ints), omega (arith, ints, h))
rest_small a (negsuc d) h = absurd (omega (arith, ints, h))

pub rest_apart : (a d : ℤ) → pos 0 <ℤ d → gcd (unsigned_abs a) (unsigned_abs d) ≡ 1 → gcd (unsigned_abs (int_rem_euclid a d)) (unsigned_abs d) ≡ 1
rest_apart a d h e =
    let r = int_rem_euclid a d in
    let q = int_div_euclid a d in
    let p = gcd (unsigned_abs r) (unsigned_abs d) in
    let is = gcd_is (unsigned_abs r) (unsigned_abs d) in
    let D : ℕ → Type 0 = λ n. p ∣ n in
    let product : p ∣ unsigned_abs (q *ℤ d) = subst D (sym (unsigned_abs-mul q d)) (dvd-mul_left_of_dvd p is.1 (unsigned_abs q)) in
    let back : r +ℤ q *ℤ d ≡ a = omega (arith, ints, rest_is a d h) in
    let num : p ∣ unsigned_abs a = subst (λ z. p ∣ unsigned_abs z) back (divides_sum r (q *ℤ d) p is.0 product) in
    eq-one_of_dvd-one (subst D e ((gcd_is (unsigned_abs a) (unsigned_abs d)).2 p num is.1))

-- the fractional part
pub fract_lowest : (f : Fraction) → IsLowest f → IsLowest (record { num = int_rem_euclid f.num f.den; den = f.den })
fract_lowest f low =
    let small = rest_small f.num f.den low.positive in
    record {
      positive = low.positive;
      narrow_num = omega (arith, ints, small.0, small.1, low.narrow_den);
      narrow_den = low.narrow_den;
      lowest = rest_apart f.num f.den low.positive low.lowest;
    }

pub fract_is : (f : Fraction) (n : ℤ) → pos 0 <ℤ f.den → IsFloor f n → Same (record { num = int_rem_euclid f.num f.den; den = f.den }) (less_whole f n)
fract_is f n h floor =
    let one : n ≡ int_div_euclid f.num f.den = one_floor f n (int_div_euclid f.num f.den) h floor (floor_is f h) in
    let num : int_rem_euclid f.num f.den ≡ f.num -ℤ n *ℤ f.den = rest_is f.num f.den h ∙ ap (λ z. f.num -ℤ z *ℤ f.den) (sym one) in
    rw num refl
