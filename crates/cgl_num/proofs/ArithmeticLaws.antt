-- Laws of sums and products of fractions.
use Rattle.std.proofs.Common.{◌≡◌, ℕ, zero, suc, ℤ, pos, negsuc, ◌*◌, ◌/◌, ◌<◌, ◌^◌, ap, refl, sym, ◌∙◌, subst, arith, ⊎_elim}
use Rattle.std.specs.Prelude.{◌+ℤ◌, ◌*ℤ◌, ◌≤ℤ◌, ◌<ℤ◌, unsigned_abs, int_div}
use Rattle.std.specs.Int.{◌∣◌}
use Rattle.std.proofs.Math.Nat.{div-mul_cancel, mul-div_assoc, mul-div-mul_right, div-one, zero-div, dvd-add, dvd-sub, dvd-mul_left, dvd-mul_right, dvd-mul_left_of_dvd, mul-pos, eq-one_of_dvd-one}
use Rattle.std.proofs.lemmas.Bool.{cases_lt}
use Rattle.std.proofs.Math.IntN.{*ℤ_comm, neg_ℤ}
use Rattle.std.proofs.lemmas.Int.{ints, unsigned_abs-mul, by_lt_z}
use Rattle.std.proofs.lemmas.Nat.Gcd.{dvd_refl, dvd_trans, IsGcd-swap, same_from_IsGcd}
use Rattle.cgl_num.specs.IntegerLaws.{*ℤ_assoc, +ℤ-*ℤ, *ℤ_swap, scale_right}
use Rattle.cgl_num.specs.Gcd.{gcd}
use Rattle.cgl_num.specs.Fraction.{Fraction, IsLowest, lowest}
use Rattle.cgl_num.specs.FractionArithmetic.{plus}
use Rattle.cgl_num.proofs.GcdLaws.{gcd_is, gcd_one, gcd_above, gcd_quotients, IsGcd-mul, dvd_other}
use Rattle.cgl_num.proofs.FractionLaws.{exact_quotient, abs_quotient, Same, lowest_positive, lowest_apart}

-- ---- numbers that share nothing

pub gcd_swap : (a b : ℕ) → gcd a b ≡ gcd b a
gcd_swap a b = same_from_IsGcd a b _ _ (gcd_is a b) (IsGcd-swap b a _ (gcd_is b a))

-- divisors of numbers that share nothing share nothing
pub coprime_parts : (a b c d : ℕ) → gcd a b ≡ 1 → c ∣ a → d ∣ b → gcd c d ≡ 1
coprime_parts a b c d e left right =
    let is = gcd_is c d in
    let whole : gcd c d ∣ gcd a b = (gcd_is a b).2 (gcd c d) (dvd_trans _ is.0 left) (dvd_trans _ is.1 right) in
    eq-one_of_dvd-one (subst (λ n. gcd c d ∣ n) e whole)

-- a factor that shares nothing with the other number does not change the gcd
pub gcd_other : (a b c : ℕ) → gcd a b ≡ 1 → gcd a (b * c) ≡ gcd a c
gcd_other a b c e =
    let is = gcd_is a (b * c) in
    let g = gcd a (b * c) in
    let apart : gcd g b ≡ 1 = coprime_parts a b g b e is.0 (dvd_refl b) in
    let rest : g ∣ c = dvd_other g b c apart is.1 in
    gcd_one a c g (is.0, rest, λ d p q. is.2 d p (dvd_trans d q (dvd-mul_left c b)))

pub coprime_product : (a b c d : ℕ) → gcd a c ≡ 1 → gcd a d ≡ 1 → gcd b c ≡ 1 → gcd b d ≡ 1 → gcd (a * b) (c * d) ≡ 1
coprime_product a b c d ac ad bc bd =
    let first : gcd a (c * d) ≡ 1 = gcd_other a c d ac ∙ ad in
    let second : gcd b (c * d) ≡ 1 = gcd_other b c d bc ∙ bd in
    gcd_swap (a * b) (c * d) ∙ gcd_other (c * d) a b (gcd_swap (c * d) a ∙ first) ∙ gcd_swap (c * d) b ∙ second

-- ---- quotients

-- a quotient without remainder divides the number
pub quotient_divides : (a : ℤ) (g : ℕ) → g ∣ unsigned_abs a → unsigned_abs (int_div a (pos g)) ∣ unsigned_abs a
quotient_divides a g h =
    let whole : unsigned_abs (int_div a (pos g)) * g ≡ unsigned_abs a = ap (λ n. n * g) (abs_quotient a g) ∙ div-mul_cancel g h in
    subst (λ n. unsigned_abs (int_div a (pos g)) ∣ n) whole (dvd-mul_right _ g)

pub quotients_apart : (a b : ℤ) → 0 < gcd (unsigned_abs a) (unsigned_abs b)
    → gcd (unsigned_abs (int_div a (pos (gcd (unsigned_abs a) (unsigned_abs b))))) (unsigned_abs (int_div b (pos (gcd (unsigned_abs a) (unsigned_abs b))))) ≡ 1
quotients_apart a b h =
    let g = gcd (unsigned_abs a) (unsigned_abs b) in
    ap (λ n. gcd n (unsigned_abs (int_div b (pos g)))) (abs_quotient a g) ∙ ap (gcd (unsigned_abs a / g)) (abs_quotient b g) ∙ gcd_quotients (unsigned_abs a) (unsigned_abs b) h

-- ---- lowest terms

div_neg : (n g : ℕ) → int_div (neg_ℤ (pos n)) (pos g) ≡ neg_ℤ (pos (n / g))
div_neg zero g = ap pos (zero-div g) ∙ ap (λ n. neg_ℤ (pos n)) (sym (zero-div g))
div_neg (suc n) g = refl

quotient_scaled : (x : ℤ) (g k : ℕ) → 0 < k → int_div (x *ℤ pos k) (pos (g * k)) ≡ int_div x (pos g)
quotient_scaled (pos a) g k h = ap pos (mul-div-mul_right a g h)
quotient_scaled (negsuc a) g k h = div_neg (suc a * k) (g * k) ∙ ap (λ n. neg_ℤ (pos n)) (mul-div-mul_right (suc a) g h)

pub lowest_scaled : (x y : ℤ) (k : ℕ) → 0 < k → lowest (x *ℤ pos k) (y *ℤ pos k) ≡ lowest x y
unfolding lowest
lowest_scaled x y k h =
    let a = unsigned_abs x in
    let b = unsigned_abs y in
    let g : gcd (unsigned_abs (x *ℤ pos k)) (unsigned_abs (y *ℤ pos k)) ≡ gcd a b * k =
    ap (λ n. gcd n (unsigned_abs (y *ℤ pos k))) (unsigned_abs-mul x (pos k)) ∙ ap (gcd (a * k)) (unsigned_abs-mul y (pos k))
    ∙ sym (gcd_one (a * k) (b * k) (gcd a b * k) (IsGcd-mul a b (gcd a b) k (gcd_is a b))) in
    rw (g, quotient_scaled x (gcd a b) k h, quotient_scaled y (gcd a b) k h) refl

quotient_one : (x : ℤ) → int_div x (pos 1) ≡ x
quotient_one (pos a) = ap pos (div-one a)
quotient_one (negsuc a) = ap (λ n. neg_ℤ (pos n)) (div-one (suc a))

pub lowest_one : (f : Fraction) → gcd (unsigned_abs f.num) (unsigned_abs f.den) ≡ 1 → lowest f.num f.den ≡ f
unfolding lowest
lowest_one f e = rw (e, quotient_one f.num, quotient_one f.den) refl

-- numbers that are equal by one factor above 0
cancel_factor : (g a b : ℤ) → pos 0 <ℤ g → g *ℤ a ≡ g *ℤ b → a ≡ b
cancel_factor g a b h e =
    by_lt_z a b (λ l. absurd (no_less g a b h e l)) (λ le. by_lt_z b a (λ l. absurd (no_less g b a h (sym e) l)) (λ ge. omega (arith, ints, le, ge)))
  where
    no_less : (g a b : ℤ) → pos 0 <ℤ g → g *ℤ a ≡ g *ℤ b → a <ℤ b → ⊥
    no_less (pos n) a b h e l =
        let next : ((a +ℤ pos 1) *ℤ pos n) ≤ℤ (b *ℤ pos n) = scale_right (a +ℤ pos 1) b n (omega (arith, ints, l)) in
        omega (arith, ints, next, h, e, +ℤ-*ℤ a (pos 1) (pos n), *ℤ_comm (pos n) a, *ℤ_comm (pos n) b)
    no_less (negsuc n) a b h e l = omega (arith, ints, h)

positive_times : (d q : ℤ) (k : ℕ) → pos 0 <ℤ d → pos 0 <ℤ q → k * unsigned_abs q ≡ unsigned_abs d → d ≡ q *ℤ pos k
positive_times (pos d) (pos q) k h j e = ap pos (sym e ∙ omega arith)
positive_times (pos d) (negsuc q) k h j e = absurd (omega (arith, ints, j))
positive_times (negsuc d) q k h j e = absurd (omega (arith, ints, h))

pos_of_mul : (k n : ℕ) → 0 < k * n → 0 < k
pos_of_mul zero n h = absurd (omega (arith, h))
pos_of_mul (suc k) n h = omega arith

-- a fraction in lowest terms is the only one of its value
pub lowest_same : (f : Fraction) (num den : ℤ) → IsLowest f → pos 0 <ℤ den → f.num *ℤ den ≡ num *ℤ f.den → f ≡ lowest num den
lowest_same f num den low h e =
    let sizes : unsigned_abs f.num * unsigned_abs den ≡ unsigned_abs num * unsigned_abs f.den = sym (unsigned_abs-mul f.num den) ∙ ap unsigned_abs e ∙ unsigned_abs-mul num f.den in
    let divides : unsigned_abs f.den ∣ unsigned_abs den =
    dvd_other (unsigned_abs f.den) (unsigned_abs f.num) (unsigned_abs den) (gcd_swap (unsigned_abs f.den) (unsigned_abs f.num) ∙ low.lowest)
    (subst (λ n. unsigned_abs f.den ∣ n) (sym sizes) (dvd-mul_left (unsigned_abs f.den) (unsigned_abs num))) in
    let k = unsigned_abs den / unsigned_abs f.den in
    let whole : k * unsigned_abs f.den ≡ unsigned_abs den = div-mul_cancel (unsigned_abs f.den) divides in
    let bottom : den ≡ f.den *ℤ pos k = positive_times den f.den k h low.positive whole in
    let some : 0 < k = pos_of_mul k (unsigned_abs f.den) (omega (arith, ints, whole, h)) in
    let crossed : f.den *ℤ (f.num *ℤ pos k) ≡ f.den *ℤ num =
    *ℤ_swap f.den f.num (pos k) ∙ ap (λ z. f.num *ℤ z) (sym bottom) ∙ e ∙ *ℤ_comm num f.den in
    let top : num ≡ f.num *ℤ pos k = sym (cancel_factor f.den (f.num *ℤ pos k) num low.positive crossed) in
    sym (lowest_one f low.lowest) ∙ sym (lowest_scaled f.num f.den k some) ∙ ap (λ z. lowest z (f.den *ℤ pos k)) (sym top) ∙ ap (lowest num) (sym bottom)

-- ---- sums

pub abs_negated : (z : ℤ) → unsigned_abs (neg_ℤ z) ≡ unsigned_abs z
abs_negated (pos zero) = refl
abs_negated (pos (suc n)) = refl
abs_negated (negsuc n) = refl

-- what divides two numbers divides their sum
pub divides_sum : (u v : ℤ) (p : ℕ) → p ∣ unsigned_abs u → p ∣ unsigned_abs v → p ∣ unsigned_abs (u +ℤ v)
divides_sum (pos a) (pos b) p l r = dvd-add p l r
divides_sum (pos a) (negsuc b) p l r =
    ⊎_elim (λ lt. subst (λ n. p ∣ n) (omega (arith, ints, lt)) (dvd-sub p r l)) (λ le. subst (λ n. p ∣ n) (omega (arith, ints, le)) (dvd-sub p l r)) (cases_lt a (suc b))
divides_sum (negsuc a) (pos b) p l r =
    ⊎_elim (λ lt. subst (λ n. p ∣ n) (omega (arith, ints, lt)) (dvd-sub p l r)) (λ le. subst (λ n. p ∣ n) (omega (arith, ints, le)) (dvd-sub p r l)) (cases_lt b (suc a))
divides_sum (negsuc a) (negsuc b) p l r = subst (λ n. p ∣ n) (omega arith) (dvd-add p l r)

divides_first : (u v : ℤ) (p : ℕ) → p ∣ unsigned_abs (u +ℤ v) → p ∣ unsigned_abs v → p ∣ unsigned_abs u
divides_first u v p both second =
    let is : (u +ℤ v) +ℤ neg_ℤ v ≡ u = omega (arith, ints) in
    subst (λ z. p ∣ unsigned_abs z) is (divides_sum (u +ℤ v) (neg_ℤ v) p both (subst (λ n. p ∣ n) (sym (abs_negated v)) second))

-- a sum over the least common denominator shares nothing with the cofactor of its own term
pub coprime_sum : (a c x y : ℤ) → gcd (unsigned_abs x) (unsigned_abs y) ≡ 1 → gcd (unsigned_abs a) (unsigned_abs x) ≡ 1 → gcd (unsigned_abs (a *ℤ y +ℤ c *ℤ x)) (unsigned_abs x) ≡ 1
coprime_sum a c x y apart own =
    let p = gcd (unsigned_abs (a *ℤ y +ℤ c *ℤ x)) (unsigned_abs x) in
    let is = gcd_is (unsigned_abs (a *ℤ y +ℤ c *ℤ x)) (unsigned_abs x) in
    let D : ℕ → Type 0 = λ n. p ∣ n in
    let second : p ∣ unsigned_abs (c *ℤ x) = subst D (sym (unsigned_abs-mul c x)) (dvd-mul_left_of_dvd p is.1 (unsigned_abs c)) in
    let first : p ∣ unsigned_abs (a *ℤ y) = divides_first (a *ℤ y) (c *ℤ x) p is.0 second in
    let parts : p ∣ unsigned_abs y * unsigned_abs a = subst D (unsigned_abs-mul a y ∙ omega arith) first in
    let none : gcd p (unsigned_abs y) ≡ 1 = coprime_parts (unsigned_abs x) (unsigned_abs y) p (unsigned_abs y) apart is.1 (dvd_refl (unsigned_abs y)) in
    let whole : p ∣ gcd (unsigned_abs a) (unsigned_abs x) = (gcd_is (unsigned_abs a) (unsigned_abs x)).2 p (dvd_other p (unsigned_abs y) (unsigned_abs a) none parts) is.1 in
    eq-one_of_dvd-one (subst D own whole)

-- the terms of a sum, over the least common denominator
pub sum_terms : (a c x y : ℤ) (g : ℤ) → a *ℤ (y *ℤ g) +ℤ c *ℤ (x *ℤ g) ≡ (a *ℤ y +ℤ c *ℤ x) *ℤ g
sum_terms a c x y g = ap (λ z. z +ℤ c *ℤ (x *ℤ g)) (sym (*ℤ_assoc a y g)) ∙ ap (λ z. (a *ℤ y) *ℤ g +ℤ z) (sym (*ℤ_assoc c x g)) ∙ sym (+ℤ-*ℤ (a *ℤ y) (c *ℤ x) g)

pub plus_is : (f h : Fraction) → pos 0 <ℤ h.den → (g : ℤ) → g ≡ pos (gcd (unsigned_abs f.den) (unsigned_abs h.den))
    → plus f h ≡ lowest (f.num *ℤ int_div h.den g +ℤ h.num *ℤ int_div f.den g) (int_div f.den g *ℤ h.den)
plus_is f h above g is =
    let k = gcd (unsigned_abs f.den) (unsigned_abs h.den) in
    let x = int_div f.den (pos k) in
    let y = int_div h.den (pos k) in
    let first : x *ℤ pos k ≡ f.den = exact_quotient f.den k (gcd_is _ _).0 in
    let second : y *ℤ pos k ≡ h.den = exact_quotient h.den k (gcd_is _ _).1 in
    let top : f.num *ℤ h.den +ℤ h.num *ℤ f.den ≡ (f.num *ℤ y +ℤ h.num *ℤ x) *ℤ pos k =
    ap (λ z. f.num *ℤ z +ℤ h.num *ℤ f.den) (sym second) ∙ ap (λ z. f.num *ℤ (y *ℤ pos k) +ℤ h.num *ℤ z) (sym first) ∙ sum_terms f.num h.num x y (pos k) in
    let bottom : f.den *ℤ h.den ≡ (x *ℤ h.den) *ℤ pos k =
    ap (λ z. z *ℤ h.den) (sym first) ∙ *ℤ_assoc x (pos k) h.den ∙ ap (λ z. x *ℤ z) (*ℤ_comm (pos k) h.den) ∙ sym (*ℤ_assoc x h.den (pos k)) in
    let some : 0 < k = gcd_above (unsigned_abs f.den) (unsigned_abs h.den) (omega (arith, ints, above)) in
    rw is (ap (λ z. lowest z (f.den *ℤ h.den)) top ∙ ap (lowest ((f.num *ℤ y +ℤ h.num *ℤ x) *ℤ pos k)) bottom ∙ lowest_scaled (f.num *ℤ y +ℤ h.num *ℤ x) (x *ℤ h.den) k some)

-- ---- a fraction whose numerator shares nothing with one factor of the denominator

quotient_of_product : (x d : ℤ) (k : ℕ) → pos 0 <ℤ x → pos 0 <ℤ d → k ∣ unsigned_abs d → int_div (x *ℤ d) (pos k) ≡ x *ℤ int_div d (pos k)
quotient_of_product (pos x) (pos d) k h j e = ap pos (mul-div_assoc k x e)
quotient_of_product (pos x) (negsuc d) k h j e = absurd (omega (arith, ints, j))
quotient_of_product (negsuc x) d k h j e = absurd (omega (arith, ints, h))

pub reduced_is : (t x d : ℤ) → pos 0 <ℤ x → pos 0 <ℤ d → gcd (unsigned_abs t) (unsigned_abs x) ≡ 1 → (g : ℤ) → g ≡ pos (gcd (unsigned_abs t) (unsigned_abs d))
    → Same (record { num = int_div t g; den = x *ℤ int_div d g }) (lowest t (x *ℤ d))
unfolding lowest
reduced_is t x d h j apart g is =
    let k = gcd (unsigned_abs t) (unsigned_abs d) in
    let same : gcd (unsigned_abs t) (unsigned_abs (x *ℤ d)) ≡ k = ap (gcd (unsigned_abs t)) (unsigned_abs-mul x d) ∙ gcd_other (unsigned_abs t) (unsigned_abs x) (unsigned_abs d) apart in
    rw (same, is, quotient_of_product x d k h j (gcd_is _ _).1) refl

-- the same, of what was computed
pub reduced_made : (t x d g p y q : ℤ) → pos 0 <ℤ x → pos 0 <ℤ d → gcd (unsigned_abs t) (unsigned_abs x) ≡ 1 → g ≡ pos (gcd (unsigned_abs t) (unsigned_abs d))
    → p ≡ int_div t g → y ≡ int_div d g → q ≡ x *ℤ y → Same (record { num = p; den = q }) (lowest t (x *ℤ d))
reduced_made t x d g p y q h j apart is p_is y_is q_is =
    let den : q ≡ x *ℤ int_div d g = q_is ∙ ap (λ z. x *ℤ z) y_is in
    rw (p_is, den) (reduced_is t x d h j apart g is)

pub positive_product : (x y : ℤ) → pos 0 <ℤ x → pos 0 <ℤ y → pos 0 <ℤ (x *ℤ y)
positive_product (pos x) (pos y) h j = let p : 0 < x * y = mul-pos (omega (arith, ints, h)) (omega (arith, ints, j)) in omega (arith, ints, p)
positive_product (pos x) (negsuc y) h j = absurd (omega (arith, ints, j))
positive_product (negsuc x) y h j = absurd (omega (arith, ints, h))

-- what is equal to lowest terms and fits is in lowest terms
pub lowest_as : (f : Fraction) (num den : ℤ) → f ≡ lowest num den → pos 0 <ℤ den → unsigned_abs f.num < 2 ^ 127 → unsigned_abs f.den < 2 ^ 127 → IsLowest f
lowest_as f num den e h narrow_num narrow_den =
    let P : Fraction → Type 0 = λ q. pos 0 <ℤ q.den in
    let Q : Fraction → Type 0 = λ q. gcd (unsigned_abs q.num) (unsigned_abs q.den) ≡ 1 in
    record {
      positive = subst P (sym e) (lowest_positive num den h);
      narrow_num = narrow_num;
      narrow_den = narrow_den;
      lowest = subst Q (sym e) (lowest_apart num den h);
    }

-- ---- products

product_of_products : (x y u v : ℤ) → (x *ℤ y) *ℤ (u *ℤ v) ≡ (x *ℤ u) *ℤ (y *ℤ v)
product_of_products x y u v = *ℤ_assoc x y (u *ℤ v) ∙ ap (λ z. x *ℤ z) (*ℤ_swap y u v) ∙ sym (*ℤ_assoc x u (y *ℤ v))

pub times_is : (a b c d : ℤ) → pos 0 <ℤ b → pos 0 <ℤ d → gcd (unsigned_abs a) (unsigned_abs b) ≡ 1 → gcd (unsigned_abs c) (unsigned_abs d) ≡ 1
    → (g k : ℤ) → g ≡ pos (gcd (unsigned_abs a) (unsigned_abs d)) → k ≡ pos (gcd (unsigned_abs c) (unsigned_abs b))
    → Same (record { num = int_div a g *ℤ int_div c k; den = int_div b k *ℤ int_div d g }) (lowest (a *ℤ c) (b *ℤ d))
times_is a b c d h j left right g k g_is k_is =
    let g' = gcd (unsigned_abs a) (unsigned_abs d) in
    let k' = gcd (unsigned_abs c) (unsigned_abs b) in
    let ad = gcd_is (unsigned_abs a) (unsigned_abs d) in
    let cb = gcd_is (unsigned_abs c) (unsigned_abs b) in
    let a' = int_div a (pos g') in
    let b' = int_div b (pos k') in
    let c' = int_div c (pos k') in
    let d' = int_div d (pos g') in
    let some_g : 0 < g' = gcd_above (unsigned_abs a) (unsigned_abs d) (omega (arith, ints, j)) in
    let some_k : 0 < k' = gcd_above (unsigned_abs c) (unsigned_abs b) (omega (arith, ints, h)) in
    let top : a *ℤ c ≡ (a' *ℤ c') *ℤ pos (g' * k') =
    ap (λ z. z *ℤ c) (sym (exact_quotient a g' ad.0)) ∙ ap (λ z. (a' *ℤ pos g') *ℤ z) (sym (exact_quotient c k' cb.0)) ∙ product_of_products a' (pos g') c' (pos k') in
    let bottom : b *ℤ d ≡ (b' *ℤ d') *ℤ pos (g' * k') =
    ap (λ z. z *ℤ d) (sym (exact_quotient b k' cb.1)) ∙ ap (λ z. (b' *ℤ pos k') *ℤ z) (sym (exact_quotient d g' ad.1)) ∙ product_of_products b' (pos k') d' (pos g')
    ∙ ap (λ z. (b' *ℤ d') *ℤ z) (*ℤ_comm (pos k') (pos g')) in
    let apart : gcd (unsigned_abs (a' *ℤ c')) (unsigned_abs (b' *ℤ d')) ≡ 1 =
    ap (λ n. gcd n (unsigned_abs (b' *ℤ d'))) (unsigned_abs-mul a' c') ∙ ap (gcd (unsigned_abs a' * unsigned_abs c')) (unsigned_abs-mul b' d')
    ∙ coprime_product (unsigned_abs a') (unsigned_abs c') (unsigned_abs b') (unsigned_abs d')
    (coprime_parts (unsigned_abs a) (unsigned_abs b) _ _ left (quotient_divides a g' ad.0) (quotient_divides b k' cb.1))
    (quotients_apart a d some_g)
    (quotients_apart c b some_k)
    (coprime_parts (unsigned_abs c) (unsigned_abs d) _ _ right (quotient_divides c k' cb.0) (quotient_divides d g' ad.1)) in
    rw (g_is, k_is) (sym (ap (λ z. lowest z (b *ℤ d)) top ∙ ap (lowest ((a' *ℤ c') *ℤ pos (g' * k'))) bottom ∙ lowest_scaled (a' *ℤ c') (b' *ℤ d') (g' * k') (mul-pos some_g some_k)
    ∙ lowest_one (record { num = a' *ℤ c'; den = b' *ℤ d' }) apart))
