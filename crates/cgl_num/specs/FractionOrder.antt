-- The order of fractions is total, and equal at equal fields alone.
use Rattle.std.specs.Prelude.{◌≡◌, ℕ, suc, ℤ, pos, ◌-◌, ◌*ℤ◌, ◌<ℤ◌, unsigned_abs, ◌&&◌}
use Rattle.std.proofs.Common.{ap, refl, sym, ◌∙◌, subst}
use Rattle.std.specs.Ordering.{int_cmp, int_eq, ordering_then, is_eq, MatchOrdering}
use Rattle.std.specs.declared.cmp.Ordering.{Ordering}
use Rattle.std.specs.declared.cmp.Ordering.TheVariants.{Less, Equal, Greater}
use Rattle.std.specs.Cmp.{IsTotalOrder, int_cmp_is, Equal-is}
use Rattle.std.specs.Bool.{one_answer}
use Rattle.std.proofs.lemmas.Cmp.{int_cmp_total, int_ranked, then_total, on_total, tied_itself}
use Rattle.std.specs.Int.Signed.{clash_ℤ}
use Rattle.std.proofs.lemmas.Int.{by_lt_z}
use Rattle.std.proofs.Math.Nat.{zero-lt-suc}
use Rattle.std.proofs.lemmas.Bool.{true≢false}
use Rattle.std.proofs.lemmas.Bool.Decides.{Decides-int_eq, Decides-and, Decides-like}
use Rattle.std.proofs.Math.IntN.{*ℤ_comm}
use Rattle.cgl_num.specs.IntegerLaws.{*ℤ_assoc, cancel_right}
use Rattle.cgl_num.specs.Fraction.{Fraction}
use Rattle.cgl_num.specs.FractionArithmetic.{order_den, cross_cmp, fraction_order}

scaled_less : (a b : ℤ) (n : ℕ) → a <ℤ b → (a *ℤ pos (suc n)) <ℤ (b *ℤ pos (suc n))
scaled_less a b n l = by_lt_z (a *ℤ pos (suc n)) (b *ℤ pos (suc n)) (λ less. less) (λ le. clash_ℤ l (cancel_right b a (suc n) (zero-lt-suc n) le))

-- two numbers by one factor above 0
scaled_by : (a b : ℤ) (n : ℕ) (r : Ordering) → r ≡ int_cmp a b → r ≡ int_cmp (a *ℤ pos (suc n)) (b *ℤ pos (suc n))
scaled_by a b n r e = match_rank r (int_ranked a b r e)
  where
    match_rank : (r : Ordering) → MatchOrdering r (a <ℤ b) (a ≡ b) (b <ℤ a) → r ≡ int_cmp (a *ℤ pos (suc n)) (b *ℤ pos (suc n))
    match_rank Less l = int_cmp_is _ _ Less (scaled_less a b n l)
    match_rank Equal s = int_cmp_is _ _ Equal (ap (λ z. z *ℤ pos (suc n)) s)
    match_rank Greater m = int_cmp_is _ _ Greater (scaled_less b a n m)

pub cmp_scaled : (a b : ℤ) (n : ℕ) → int_cmp (a *ℤ pos (suc n)) (b *ℤ pos (suc n)) ≡ int_cmp a b
cmp_scaled a b n = sym (scaled_by a b n (int_cmp a b) refl)

turned : (a b c : ℤ) → (a *ℤ b) *ℤ c ≡ (a *ℤ c) *ℤ b
turned a b c = *ℤ_assoc a b c ∙ ap (λ z. a *ℤ z) (*ℤ_comm b c) ∙ sym (*ℤ_assoc a c b)

-- a factor y on both sides of a cross product
common : (a c : ℤ) (x y z : ℕ) → int_cmp ((a *ℤ pos (suc y)) *ℤ pos (suc z)) ((c *ℤ pos (suc y)) *ℤ pos (suc x)) ≡ int_cmp (a *ℤ pos (suc z)) (c *ℤ pos (suc x))
common a c x y z =
    ap (λ u. int_cmp u ((c *ℤ pos (suc y)) *ℤ pos (suc x))) (turned a (pos (suc y)) (pos (suc z)))
    ∙ ap (int_cmp ((a *ℤ pos (suc z)) *ℤ pos (suc y))) (turned c (pos (suc y)) (pos (suc x)))
    ∙ cmp_scaled (a *ℤ pos (suc z)) (c *ℤ pos (suc x)) y

cross_trans : (a b c : ℤ) (x y z : ℕ) → int_cmp (a *ℤ pos (suc y)) (b *ℤ pos (suc x)) ≡ Less → int_cmp (b *ℤ pos (suc z)) (c *ℤ pos (suc y)) ≡ Less
    → int_cmp (a *ℤ pos (suc z)) (c *ℤ pos (suc x)) ≡ Less
cross_trans a b c x y z p q =
    let first : int_cmp ((a *ℤ pos (suc y)) *ℤ pos (suc z)) ((b *ℤ pos (suc x)) *ℤ pos (suc z)) ≡ Less = cmp_scaled (a *ℤ pos (suc y)) (b *ℤ pos (suc x)) z ∙ p in
    let second : int_cmp ((b *ℤ pos (suc z)) *ℤ pos (suc x)) ((c *ℤ pos (suc y)) *ℤ pos (suc x)) ≡ Less = cmp_scaled (b *ℤ pos (suc z)) (c *ℤ pos (suc y)) x ∙ q in
    let third : int_cmp ((b *ℤ pos (suc x)) *ℤ pos (suc z)) ((c *ℤ pos (suc y)) *ℤ pos (suc x)) ≡ Less =
    ap (λ u. int_cmp u ((c *ℤ pos (suc y)) *ℤ pos (suc x))) (turned b (pos (suc x)) (pos (suc z))) ∙ second in
    sym (common a c x y z) ∙ int_cmp_total.trans ((a *ℤ pos (suc y)) *ℤ pos (suc z)) ((b *ℤ pos (suc x)) *ℤ pos (suc z)) ((c *ℤ pos (suc y)) *ℤ pos (suc x)) first third

cross_congr : (a b c : ℤ) (x y z : ℕ) → int_cmp (a *ℤ pos (suc y)) (b *ℤ pos (suc x)) ≡ Equal
    → int_cmp (a *ℤ pos (suc z)) (c *ℤ pos (suc x)) ≡ int_cmp (b *ℤ pos (suc z)) (c *ℤ pos (suc y))
cross_congr a b c x y z p =
    let same : a *ℤ pos (suc y) ≡ b *ℤ pos (suc x) = int_ranked _ _ Equal (sym p) in
    sym (common a c x y z)
    ∙ ap (λ u. int_cmp (u *ℤ pos (suc z)) ((c *ℤ pos (suc y)) *ℤ pos (suc x))) same
    ∙ ap (λ u. int_cmp u ((c *ℤ pos (suc y)) *ℤ pos (suc x))) (turned b (pos (suc x)) (pos (suc z)))
    ∙ cmp_scaled (b *ℤ pos (suc z)) (c *ℤ pos (suc y)) x

cross_total : IsTotalOrder cross_cmp
cross_total = record {
  antisymm = λ f h. int_cmp_total.antisymm (f.num *ℤ order_den h) (h.num *ℤ order_den f);
  trans = λ f h k p q. cross_trans f.num h.num k.num (unsigned_abs f.den - 1) (unsigned_abs h.den - 1) (unsigned_abs k.den - 1) p q;
  congr = λ f h k p. cross_congr f.num h.num k.num (unsigned_abs f.den - 1) (unsigned_abs h.den - 1) (unsigned_abs k.den - 1) p;
}

pub order_total : IsTotalOrder fraction_order
order_total = then_total cross_total (on_total (λ f. f.den) int_cmp_total)

-- ---- equality

both_equal : (r s : Ordering) → ordering_then r s ≡ Equal → (r ≡ Equal) × (s ≡ Equal)
both_equal Less s e = absurd (true≢false (sym (ap is_eq e)))
both_equal Equal s e = (refl, e)
both_equal Greater s e = absurd (true≢false (sym (ap is_eq e)))

equal_fields : (f h : Fraction) → fraction_order f h ≡ Equal → (f.num ≡ h.num) × (f.den ≡ h.den)
equal_fields f h e =
    let parts = both_equal (cross_cmp f h) (int_cmp f.den h.den) e in
    let den : f.den ≡ h.den = int_ranked _ _ Equal (sym parts.1) in
    let k = unsigned_abs h.den - 1 in
    let cross : int_cmp (f.num *ℤ pos (suc k)) (h.num *ℤ pos (suc k)) ≡ Equal = subst (λ d. int_cmp (f.num *ℤ pos (suc k)) (h.num *ℤ pos (suc (unsigned_abs d - 1))) ≡ Equal) den parts.0 in
    (int_ranked _ _ Equal (sym (sym (cmp_scaled f.num h.num k) ∙ cross)), den)

fields_equal : (f h : Fraction) → (f.num ≡ h.num) × (f.den ≡ h.den) → fraction_order f h ≡ Equal
fields_equal f h e =
    let same : int_cmp (f.num *ℤ order_den h) (h.num *ℤ order_den f) ≡ Equal = rw (e.0, e.1) (tied_itself int_cmp_total (h.num *ℤ order_den h)) in
    let den : int_cmp f.den h.den ≡ Equal = rw e.1 (tied_itself int_cmp_total h.den) in
    rw (same, den) refl

pub order_eq : (f h : Fraction) → (int_eq f.num h.num && int_eq f.den h.den) ≡ is_eq (fraction_order f h)
order_eq f h = one_answer _ _ (Decides-and _ _ (Decides-int_eq f.num h.num) (Decides-int_eq f.den h.den))
    (Decides-like (is_eq (fraction_order f h)) (equal_fields f h) (fields_equal f h) (Equal-is (fraction_order f h)))
