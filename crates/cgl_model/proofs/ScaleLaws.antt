-- Decimals times powers of ten, ends and sums times a factor, and comparisons that a factor above 0 leaves.
use Rattle.std.proofs.Common.{◌≡◌, ℕ, zero, suc, ℤ, pos, negsuc, ◌+◌, ◌-◌, ◌*◌, ◌^◌, ◌≤◌, ◌<◌, ap, refl, sym, ◌∙◌, arith, Bool, true, false, cond, List, [], ◌∷◌, map}
use Rattle.std.specs.Prelude.{◌+ℤ◌, ◌-ℤ◌, ◌*ℤ◌, ◌≤ℤ◌, ◌↔◌, int_lt, Option, Some, None, option_map}
use Rattle.std.specs.List.{filter}
use Rattle.std.proofs.lemmas.Nat.{pow-add}
use Rattle.std.proofs.Math.IntN.{neg_ℤ, *ℤ_comm, zero-*ℤ}
use Rattle.std.proofs.lemmas.Bool.{not-false}
use Rattle.std.proofs.lemmas.Bool.Decides.{Decides-int_eq}
use Rattle.std.proofs.lemmas.Int.{ints, unsigned_abs-mul}
use Rattle.cgl_num.specs.IntegerLaws.{*ℤ_assoc, +ℤ-*ℤ, neg-*ℤ, scale_right, cancel_right}
use Rattle.cgl_num.specs.Decimal.{Decimal, IsDecimal, scaled, scaled_by, places, places_in}
use Rattle.cgl_model.specs.declared.mip.RowKind.{RowKind}
use Rattle.cgl_model.specs.declared.mip.RowKind.TheVariants.{N, L, G, E}
use Rattle.cgl_model.specs.Ends.{magnitude, lower_end, upper_end}
use Rattle.cgl_model.specs.Inequality.{Term, sum_at}
use Rattle.cgl_model.specs.Point.{number_at}
use Rattle.cgl_model.specs.Feasible.{IsAtLeast, IsAtMost}
use Rattle.cgl_model.specs.IntegerForm.{negated, is_nonzero_term}

-- ---- decimals

scaled_more_by : (k : ℕ) (m e : ℤ) → places_in e ≤ k → k ≤ 30 → scaled_by 30 m e ≡ scaled_by k m e *ℤ pos (10 ^ (30 - k))
scaled_more_by k m (pos e) p q =
    let parts : 10 ^ (e + 30) ≡ 10 ^ (e + k) * 10 ^ (30 - k) = ap (λ n. 10 ^ n) (omega arith) ∙ pow-add 10 (e + k) (30 - k) in
    ap (λ n. m *ℤ pos n) parts ∙ sym (*ℤ_assoc m (pos (10 ^ (e + k))) (pos (10 ^ (30 - k))))
scaled_more_by k m (negsuc e) p q =
    let parts : 10 ^ (30 - suc e) ≡ 10 ^ (k - suc e) * 10 ^ (30 - k) = ap (λ n. 10 ^ n) (omega arith) ∙ pow-add 10 (k - suc e) (30 - k) in
    ap (λ n. m *ℤ pos n) parts ∙ sym (*ℤ_assoc m (pos (10 ^ (k - suc e))) (pos (10 ^ (30 - k))))

pub scaled_more : (k : ℕ) (d : Decimal) → places d ≤ k → k ≤ 30 → scaled 30 d ≡ scaled k d *ℤ pos (10 ^ (30 - k))
scaled_more k d p q = scaled_more_by k d.m d.e p q

places_in_limit : (e : ℤ) → negsuc 29 ≤ℤ e → places_in e ≤ 30
places_in_limit (pos e) h = omega arith
places_in_limit (negsuc e) h = omega (arith, ints, h)

pub places_limit : (d : Decimal) → IsDecimal d → places d ≤ 30
places_limit d h = places_in_limit d.e h.within.scale

-- ---- a factor

abbrev pub times : ℕ → ℤ → ℤ
times c z = z *ℤ pos c

abbrev pub times_term : ℕ → Term → Term
times_term c t = (t.0, times c t.1)

magnitude_times : (c : ℕ) (r : ℤ) → magnitude (times c r) ≡ times c (magnitude r)
magnitude_times c r = ap pos (unsigned_abs-mul r (pos c))

below_zero : (k : ℕ) → 0 < k → int_lt (neg_ℤ (pos k)) (pos 0) ≡ true
below_zero zero h = absurd (omega arith)
below_zero (suc k) h = refl

-- a factor above 0 leaves the sign
sign_times : (c : ℕ) (r : ℤ) → 0 < c → int_lt (times c r) (pos 0) ≡ int_lt r (pos 0)
sign_times c (pos n) h = grind (arith, ints)
sign_times zero (negsuc n) h = absurd (omega arith)
sign_times (suc c) (negsuc n) h = below_zero (suc n * suc c) (omega arith)

less_times : (c : ℕ) (b r : ℤ) → times c b -ℤ magnitude (times c r) ≡ times c (b -ℤ magnitude r)
less_times c b r = omega (arith, ints, magnitude_times c r, +ℤ-*ℤ b (neg_ℤ (magnitude r)) (pos c), neg-*ℤ (magnitude r) (pos c))

more_times : (c : ℕ) (b r : ℤ) → times c b +ℤ magnitude (times c r) ≡ times c (b +ℤ magnitude r)
more_times c b r = omega (arith, ints, magnitude_times c r, +ℤ-*ℤ b (magnitude r) (pos c))

choice_times : (c : ℕ) (choice : Bool) (x y : ℤ) → cond choice (Some (times c x)) (Some (times c y)) ≡ option_map (times c) (cond choice (Some x) (Some y))
choice_times c true x y = refl
choice_times c false x y = refl

pub lower_times : (kind : RowKind) (c : ℕ) (b : ℤ) (r : Option ℤ) → 0 < c → lower_end kind (times c b) (option_map (times c) r) ≡ option_map (times c) (lower_end kind b r)
lower_times N c b r h = refl
lower_times L c b None h = refl
lower_times L c b (Some r) h = ap Some (less_times c b r)
lower_times G c b r h = refl
lower_times E c b None h = refl
lower_times E c b (Some r) h = rw (sign_times c r h, less_times c b r) (choice_times c (int_lt r (pos 0)) (b -ℤ magnitude r) b)

pub upper_times : (kind : RowKind) (c : ℕ) (b : ℤ) (r : Option ℤ) → 0 < c → upper_end kind (times c b) (option_map (times c) r) ≡ option_map (times c) (upper_end kind b r)
upper_times N c b r h = refl
upper_times L c b r h = refl
upper_times G c b None h = refl
upper_times G c b (Some r) h = ap Some (more_times c b r)
upper_times E c b None h = refl
upper_times E c b (Some r) h = rw (sign_times c r h, more_times c b r) (choice_times c (int_lt r (pos 0)) b (b +ℤ magnitude r))

-- ---- sums

pub sum_times : (p : List ℤ) (c : ℕ) (terms : List Term) → sum_at p (map (times_term c) terms) ≡ times c (sum_at p terms)
sum_times p c [] = omega (arith, ints)
sum_times p c (t ∷ terms) =
    let x = number_at p t.0 in
    let first : times c t.1 *ℤ x ≡ times c (t.1 *ℤ x) = *ℤ_assoc t.1 (pos c) x ∙ ap (λ z. t.1 *ℤ z) (*ℤ_comm (pos c) x) ∙ sym (*ℤ_assoc t.1 x (pos c)) in
    omega (arith, ints, first, sum_times p c terms, +ℤ-*ℤ (t.1 *ℤ x) (sum_at p terms) (pos c))

pub sum_negated : (p : List ℤ) (terms : List Term) → sum_at p (negated terms) ≡ neg_ℤ (sum_at p terms)
sum_negated p [] = refl
sum_negated p (t ∷ terms) =
    let x = number_at p t.0 in
    omega (arith, ints, neg-*ℤ t.1 x, sum_negated p terms)

is_zero_term : (t : Term) → is_nonzero_term t ≡ false → t.1 ≡ pos 0
is_zero_term t e = (Decides-int_eq t.1 (pos 0)).0 (not-false _ e)

with_term : (p : List ℤ) (t : Term) (terms : List Term) (kept : Bool) → is_nonzero_term t ≡ kept → sum_at p (filter is_nonzero_term terms) ≡ sum_at p terms
    → sum_at p (cond kept (t ∷ filter is_nonzero_term terms) (filter is_nonzero_term terms)) ≡ sum_at p (t ∷ terms)
with_term p t terms true e rest = ap (λ s. t.1 *ℤ number_at p t.0 +ℤ s) rest
with_term p t terms false e rest =
    let none : t.1 *ℤ number_at p t.0 ≡ pos 0 = ap (λ z. z *ℤ number_at p t.0) (is_zero_term t e) ∙ zero-*ℤ (number_at p t.0) in
    omega (arith, ints, none, rest)

pub sum_nonzero : (p : List ℤ) (terms : List Term) → sum_at p (filter is_nonzero_term terms) ≡ sum_at p terms
sum_nonzero p [] = refl
sum_nonzero p (t ∷ terms) = with_term p t terms (is_nonzero_term t) refl (sum_nonzero p terms)

-- ---- comparisons

pub turned : (b q : ℤ) (c : ℕ) → times c b *ℤ q ≡ times c (b *ℤ q)
turned b q c = *ℤ_assoc b (pos c) q ∙ ap (λ z. b *ℤ z) (*ℤ_comm (pos c) q) ∙ sym (*ℤ_assoc b q (pos c))

pub at_least_times : (c : ℕ) (b : Option ℤ) (q s : ℤ) → 0 < c → IsAtLeast (option_map (times c) b) q (times c s) ↔ IsAtLeast b q s
at_least_times c None q s h = (λ e. e, λ e. e)
at_least_times c (Some b) q s h =
    (λ e. cancel_right (b *ℤ q) s c h (rw (turned b q c) at e), λ e. rw (turned b q c) (scale_right (b *ℤ q) s c e))

pub at_most_times : (c : ℕ) (b : Option ℤ) (q s : ℤ) → 0 < c → IsAtMost (option_map (times c) b) q (times c s) ↔ IsAtMost b q s
at_most_times c None q s h = (λ e. e, λ e. e)
at_most_times c (Some b) q s h =
    (λ e. cancel_right s (b *ℤ q) c h (rw (turned b q c) at e), λ e. rw (turned b q c) (scale_right s (b *ℤ q) c e))
