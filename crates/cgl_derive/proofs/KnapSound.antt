-- A feasible point is one of zeros and ones at binary columns, so that it meets what a right knapsack step claims.
use Rattle.std.proofs.Common.{◌≡◌, ℕ, zero, suc, ◌*◌, ◌≤◌, ◌<◌, ◌^◌, ℤ, pos, negsuc, Bool, true, false, List, [], ◌∷◌, Option, Some, None, length, map, refl, sym, ap, ◌∙◌, subst, arith, inl, inr, lit<}
use Rattle.std.specs.Prelude.{◌+ℤ◌, ◌*ℤ◌, ◌≤ℤ◌, ◌<ℤ◌, ◌==◌, slice_get, unwrap_or, option_map, if◌then◌else◌}
use Rattle.std.specs.List.{AllByRecursion}
use Rattle.std.proofs.lemmas.Int.{ints}
use Rattle.std.proofs.lemmas.Bool.{eqb-true}
use Rattle.std.proofs.lemmas.Option.{slice_get-map}
use Rattle.std.proofs.lemmas.List.{length-map}
use Rattle.std.proofs.Math.IntN.{*ℤ_comm, zero-*ℤ}
use Rattle.cgl_num.specs.IntegerLaws.{*ℤ_assoc, +ℤ-*ℤ, cancel_right, scale_right}
use Rattle.cgl_model.specs.declared.linear.Ineq.{Ineq}
use Rattle.cgl_model.specs.declared.mip.Model.{Model}
use Rattle.cgl_model.specs.Feasible.{IsFeasible, IsAtLeast, IsAtMost, weight}
use Rattle.cgl_model.specs.Inequality.{Term, Meets, sum_at}
use Rattle.cgl_model.specs.Point.{Point, number_at}
use Rattle.cgl_derive.specs.Binary.{IsBinaryAt, AreBinary, bit}
use Rattle.cgl_derive.specs.Derives.{KnapIsRight, coefficient}
use Rattle.cgl_derive.specs.Knapsack.{IsSameSign}
use Rattle.cgl_derive.proofs.TestLaws.{none_plus}

-- a number above 0 counts as 1
abbrev is_one : ℤ → Bool
is_one (pos zero) = false
is_one (pos (suc n)) = true
is_one (negsuc n) = false

bit_at : (p : List ℤ) (j : ℕ) → number_at (map bit (map is_one p)) j ≡ bit (is_one (number_at p j))
bit_at p j = ap (λ (o : Option ℤ). unwrap_or o (pos 0)) (slice_get-map bit (map is_one p) j ∙ ap (option_map bit) (slice_get-map is_one p j)) ∙ at (slice_get p j)
  where
    at : (o : Option ℤ) → unwrap_or (option_map bit (option_map is_one o)) (pos 0) ≡ bit (is_one (unwrap_or o (pos 0)))
    at None = refl
    at (Some z) = refl

-- a multiple of d from 0 to d is 0 or d
multiple : (n k d : ℕ) → suc n ≡ k * d → suc n ≤ d → suc n ≡ d
multiple n zero d e h = absurd (omega (arith, e))
multiple n (suc k) d e h = omega (arith, e, h)

whole_bit : (p k d : ℤ) → pos 0 <ℤ d → p ≡ k *ℤ d → pos 0 ≤ℤ p → p ≤ℤ d → p ≡ bit (is_one p) *ℤ d
whole_bit (pos zero) k d h e low high = sym (zero-*ℤ d)
whole_bit (pos (suc n)) (pos k) (pos d) h e low high =
    let same : suc n ≡ d = multiple n k d (omega (arith, ints, e)) (omega (arith, ints, high)) in
    ap pos (same ∙ omega arith)
whole_bit (pos (suc n)) (negsuc k) (pos d) h e low high =
    let not_low : pos 0 ≤ℤ negsuc k = cancel_right (pos 0) (negsuc k) d (omega (arith, ints, h)) (omega (arith, ints, e, zero-*ℤ (pos d))) in
    absurd (omega (arith, ints, not_low))
whole_bit (pos (suc n)) k (negsuc d) h e low high = absurd (omega (arith, ints, h))
whole_bit (negsuc n) k d h e low high = absurd (omega (arith, ints, low))

-- the bounds 0 and 1, both times s
within : (s : ℕ) (p d : ℤ) → 0 < s → (pos 0 *ℤ d) ≤ℤ (pos s *ℤ p) → (pos s *ℤ p) ≤ℤ (pos s *ℤ d) → (pos 0 ≤ℤ p) × (p ≤ℤ d)
within s p d h low high = (
  cancel_right (pos 0) p s h (omega (arith, ints, low, *ℤ_comm (pos s) p, zero-*ℤ (pos s), zero-*ℤ d)),
  cancel_right p d s h (omega (arith, ints, high, *ℤ_comm (pos s) p, *ℤ_comm (pos s) d)),
)

binary_number : (m : Model) (x : Point) (j : ℕ) → IsFeasible m x → IsBinaryAt m j → number_at x.p j ≡ number_at (map bit (map is_one x.p)) j *ℤ x.d
binary_number m x j f b =
    let c = b.0 in
    let bounds = f.bounds j c b.1 in
    let whole = f.integers j c b.1 b.2.integer in
    let low = subst (λ o. IsAtLeast (option_map weight o) x.d (pos (10 ^ 30) *ℤ number_at x.p j)) b.2.lower bounds.lower in
    let high = subst (λ o. IsAtMost (option_map weight o) x.d (pos (10 ^ 30) *ℤ number_at x.p j)) b.2.upper bounds.upper in
    let ends = within (10 ^ 30) (number_at x.p j) x.d (lit< tt) low high in
    whole_bit (number_at x.p j) whole.0 x.d f.point.positive whole.1 ends.0 ends.1 ∙ ap (λ z. z *ℤ x.d) (sym (bit_at x.p j))

sum_bits : (m : Model) (x : Point) (terms : List Term) → IsFeasible m x → AreBinary m terms → sum_at x.p terms ≡ sum_at (map bit (map is_one x.p)) terms *ℤ x.d
sum_bits m x [] f all = sym (zero-*ℤ x.d)
sum_bits m x (t ∷ terms) f all =
    let z = map bit (map is_one x.p) in
    ap (λ n. t.1 *ℤ n +ℤ sum_at x.p terms) (binary_number m x t.0 f all.0)
    ∙ ap (λ n. n +ℤ sum_at x.p terms) (sym (*ℤ_assoc t.1 (number_at z t.0) x.d))
    ∙ ap (λ n. (t.1 *ℤ number_at z t.0) *ℤ x.d +ℤ n) (sum_bits m x terms f all.1)
    ∙ sym (+ℤ-*ℤ (t.1 *ℤ number_at z t.0) (sum_at z terms) x.d)

-- over binary columns the point and its zeros and ones meet the same inequalities
bits_meet : (rhs sum whole d : ℤ) → pos 0 <ℤ d → whole ≡ sum *ℤ d → (rhs *ℤ d) ≤ℤ whole → (rhs *ℤ pos 1) ≤ℤ sum
bits_meet rhs sum whole (pos n) h e meets = omega (arith, ints, cancel_right rhs sum n (omega (arith, ints, h)) (subst (λ (z : ℤ). (rhs *ℤ pos n) ≤ℤ z) e meets))
bits_meet rhs sum whole (negsuc n) h e meets = absurd (omega (arith, ints, h))

point_meets : (rhs sum whole d : ℤ) → pos 0 <ℤ d → whole ≡ sum *ℤ d → (rhs *ℤ pos 1) ≤ℤ sum → (rhs *ℤ d) ≤ℤ whole
point_meets rhs sum whole (pos n) h e meets = subst (λ (z : ℤ). (rhs *ℤ pos n) ≤ℤ z) (sym e) (scale_right rhs sum n (omega (arith, ints, meets)))
point_meets rhs sum whole (negsuc n) h e meets = absurd (omega (arith, ints, h))

-- a column with a coefficient is one of the columns
binary_of : (m : Model) (j : ℕ) (u : ℤ) (terms : List Term) → AreBinary m terms → IsSameSign (coefficient j terms) u → IsBinaryAt m j
binary_of m j u [] all (inl s) = absurd (omega (arith, ints, s.0))
binary_of m j u [] all (inr s) = absurd (omega (arith, ints, s.0))
binary_of m j u (t ∷ terms) all s = at (j == t.0) refl s (binary_of m j u terms all.1)
  where
    at : (b : Bool) → (j == t.0) ≡ b → IsSameSign ((if b then t.1 else pos 0) +ℤ coefficient j terms) u → (IsSameSign (coefficient j terms) u → IsBinaryAt m j) → IsBinaryAt m j
    at true e q rest = subst (λ (i : ℕ). IsBinaryAt m i) (sym (eqb-true j t.0 e)) all.0
    at false e q rest = rest (subst (λ (a : ℤ). IsSameSign a u) (none_plus (coefficient j terms)) q)

claim_binary : (m : Model) (from claim : List Term) → AreBinary m from → AllByRecursion (λ t. IsSameSign (coefficient t.0 from) t.1) claim → AreBinary m claim
claim_binary m from [] all signs = tt
claim_binary m from (t ∷ claim) all signs = (binary_of m t.0 t.1 from all signs.0, claim_binary m from claim all signs.1)

pub knap_sound : (m : Model) (from claim : Ineq) (x : Point) → KnapIsRight m from claim → IsFeasible m x → Meets x from → Meets x claim
knap_sound m from claim x r f meets =
    let z = map is_one x.p in
    let size : length z ≡ length m.cols = length-map x.p is_one ∙ f.point.size in
    let first = bits_meet from.rhs (sum_at (map bit z) from.terms) (sum_at x.p from.terms) x.d f.point.positive (sum_bits m x from.terms f r.binary) meets in
    let met = r.holds z size first in
    point_meets claim.rhs (sum_at (map bit z) claim.terms) (sum_at x.p claim.terms) x.d f.point.positive (sum_bits m x claim.terms f (claim_binary m from.terms claim.terms r.binary r.signs)) met
