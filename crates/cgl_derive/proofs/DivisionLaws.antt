-- Laws of the code that divides and rounds.
use Rattle.std.proofs.Common.{◌≡◌, ℕ, zero, suc, ◌+◌, ◌-◌, ◌/◌, ◌<◌, ◌≤◌, ◌^◌, List, [], ◌∷◌, ◌++◌, map, length, take, drop, get_or, refl, sym, ap, ◌∙◌, subst, arith, Bool, true, false, to_z, of_z}
use Rattle.std.specs.Prelude.{ℤ, pos, negsuc, unsigned_abs, int_div, int_rem, int_lt, ◌<ℤ◌, ◌+ℤ◌}
use Rattle.std.specs.Int.{w128}
use Rattle.std.specs.Int.RustNames.{FitsSigned}
use Rattle.std.proofs.lemmas.Int.{ints, fits_signed_from_abs, to_z-of_z, quot_fits, quot_is, rem_is}
use Rattle.std.proofs.lemmas.List.{drop_all}
use Rattle.std.proofs.Math.IntN.{neg_ℤ}
use Rattle.std.proofs.Math.Nat.{div-le_self, div-add-mod'}
use Rattle.std.proofs.Math.Seq.{drop-cons}
use Rattle.cgl_num.specs.Gcd.{gcd, gcd_of}
use Rattle.cgl_model.specs.declared.linear.Ineq.{Ineq}
use Rattle.cgl_model.specs.Inequality.{Term}
use Rattle.cgl_model.specs.Rising.{IsAboveAll, IsRising, IsCoefficient}
use Rattle.cgl_derive.specs.Rounding.{ceiling, divisor_of}
use Rattle.cgl_derive.proofs.RoundingLaws.{by_sign}

-- the column of a term is above those before it
pub above_taken : (terms : List Term) (i : ℕ) (d : Term) → IsRising terms → i < length terms → IsAboveAll (take i terms) (get_or terms i d).0
above_taken [] i d r h = absurd (omega arith)
above_taken (u ∷ terms) zero d r h = tt
above_taken (u ∷ []) (suc i) d r h = absurd (omega arith)
above_taken (u ∷ v ∷ terms) (suc zero) d r h = r.1
above_taken (u ∷ v ∷ terms) (suc (suc i)) d r h = above_taken (v ∷ terms) (suc i) d r.2 (omega arith)

pub may_stand : (terms : List Term) (i : ℕ) (d : Term) → IsRising terms → i < length terms → IsCoefficient (get_or terms i d).1
may_stand [] i d r h = absurd (omega arith)
may_stand (u ∷ []) zero d r h = r
may_stand (u ∷ []) (suc i) d r h = absurd (omega arith)
may_stand (u ∷ v ∷ terms) zero d r h = r.0
may_stand (u ∷ v ∷ terms) (suc i) d r h = may_stand (v ∷ terms) i d r.2 (omega arith)

-- other coefficients under the same columns
pub above_map : (f : Term → Term) → ((t : Term) → (f t).0 ≡ t.0) → (terms : List Term) (j : ℕ) → IsAboveAll terms j → IsAboveAll (map f terms) j
above_map f same [] j a = tt
above_map f same (t ∷ []) j a = subst (λ (c : ℕ). c < j) (sym (same t)) a
above_map f same (t ∷ u ∷ terms) j a = above_map f same (u ∷ terms) j a

map_next : (f : Term → Term) (terms : List Term) (i : ℕ) (d : Term) → i < length terms → map f (take i terms) ++ (f (get_or terms i d) ∷ []) ≡ map f (take (suc i) terms)
map_next f [] i d h = absurd (omega arith)
map_next f (t ∷ []) zero d h = refl
map_next f (t ∷ u ∷ terms) zero d h = refl
map_next f (t ∷ terms) (suc i) d h = ap (λ z. f t ∷ z) (map_next f terms i d (omega arith))

-- one divided term more
pub divided_push : (items terms so_far new : List Term) (i : ℕ) (d : Term) (g q : ℤ) → items ≡ terms → i < length items
    → so_far ≡ map (λ t. (t.0, int_div t.1 g)) (take i terms) → q ≡ int_div (get_or items i d).1 g → new ≡ so_far ++ (((get_or items i d).0, q) ∷ [])
    → new ≡ map (λ t. (t.0, int_div t.1 g)) (take (i + 1) terms)
divided_push items terms so_far new i d g q same h before quotient is =
    let f : Term → Term = λ t. (t.0, int_div t.1 g) in
    let next : suc i ≡ i + 1 = omega arith in
    is ∙ ap (λ z. so_far ++ (((get_or items i d).0, z) ∷ [])) quotient ∙ ap (λ z. z ++ (f (get_or items i d) ∷ [])) (before ∙ ap (λ z. map f (take i z)) (sym same))
    ∙ map_next f items i d h ∙ ap (λ k. map f (take k items)) next ∙ ap (λ z. map f (take (i + 1) z)) same

pub narrow_fits : (z : ℤ) → unsigned_abs z < 2 ^ 127 → FitsSigned w128 z
narrow_fits (pos n) h = record { sfits = h }
narrow_fits (negsuc n) h = record { sfits = omega arith }

-- ---- quotients as they are held in words

pub above_word : (g : ℤ) → pos 0 <ℤ g → 0 < of_z w128 g
above_word (pos zero) h = absurd (omega (arith, ints))
above_word (pos (suc n)) h = omega arith
above_word (negsuc n) h = absurd h.lt

plus_none : (z : ℤ) → z ≡ z +ℤ pos 0
plus_none z = omega (arith, ints)

-- the remainder's sign, as the numbers are held in words
rem_sign : (z g : ℤ) (b : Bool) → FitsSigned w128 z → FitsSigned w128 g → int_lt (pos 0) (to_z w128 (of_z w128 (int_rem (to_z w128 (of_z w128 z)) (to_z w128 (of_z w128 g))))) ≡ b → int_lt (pos 0) (int_rem z g) ≡ b
rem_sign z g b f h e = ap (int_lt (pos 0)) (sym (rem_is w128 z g f h)) ∙ e

neg_next_fits : (a : ℕ) → a ≤ 2 ^ 127 → FitsSigned w128 (neg_ℤ (pos a) +ℤ pos 1)
neg_next_fits zero h = record { sfits = omega arith }
neg_next_fits (suc zero) h = record { sfits = omega arith }
neg_next_fits (suc (suc a)) h = fits_signed_from_abs w128 _ (omega (arith, ints))

next_fits : (z g : ℤ) → FitsSigned w128 z → pos 0 <ℤ g → int_lt (pos 0) (int_rem z g) ≡ true → FitsSigned w128 (int_div z g +ℤ pos 1)
next_fits (pos n) (pos zero) f h e = absurd (omega (arith, ints))
next_fits (pos n) (pos (suc k)) f h e = record { sfits = omega (arith, ints, div-add-mod' n (suc k), f.sfits, e) }
next_fits (negsuc n) (pos k) f h e = neg_next_fits (suc n / k) (omega (arith, f.sfits, div-le_self (suc n) k))
next_fits z (negsuc k) f h e = absurd h.lt

pub next_fits_word : (z g : ℤ) → FitsSigned w128 z → FitsSigned w128 g → pos 0 <ℤ g
    → int_lt (pos 0) (to_z w128 (of_z w128 (int_rem (to_z w128 (of_z w128 z)) (to_z w128 (of_z w128 g))))) ≡ true
    → FitsSigned w128 (to_z w128 (of_z w128 (int_div (to_z w128 (of_z w128 z)) (to_z w128 (of_z w128 g)))) +ℤ pos 1)
next_fits_word z g f h p e =
    subst (λ q. FitsSigned w128 (q +ℤ pos 1)) (sym (quot_is w128 z g f h (quot_fits w128 z g f p))) (next_fits z g f p (rem_sign z g true f h e))

pub next_is_ceiling : (z g : ℤ) → FitsSigned w128 z → FitsSigned w128 g → pos 0 <ℤ g
    → int_lt (pos 0) (to_z w128 (of_z w128 (int_rem (to_z w128 (of_z w128 z)) (to_z w128 (of_z w128 g))))) ≡ true
    → to_z w128 (of_z w128 (to_z w128 (of_z w128 (int_div (to_z w128 (of_z w128 z)) (to_z w128 (of_z w128 g)))) +ℤ pos 1)) ≡ ceiling z g
next_is_ceiling z g f h p e =
    let sign = rem_sign z g true f h e in
    ap (λ q. to_z w128 (of_z w128 (q +ℤ pos 1))) (quot_is w128 z g f h (quot_fits w128 z g f p))
    ∙ to_z-of_z w128 _ (next_fits z g f p sign) ∙ sym (by_sign z g true sign)

pub quotient_is_ceiling : (z g : ℤ) → FitsSigned w128 z → FitsSigned w128 g → pos 0 <ℤ g
    → int_lt (pos 0) (to_z w128 (of_z w128 (int_rem (to_z w128 (of_z w128 z)) (to_z w128 (of_z w128 g))))) ≡ false
    → to_z w128 (of_z w128 (int_div (to_z w128 (of_z w128 z)) (to_z w128 (of_z w128 g)))) ≡ ceiling z g
quotient_is_ceiling z g f h p e =
    quot_is w128 z g f h (quot_fits w128 z g f p) ∙ plus_none (int_div z g) ∙ sym (by_sign z g false (rem_sign z g false f h e))

pub ineq_is : (terms terms' : List Term) (rhs rhs' : ℤ) → terms ≡ terms' → rhs ≡ rhs' → ◌≡◌ {A = Ineq} (record { terms = terms; rhs = rhs }) (record { terms = terms'; rhs = rhs' })
ineq_is terms terms' rhs rhs' e f = cc

-- ---- the gcd of the coefficients

pub divisor_cons : (t : Term) (terms : List Term) → divisor_of (t ∷ terms) ≡ gcd (unsigned_abs t.1) (divisor_of terms)
unfolding gcd_of
divisor_cons t terms = refl

pub divisor_nil : divisor_of [] ≡ 0
unfolding gcd_of
divisor_nil = refl

pub divisor_end : (terms : List Term) → pos 0 ≡ pos (divisor_of (drop (length terms) terms))
divisor_end terms = ap pos (sym (ap divisor_of (drop_all (length terms) terms (omega arith)) ∙ divisor_nil))

-- one term more, from the end
pub divisor_step : (terms : List Term) (i : ℕ) (d : Term) → 0 < i → i ≤ length terms → divisor_of (drop (i - 1) terms) ≡ gcd (unsigned_abs (get_or terms (i - 1) d).1) (divisor_of (drop i terms))
divisor_step terms zero d p h = absurd (omega arith)
divisor_step terms (suc i) d p h =
    let e : suc i - 1 ≡ i = omega arith in
    rw e (ap divisor_of (drop-cons terms i d (omega arith)) ∙ divisor_cons (get_or terms i d) (drop (suc i) terms))
