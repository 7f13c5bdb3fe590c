-- The steps by which sides are listed.
use Rattle.std.proofs.Common.{◌≡◌, ℕ, zero, suc, ℤ, pos, negsuc, ◌+◌, ◌-◌, ◌*◌, ◌^◌, ◌≤◌, ◌<◌, ap, ap₂, refl, sym, ◌∙◌, subst, arith, lit<, List, [], ◌∷◌, ◌++◌, length, get_or, take, to_z, of_z}
use Rattle.std.specs.Prelude.{◌*ℤ◌, unsigned_abs, FitsSigned, Some}
use Rattle.std.specs.Int.{w128}
use Rattle.std.proofs.Math.IntN.{neg_ℤ}
use Rattle.std.proofs.Math.Nat.{one-le-pow, pow-le-pow_right}
use Rattle.std.proofs.lemmas.Int.{ints, to_z-of_z, unsigned_abs-mul}
use Rattle.std.proofs.lemmas.List.{append_assoc, map_more}
use Rattle.cgl_num.specs.Decimal.{Decimal, IsDecimal, places, places_in, scaled, scaled_by, times_power}
use Rattle.cgl_num.specs.Fraction.{Fraction, lowest}
use Rattle.cgl_model.specs.declared.places.End.TheVariants.{Upper}
use Rattle.cgl_model.specs.declared.mip.Column.{Column}
use Rattle.cgl_model.specs.declared.places.Place.TheVariants.{Bound}
use Rattle.cgl_model.specs.declared.places.Side.{Side}
use Rattle.cgl_model.specs.Inequality.{Term}
use Rattle.cgl_model.specs.IntegerForm.{bound_of, column_sides, lower_bound_side, negated, upper_bound_side}
use Rattle.cgl_model.specs.Rising.{IsAboveAll, IsCoefficient, IsRising}
use Rattle.cgl_model.specs.RowEntries.{RiseFrom}
use Rattle.cgl_model.proofs.ColumnLaws.{negated_below}
use Rattle.cgl_model.proofs.RiseLaws.{below_above, earlier_below}

-- ---- negated terms

rise_on : (j : ℕ) (t : Term) (terms : List Term) → j ≤ t.0 → IsRising (t ∷ terms) → RiseFrom j (t ∷ terms)
rise_on j t [] h r = (h, tt)
rise_on j t (u ∷ terms) h r = (h, rise_on (t.0 + 1) u terms (let less = r.1 in omega arith) r.2)

pub rising_rise : (terms : List Term) → IsRising terms → RiseFrom 0 terms
rising_rise [] r = tt
rising_rise (t ∷ terms) r = rise_on 0 t terms (omega arith) r

pub coefficient_at : (terms : List Term) (i : ℕ) (t : Term) → IsRising terms → i < length terms → IsCoefficient (get_or terms i t).1
coefficient_at [] i t r h = absurd (omega arith)
coefficient_at (u ∷ []) zero t r h = r
coefficient_at (u ∷ []) (suc i) t r h = absurd (omega arith)
coefficient_at (u ∷ v ∷ terms) zero t r h = r.0
coefficient_at (u ∷ v ∷ terms) (suc i) t r h = coefficient_at (v ∷ terms) i t r.2 (omega arith)

pub negated_above : (terms copy : List Term) (i : ℕ) (t : Term) → IsRising terms → i < length terms → copy ≡ negated (take i terms) → IsAboveAll copy (get_or terms i t).0
negated_above terms copy i t r h e =
    let c = (get_or terms i t).0 in
    let F : List Term → Type 0 = λ ts. IsAboveAll ts c in
    subst F (sym e) (below_above _ c (negated_below c (take i terms) (earlier_below 0 terms i t (rising_rise terms r) h)))

pub negated_coefficient : (z : ℤ) → IsCoefficient z → IsCoefficient (neg_ℤ z)
negated_coefficient (pos zero) h = absurd (h.not_zero refl)
negated_coefficient (pos (suc n)) h = let narrow = h.narrow in record { not_zero = λ e. cc; narrow = omega arith }
negated_coefficient (negsuc n) h = let narrow = h.narrow in record { not_zero = λ e. cc; narrow = omega arith }

pub negated_push : (terms : List Term) (i : ℕ) (t : Term) (before after : List Term) → i < length terms → before ≡ negated (take i terms)
    → after ≡ before ++ ((get_or terms i t).0, neg_ℤ (get_or terms i t).1) ∷ [] → after ≡ negated (take (i + 1) terms)
negated_push terms i t before after h first now =
    let u = get_or terms i t in
    now ∙ ap (λ xs. xs ++ (u.0, neg_ℤ u.1) ∷ []) first ∙ sym (map_more (λ v. (v.0, neg_ℤ v.1)) terms i t h)

-- ---- bounds

plain_by : (m e : ℤ) → scaled_by (places_in e) m e ≡ times_power m e
plain_by m (pos e) = ap (λ n. m *ℤ pos (10 ^ n)) (omega arith)
plain_by m (negsuc e) =
    let none : suc e - suc e ≡ 0 = omega arith in
    ap (λ n. m *ℤ pos (10 ^ n)) none ∙ omega (arith, ints)

-- the numerator before it is divided
pub numerator_size : (d : Decimal) (p : ℕ) → IsDecimal d → scaled (places d) d ≡ d.m *ℤ pos (10 ^ p) → unsigned_abs d.m * 10 ^ p < 10 ^ 36
numerator_size d p h e =
    let size = h.within.size in
    let same = ap unsigned_abs (sym (plain_by d.m d.e) ∙ e) ∙ unsigned_abs-mul d.m (pos (10 ^ p)) in
    omega (arith, size, same)

pub power_size : (m : ℤ) (p : ℕ) → (m ≡ pos 0 → p ≤ 30) → unsigned_abs m * 10 ^ p < 10 ^ 36 → 10 ^ p < 10 ^ 36
power_size (pos zero) p h e =
    let most : 10 ^ p ≤ 10 ^ 30 = pow-le-pow_right (lit< tt) (h refl) in
    let small : 10 ^ 30 < 10 ^ 36 = lit< tt in
    omega arith
power_size (pos (suc n)) p h e = omega (arith, e)
power_size (negsuc n) p h e = omega (arith, e)

pub places_size : (k : ℕ) → k ≤ 30 → 10 ^ k < 10 ^ 36
places_size k h =
    let most : 10 ^ k ≤ 10 ^ 30 = pow-le-pow_right (lit< tt) h in
    let small : 10 ^ 30 < 10 ^ 36 = lit< tt in
    omega arith

pub ten_above : (k : ℕ) → 0 < 10 ^ k
ten_above k = one-le-pow k 10 (lit< tt)

pub bound_is : (f : Fraction) (n e : ℤ) (d : Decimal) → f ≡ lowest n e → n ≡ scaled (places d) d → e ≡ pos (10 ^ places d) → f ≡ bound_of d
bound_is f n e d is p q = is ∙ ap (λ z. lowest z e) p ∙ ap (λ z. lowest (scaled (places d) d) z) q

pub fits_narrow : (z : ℤ) → unsigned_abs z < 2 ^ 127 → FitsSigned w128 z
fits_narrow (pos n) h = record { sfits = h }
fits_narrow (negsuc n) h = record { sfits = omega (arith, ints, h) }

-- the numerator, as the product of the mantissa with a power of ten
pub record IsNumerator (d : Decimal) (m f : ℤ) : Type 0 where
  pub is : to_z w128 (of_z w128 m) *ℤ to_z w128 (of_z w128 f) ≡ scaled (places d) d
  pub narrow : unsigned_abs (scaled (places d) d) < 2 ^ 127

pub numerator : (d : Decimal) (k p : ℕ) (m f : ℤ) → IsDecimal d → k ≡ places d → scaled k d ≡ d.m *ℤ pos (10 ^ p) → m ≡ d.m → f ≡ pos (10 ^ p)
    → FitsSigned w128 m → FitsSigned w128 f → IsNumerator d m f
numerator d k p m f valid e power same ten g h =
    let whole = sym (ap (λ n. scaled n d) e) ∙ power in
    let size = numerator_size d p valid whole in
    let magnitude = ap unsigned_abs whole ∙ unsigned_abs-mul d.m (pos (10 ^ p)) in
    record {
      is = rw (to_z-of_z w128 m g, to_z-of_z w128 f h, same, ten) (sym whole);
      narrow = omega (arith, magnitude, size);
    }

-- the sides of a column's bounds, the upper one with these negatives
pub upper_push : (before middle after : List Side) (j : ℕ) (c : Column) (d : Decimal) (y z : ℤ) → c.up ≡ Some d → middle ≡ before ++ lower_bound_side j c.lo
    → after ≡ middle ++ record { place = Bound j Upper; ineq = record { terms = (j, y) ∷ []; rhs = z } } ∷ [] → y ≡ neg_ℤ (bound_of d).den → z ≡ neg_ℤ (bound_of d).num
    → after ≡ before ++ column_sides j c
upper_push before middle after j c d y z is first now f g =
    let S : ℤ → ℤ → List Side = λ w r. record { place = Bound j Upper; ineq = record { terms = (j, w) ∷ []; rhs = r } } ∷ [] in
    let upper : S y z ≡ upper_bound_side j c.up = ap₂ S f g ∙ ap (upper_bound_side j) (sym is) in
    now ∙ ap₂ (λ xs ys. xs ++ ys) first upper ∙ append_assoc before (lower_bound_side j c.lo) (upper_bound_side j c.up)
