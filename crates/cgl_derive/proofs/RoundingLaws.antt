-- Laws of quotients, and of numbers rounded up.
use Rattle.std.proofs.Common.{◌≡◌, ℕ, zero, suc, ℤ, pos, negsuc, ◌/◌, ◌<◌, ◌^◌, List, [], ◌∷◌, map, length, Bool, true, false, cond, get_or, refl, sym, ap, ◌∙◌, subst, arith}
use Rattle.std.specs.Prelude.{◌+ℤ◌, ◌-ℤ◌, ◌*ℤ◌, ◌≤ℤ◌, ◌<ℤ◌, int_div, int_rem, int_lt, unsigned_abs, IsTrue, option_map, unwrap_or, slice_get}
use Rattle.std.specs.Int.{◌∣◌}
use Rattle.std.specs.List.{All, AllZip}
use Rattle.std.proofs.lemmas.Int.{ints, by_lt_z, quot-rem, rem_below}
use Rattle.std.proofs.lemmas.Bool.{false≢true}
use Rattle.std.proofs.lemmas.List.Elements.{All-nil, All-cons, All-head, All-tail}
use Rattle.std.proofs.lemmas.Nat.Gcd.{mod-eq-zero_of_dvd, dvd_of_mod-eq-zero}
use Rattle.std.proofs.Math.IntN.{neg_ℤ, *ℤ_comm, *ℤ-zero}
use Rattle.std.proofs.Math.Nat.{div-le_self}
use Rattle.cgl_num.specs.IntegerLaws.{*ℤ-+ℤ, cancel_left, one_ceiling}
use Rattle.cgl_model.specs.declared.linear.Ineq.{Ineq}
use Rattle.cgl_model.specs.declared.mip.Column.{Column}
use Rattle.cgl_model.specs.declared.mip.Model.{Model}
use Rattle.cgl_model.specs.Inequality.{Term}
use Rattle.cgl_model.specs.Rising.{IsCoefficient, IsRising}
use Rattle.cgl_derive.specs.Derives.{AreColumns, AreIntegers, IsTimes, RoundIsRight}
use Rattle.cgl_derive.specs.Rounding.{ceiling, divides, divides_all, quotients, rounded}
use Rattle.cgl_derive.proofs.TestLaws.{and_true, true_and, int_same, same_int}

-- ---- exact quotients

-- what g divides is g times the quotient
pub exact : (z g : ℤ) → IsTrue (divides g z) → z ≡ g *ℤ int_div z g
exact z g d =
    let none : int_rem z g ≡ pos 0 = int_same (int_rem z g) (pos 0) d in
    omega (arith, ints, quot-rem z g, none, *ℤ_comm g (int_div z g))

one_times : (g : ℤ) → g *ℤ pos 1 ≡ g
one_times g = omega (arith, ints)

minus_times : (g : ℤ) → g *ℤ negsuc 0 +ℤ g ≡ pos 0
minus_times g = omega (arith, ints)

-- a multiple of g has one quotient, and no remainder
one_quotient : (z g u : ℤ) → pos 0 <ℤ g → z ≡ g *ℤ u → (int_div z g ≡ u) × (int_rem z g ≡ pos 0)
one_quotient z g u h e =
    let q = int_div z g in
    let r = int_rem z g in
    let is = quot-rem z g in
    let near : unsigned_abs r < unsigned_abs g = rem_below z g (omega (arith, ints, h)) in
    let lower : (g *ℤ u) <ℤ (g *ℤ (q +ℤ pos 1)) = omega (arith, ints, e, is, near, h, *ℤ-+ℤ g q (pos 1), *ℤ_comm g q, one_times g) in
    let upper : (g *ℤ (q +ℤ negsuc 0)) <ℤ (g *ℤ u) = omega (arith, ints, e, is, near, h, *ℤ-+ℤ g q (negsuc 0), *ℤ_comm g q, minus_times g) in
    let below = cancel_left g u (q +ℤ pos 1) h lower in
    let above = cancel_left g (q +ℤ negsuc 0) u h upper in
    let same : q ≡ u = omega (arith, ints, below, above) in
    (same, omega (arith, ints, is, e, *ℤ_comm g q, ap (λ x. g *ℤ x) same))

pub multiple_divides : (z g u : ℤ) → pos 0 <ℤ g → z ≡ g *ℤ u → IsTrue (divides g z)
multiple_divides z g u h e = same_int (int_rem z g) (pos 0) (one_quotient z g u h e).1

abs_neg : (n : ℕ) → unsigned_abs (neg_ℤ (pos n)) ≡ n
abs_neg zero = refl
abs_neg (suc n) = refl

abs_quotient : (z : ℤ) (g : ℕ) → unsigned_abs (int_div z (pos g)) ≡ unsigned_abs z / g
abs_quotient (pos n) g = refl
abs_quotient (negsuc n) g = abs_neg (suc n / g)

pub quotient_below : (z g : ℤ) (n : ℕ) → pos 0 <ℤ g → unsigned_abs z < n → unsigned_abs (int_div z g) < n
quotient_below z (pos g) n h l = omega (arith, abs_quotient z g, div-le_self (unsigned_abs z) g, l)
quotient_below z (negsuc g) n h l = absurd (omega (arith, ints, h))

-- an exact quotient of a coefficient may stand as one
pub quotient_stands : (z g : ℤ) → pos 0 <ℤ g → IsTrue (divides g z) → IsCoefficient z → IsCoefficient (int_div z g)
quotient_stands z g h d c = record {
  not_zero = (λ e. c.not_zero (exact z g d ∙ ap (λ q. g *ℤ q) e ∙ *ℤ-zero g));
  narrow = quotient_below z g (2 ^ 127) h c.narrow;
}

pub divided_at : (g : ℤ) (terms : List Term) (i : ℕ) (d : Term) → IsTrue (divides_all g terms) → i < length terms → IsTrue (divides g (get_or terms i d).1)
divided_at g [] i d all h = absurd (omega arith)
divided_at g (t ∷ terms) zero d all h = (and_true (divides g t.1) (divides_all g terms) all).0
divided_at g (t ∷ terms) (suc i) d all h = divided_at g terms i d (and_true (divides g t.1) (divides_all g terms) all).1 (omega arith)

-- ---- a number rounded up

pub by_sign : (z g : ℤ) (b : Bool) → int_lt (pos 0) (int_rem z g) ≡ b → ceiling z g ≡ int_div z g +ℤ cond b (pos 1) (pos 0)
by_sign z g b e = ap (λ t. int_div z g +ℤ cond t (pos 1) (pos 0)) e

above_test : (r : ℤ) → pos 0 <ℤ r → int_lt (pos 0) r ≡ true
above_test r h = grind (arith, ints)

below_test : (r : ℤ) → r ≤ℤ pos 0 → int_lt (pos 0) r ≡ false
below_test r h = grind (arith, ints)

one_less : (q : ℤ) → (q +ℤ pos 1) -ℤ pos 1 ≡ q
one_less q = omega (arith, ints)

none_less : (q : ℤ) → (q +ℤ pos 0) -ℤ pos 1 ≡ q +ℤ negsuc 0
none_less q = omega (arith, ints)

-- g q + r is z, and r is nearer to 0 than g
pub ceiling_bounds : (z g : ℤ) → pos 0 <ℤ g → (z ≤ℤ (g *ℤ ceiling z g)) × ((g *ℤ (ceiling z g -ℤ pos 1)) <ℤ z)
ceiling_bounds z g h =
    let q = int_div z g in
    let r = int_rem z g in
    let is = quot-rem z g in
    let near : unsigned_abs r < unsigned_abs g = rem_below z g (omega (arith, ints, h)) in
    let P : ℤ → Type 0 = λ c. (z ≤ℤ (g *ℤ c)) × ((g *ℤ (c -ℤ pos 1)) <ℤ z) in
    by_lt_z (pos 0) r
    (λ l. subst P (sym (by_sign z g true (above_test r l)))
    (omega (arith, ints, is, l, near, *ℤ-+ℤ g q (pos 1), *ℤ_comm g q), omega (arith, ints, is, l, near, *ℤ_comm g q, ap (λ c. g *ℤ c) (one_less q))))
    (λ l. subst P (sym (by_sign z g false (below_test r l)))
    (omega (arith, ints, is, l, near, h, *ℤ-+ℤ g q (pos 0), *ℤ_comm g q), omega (arith, ints, is, l, near, h, *ℤ-+ℤ g q (negsuc 0), *ℤ_comm g q, ap (λ c. g *ℤ c) (none_less q))))

-- ---- the step

zip_quotients : (g : ℤ) (terms : List Term) → IsTrue (divides_all g terms) → AllZip (IsTimes g) terms (quotients g terms)
zip_quotients g [] all = tt
zip_quotients g (t ∷ terms) all =
    let both = and_true (divides g t.1) (divides_all g terms) all in
    ((refl, exact t.1 g both.0), zip_quotients g terms both.1)

column_there : (cols : List Column) (j : ℕ) → IsTrue (unwrap_or (option_map (λ c. c.integer) (slice_get cols j)) false) → j < length cols
column_there [] j h = absurd (false≢true h)
column_there (c ∷ cols) zero h = omega arith
column_there (c ∷ cols) (suc j) h = let rest = column_there cols j h in omega (arith, rest)

integers_are_columns : (m : Model) (g : ℤ) (terms : List Term) → AreIntegers m terms → AreColumns m (quotients g terms)
integers_are_columns m g [] all = tt
integers_are_columns m g (t ∷ terms) all = (column_there m.cols t.0 all.0, integers_are_columns m g terms all.1)

-- the inequality divided and rounded is a right claim
pub rounded_right : (m : Model) (from : Ineq) (g : ℤ) → pos 0 <ℤ g → IsTrue (divides_all g from.terms) → AreIntegers m from.terms → RoundIsRight m from g (rounded g from)
rounded_right m from g h all integers =
    let bounds = ceiling_bounds from.rhs g h in
    record {
      positive = h;
      columns = integers_are_columns m g from.terms integers;
      integer = integers;
      terms = zip_quotients g from.terms all;
      reached = bounds.0;
      least = bounds.1;
    }

divided_zip : (g : ℤ) (from terms : List Term) → pos 0 <ℤ g → AllZip (IsTimes g) from terms → IsTrue (divides_all g from) × (terms ≡ quotients g from)
divided_zip g [] [] h z = (refl, refl)
divided_zip g (t ∷ from) [] h z = absurd z
divided_zip g [] (u ∷ terms) h z = absurd z
divided_zip g (t ∷ from) (u ∷ terms) h ((column, number), rest) =
    let quotient = one_quotient t.1 g u.1 h number in
    let others = divided_zip g from terms h rest in
    (true_and (divides g t.1) (divides_all g from) (same_int _ _ quotient.1) others.0, ap (λ c. (c, u.1) ∷ terms) (sym column) ∙ ap (λ n. (t.0, n) ∷ terms) (sym quotient.0) ∙ ap (λ z. (t.0, int_div t.1 g) ∷ z) others.1)

pub right_divides : (m : Model) (from claim : Ineq) (g : ℤ) → RoundIsRight m from g claim → IsTrue (divides_all g from.terms)
right_divides m from claim g r = (divided_zip g from.terms claim.terms r.positive r.terms).0

-- it is the only one
pub right_is_rounded : (m : Model) (from claim : Ineq) (g : ℤ) → RoundIsRight m from g claim → claim ≡ rounded g from
right_is_rounded m from claim g r =
    let bounds = ceiling_bounds from.rhs g r.positive in
    let by_terms : List Term → Ineq = λ terms. record { terms = terms; rhs = claim.rhs } in
    let by_rhs : ℤ → Ineq = λ rhs. record { terms = quotients g from.terms; rhs = rhs } in
    ap by_terms (divided_zip g from.terms claim.terms r.positive r.terms).1
    ∙ ap by_rhs (one_ceiling from.rhs g claim.rhs (ceiling from.rhs g) r.positive r.reached r.least bounds.0 bounds.1)

-- ---- the gcd of the coefficients

remainder_none : (z : ℤ) (g : ℕ) → g ∣ unsigned_abs z → int_rem z (pos g) ≡ pos 0
remainder_none (pos n) g d = ap pos (mod-eq-zero_of_dvd g d)
remainder_none (negsuc n) g d = ap (λ r. neg_ℤ (pos r)) (mod-eq-zero_of_dvd g d)

remainder_divides : (z : ℤ) (g : ℕ) → int_rem z (pos g) ≡ pos 0 → g ∣ unsigned_abs z
remainder_divides (pos n) g e = dvd_of_mod-eq-zero g (omega (arith, ints, e))
remainder_divides (negsuc n) g e = dvd_of_mod-eq-zero g (omega (arith, ints, e))

pub all_divided : (g : ℕ) (terms : List Term) → All (λ z. g ∣ unsigned_abs z) (map (λ t. t.1) terms) → IsTrue (divides_all (pos g) terms)
all_divided g [] all = refl
all_divided g (t ∷ terms) all =
    let D : ℤ → Type 0 = λ z. g ∣ unsigned_abs z in
    let here = same_int (int_rem t.1 (pos g)) (pos 0) (remainder_none t.1 g (All-head D t.1 (map (λ u. u.1) terms) all)) in
    true_and (divides (pos g) t.1) (divides_all (pos g) terms) here (all_divided g terms (All-tail D t.1 (map (λ u. u.1) terms) all))

pub divided_all : (g : ℕ) (terms : List Term) → IsTrue (divides_all (pos g) terms) → All (λ z. g ∣ unsigned_abs z) (map (λ t. t.1) terms)
divided_all g [] all = All-nil _
divided_all g (t ∷ terms) all =
    let both = and_true (divides (pos g) t.1) (divides_all (pos g) terms) all in
    All-cons (λ z. g ∣ unsigned_abs z) t.1 (map (λ u. u.1) terms) (remainder_divides t.1 g (int_same (int_rem t.1 (pos g)) (pos 0) both.0)) (divided_all g terms both.1)

-- a list with terms has a coefficient that is not 0
pub not_all_zero : (terms : List Term) → IsRising terms → (terms ≡ [] → ⊥) → All (λ z. z ≡ pos 0) (map (λ t. t.1) terms) → ⊥
not_all_zero [] r some all = some refl
not_all_zero (t ∷ []) r some all = r.not_zero (All-head (λ z. z ≡ pos 0) t.1 [] all)
not_all_zero (t ∷ u ∷ terms) r some all = r.0.not_zero (All-head (λ z. z ≡ pos 0) t.1 (map (λ v. v.1) (u ∷ terms)) all)

pub above_none : (n : ℕ) → (n ≡ 0 → ⊥) → 0 < n
above_none zero h = absurd (h refl)
above_none (suc n) h = omega arith
