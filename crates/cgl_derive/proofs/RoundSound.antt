-- A feasible point that meets an inequality meets what a right rounding step makes of it.
use Rattle.std.proofs.Common.{◌≡◌, ℕ, ℤ, pos, negsuc, ◌<◌, List, [], ◌∷◌, Option, Some, None, true, false, refl, sym, ap, ◌∙◌, subst, arith}
use Rattle.std.specs.Prelude.{◌+ℤ◌, ◌-ℤ◌, ◌*ℤ◌, ◌≤ℤ◌, ◌<ℤ◌, slice_get, IsTrue, option_map, unwrap_or}
use Rattle.std.specs.List.{AllZip}
use Rattle.std.proofs.lemmas.Int.{ints}
use Rattle.std.proofs.lemmas.Bool.{false≢true}
use Rattle.std.proofs.Math.IntN.{*ℤ-zero, zero-*ℤ}
use Rattle.cgl_num.specs.IntegerLaws.{*ℤ_assoc, *ℤ-+ℤ, +ℤ-*ℤ, cancel_right, cancel_left, scale_right}
use Rattle.cgl_model.specs.declared.linear.Ineq.{Ineq}
use Rattle.cgl_model.specs.declared.mip.Column.{Column}
use Rattle.cgl_model.specs.declared.mip.Model.{Model}
use Rattle.cgl_model.specs.Feasible.{IsFeasible, IsWhole}
use Rattle.cgl_model.specs.Inequality.{Term, Meets, sum_at}
use Rattle.cgl_model.specs.Point.{Point, number_at}
use Rattle.cgl_derive.specs.Derives.{is_integer, AreIntegers, IsTimes, RoundIsRight}

-- ---- whole columns

integer_column : (o : Option Column) → IsTrue (unwrap_or (option_map (λ c. c.integer) o) false) → (c : Column) × (o ≡ Some c) × (c.integer ≡ true)
integer_column None h = absurd (false≢true h)
integer_column (Some c) h = (c, refl, h)

whole_column : (m : Model) (x : Point) (j : ℕ) → IsFeasible m x → IsTrue (is_integer m j) → IsWhole x.d (number_at x.p j)
whole_column m x j f h =
    let c = integer_column (slice_get m.cols j) h in
    f.integers j c.0 c.1 c.2

-- over integer columns a sum is a multiple of the denominator
pub whole_sum : (m : Model) (x : Point) (terms : List Term) → IsFeasible m x → AreIntegers m terms → IsWhole x.d (sum_at x.p terms)
whole_sum m x [] f all = (pos 0, sym (zero-*ℤ x.d))
whole_sum m x (t ∷ terms) f all =
    let rest = whole_sum m x terms f all.1 in
    let here = whole_column m x t.0 f all.0 in
    (t.1 *ℤ here.0 +ℤ rest.0, ap (λ z. z +ℤ sum_at x.p terms) (ap (λ z. t.1 *ℤ z) here.1 ∙ sym (*ℤ_assoc t.1 here.0 x.d)) ∙ ap (λ z. (t.1 *ℤ here.0) *ℤ x.d +ℤ z) rest.1 ∙ sym (+ℤ-*ℤ (t.1 *ℤ here.0) rest.0 x.d))

-- ---- rounding

sum_times : (p : List ℤ) (g : ℤ) (from terms : List Term) → AllZip (IsTimes g) from terms → sum_at p from ≡ g *ℤ sum_at p terms
sum_times p g [] [] z = sym (*ℤ-zero g)
sum_times p g (t ∷ from) [] z = absurd z
sum_times p g [] (u ∷ terms) z = absurd z
sum_times p g (t ∷ from) (u ∷ terms) ((column, number), rest) =
    ap (λ c. t.1 *ℤ number_at p c +ℤ sum_at p from) column ∙ ap (λ n. n *ℤ number_at p u.0 +ℤ sum_at p from) number ∙ ap (λ z. z +ℤ sum_at p from) (*ℤ_assoc g u.1 (number_at p u.0))
    ∙ ap (λ z. g *ℤ (u.1 *ℤ number_at p u.0) +ℤ z) (sum_times p g from terms rest) ∙ sym (*ℤ-+ℤ g (u.1 *ℤ number_at p u.0) (sum_at p terms))

same_columns : (m : Model) (g : ℤ) (from terms : List Term) → AllZip (IsTimes g) from terms → AreIntegers m from → AreIntegers m terms
same_columns m g [] [] z all = tt
same_columns m g (t ∷ from) [] z all = absurd z
same_columns m g [] (u ∷ terms) z all = absurd z
same_columns m g (t ∷ from) (u ∷ terms) ((column, number), rest) all = (subst (λ (c : ℕ). IsTrue (is_integer m c)) column all.0, same_columns m g from terms rest all.1)

-- b q <= s, s = (g k) q, the least c with b <= g c: then c q <= k q
round_up : (b c g k s d sum : ℤ) → pos 0 <ℤ d → pos 0 <ℤ g → (g *ℤ (c -ℤ pos 1)) <ℤ b → (b *ℤ d) ≤ℤ s → s ≡ g *ℤ sum → sum ≡ k *ℤ d → (c *ℤ d) ≤ℤ sum
round_up b c g k s (pos n) sum hd hg least m es ek =
    let total : s ≡ (g *ℤ k) *ℤ pos n = es ∙ ap (λ z. g *ℤ z) ek ∙ sym (*ℤ_assoc g k (pos n)) in
    let some : 0 < n = omega (arith, ints, hd) in
    let reached : b ≤ℤ (g *ℤ k) = cancel_right b (g *ℤ k) n some (subst (λ (z : ℤ). (b *ℤ pos n) ≤ℤ z) total m) in
    let above : (c -ℤ pos 1) <ℤ k = cancel_left g (c -ℤ pos 1) k hg (omega (arith, ints, least, reached)) in
    subst (λ (z : ℤ). (c *ℤ pos n) ≤ℤ z) (sym ek) (scale_right c k n (omega (arith, ints, above)))
round_up b c g k s (negsuc n) sum hd hg least m es ek = absurd (omega (arith, ints, hd))

pub rounding_sound : (m : Model) (from claim : Ineq) (g : ℤ) (x : Point) → RoundIsRight m from g claim → IsFeasible m x → Meets x from → Meets x claim
rounding_sound m from claim g x r f meets =
    let whole = whole_sum m x claim.terms f (same_columns m g from.terms claim.terms r.terms r.integer) in
    round_up from.rhs claim.rhs g whole.0 (sum_at x.p from.terms) x.d (sum_at x.p claim.terms) f.point.positive r.positive r.least meets (sum_times x.p g from.terms claim.terms r.terms) whole.1
