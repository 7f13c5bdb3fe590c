-- A cut as a row of decimals has the cut's points.
use Rattle.std.proofs.Common.{◌≡◌, List, ℤ, pos, ◌^◌, [], ◌∷◌, map, ap, refl, sym, ◌∙◌, true, Option, None, Some, arith, is_some, subst, unwrap_or}
use Rattle.std.specs.Prelude.{◌+ℤ◌, ◌*ℤ◌, ◌≤ℤ◌}
use Rattle.std.specs.List.{list_all}
use Rattle.std.proofs.lemmas.Bool.{and_parts}
use Rattle.std.proofs.Math.IntN.{*ℤ_comm}
use Rattle.cgl_num.specs.IntegerLaws.{*ℤ_assoc, +ℤ-*ℤ, scale_right}
use Rattle.cgl_num.specs.Decimal.{Decimal, decimal_of, zero_decimal, places}
use Rattle.cgl_num.proofs.DecimalLaws.{scaled-more, whole-value, whole-places}
use Rattle.cgl_model.specs.Inequality.{Term, sum_at}
use Rattle.cgl_model.specs.Feasible.{weight, weight_term}
use Rattle.cgl_model.specs.Point.{number_at}
use Rattle.cgl_deck.specs.Extended.{decimal_or_zero}

weight_some : (z : ℤ) (o : Option Decimal) → decimal_of z ≡ o → is_some o ≡ true → weight (unwrap_or o zero_decimal) ≡ z *ℤ pos (10 ^ 30)
weight_some z None e h = absurd (cc)
weight_some z (Some d) e h =
    let none : places d ≡ 0 = whole-places z d e in
    sym (scaled-more d 0 30 (omega arith)) ∙ ap (λ v. v *ℤ pos (10 ^ 30)) (whole-value z d e)

pub weight-is : (z : ℤ) → is_some (decimal_of z) ≡ true → weight (decimal_or_zero z) ≡ z *ℤ pos (10 ^ 30)
weight-is z h = weight_some z (decimal_of z) refl h

swap_factor : (a w n : ℤ) → (a *ℤ w) *ℤ n ≡ (a *ℤ n) *ℤ w
swap_factor a w n = *ℤ_assoc a w n ∙ ap (λ v. a *ℤ v) (*ℤ_comm w n) ∙ sym (*ℤ_assoc a n w)

one_term : (a w n r : ℤ) → (a *ℤ w) *ℤ n +ℤ r *ℤ w ≡ (a *ℤ n +ℤ r) *ℤ w
one_term a w n r = ap (λ v. v +ℤ r *ℤ w) (swap_factor a w n) ∙ sym (+ℤ-*ℤ (a *ℤ n) r w)

pub sum_scaled : (p : List ℤ) (terms : List Term) → list_all (λ t. is_some (decimal_of t.1)) terms ≡ true
    → sum_at p (map weight_term (map (λ t. (t.0, decimal_or_zero t.1)) terms)) ≡ sum_at p terms *ℤ pos (10 ^ 30)
sum_scaled p [] h = refl
sum_scaled p (t ∷ terms) h =
    let parts = and_parts (is_some (decimal_of t.1)) (list_all (λ u. is_some (decimal_of u.1)) terms) h in
    ap (λ v. v *ℤ number_at p t.0 +ℤ sum_at p (map weight_term (map (λ u. (u.0, decimal_or_zero u.1)) terms))) (weight-is t.1 parts.0)
    ∙ ap (λ v. (t.1 *ℤ pos (10 ^ 30)) *ℤ number_at p t.0 +ℤ v) (sum_scaled p terms parts.1)
    ∙ one_term t.1 (pos (10 ^ 30)) (number_at p t.0) (sum_at p terms)

pub cut_met : (rhs d sum : ℤ) → (rhs *ℤ d) ≤ℤ sum → ((rhs *ℤ pos (10 ^ 30)) *ℤ d) ≤ℤ (sum *ℤ pos (10 ^ 30))
cut_met rhs d sum le = subst (λ v. v ≤ℤ (sum *ℤ pos (10 ^ 30))) (sym (swap_factor rhs (pos (10 ^ 30)) d)) (scale_right (rhs *ℤ d) sum (10 ^ 30) le)
