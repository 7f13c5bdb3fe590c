-- One greatest value tells the last condition of a knapsack step.
use Rattle.std.proofs.Common.{◌≡◌, ◌↔◌, ℕ, suc, ◌≤◌, ◌<◌, ℤ, pos, Bool, true, false, List, [], ◌∷◌, length, map, refl, sym, ap, ◌∙◌, subst, arith}
use Rattle.std.specs.Prelude.{◌+ℤ◌, ◌-ℤ◌, ◌≤ℤ◌, unsigned_abs}
use Rattle.std.proofs.lemmas.Int.{ints}
use Rattle.std.proofs.lemmas.List.{length-map}
use Rattle.cgl_knap.specs.Subset.{value_of, weight_of}
use Rattle.cgl_knap.specs.Greatest.{IsBound, IsGreatest, IsTable, IsWithin}
use Rattle.cgl_model.specs.declared.linear.Ineq.{Ineq}
use Rattle.cgl_derive.specs.Knapsack.{capacity, coefficients}
use Rattle.cgl_derive.specs.KnapsackLists.{HoldsAtLiterals, chosen_sum, coefficients_at, sizes}
use Rattle.cgl_check.specs.Knapsacks.{leftover, values_of, weights_of}

chosen_weight : (numbers : List ℤ) (y : List Bool) → chosen_sum (sizes numbers) y ≡ pos (weight_of (map (λ a. unsigned_abs a) numbers) y)
chosen_weight [] y = refl
chosen_weight (a ∷ numbers) [] = refl
chosen_weight (a ∷ numbers) (true ∷ y) = omega (arith, ints, chosen_weight numbers y)
chosen_weight (a ∷ numbers) (false ∷ y) = chosen_weight numbers y

chosen_value : (numbers : List ℤ) (y : List Bool) → chosen_sum numbers y ≡ value_of numbers y
chosen_value [] y = refl
chosen_value (a ∷ numbers) [] = refl
chosen_value (a ∷ numbers) (true ∷ y) = ap (λ z. a +ℤ z) (chosen_value numbers y)
chosen_value (a ∷ numbers) (false ∷ y) = chosen_value numbers y

weights_size : (from : Ineq) → length (weights_of from) ≡ length from.terms
weights_size from = length-map (coefficients from.terms) (λ a. unsigned_abs a) ∙ length-map from.terms (λ t. t.1)

-- what the literals may count for is a bound of their values
pub literals_bound : (from claim : Ineq) (cap : ℕ) → capacity from ≡ pos cap → HoldsAtLiterals from claim ↔ IsBound (weights_of from) (values_of from claim) cap (leftover from claim)
literals_bound from claim cap is = (
  (λ holds z within.
      let light : chosen_sum (sizes (coefficients from.terms)) z ≤ℤ capacity from = omega (arith, ints, chosen_weight (coefficients from.terms) z, within.light, is) in
      subst (λ (v : ℤ). v ≤ℤ leftover from claim) (chosen_value (values_of from claim) z) (holds z (within.size ∙ weights_size from) light)),
  (λ bound y size light.
      let weight : weight_of (weights_of from) y ≤ cap = omega (arith, ints, chosen_weight (coefficients from.terms) y, light, is) in
      subst (λ (v : ℤ). v ≤ℤ leftover from claim) (sym (chosen_value (values_of from claim) y)) (bound y (record { size = size ∙ sym (weights_size from); light = weight }))),
)

-- ---- items that no capacity has room for, and no items

greatest_heavy : (w : ℕ) (v : ℤ) (weights : List ℕ) (values : List ℤ) (cap : ℕ) (best : ℤ) → cap < w → IsGreatest weights values cap best → IsGreatest (w ∷ weights) (v ∷ values) cap best
greatest_heavy w v weights values cap best h g = record {
  reached = (false ∷ g.reached.0, record { size = ap suc g.reached.1.size; light = g.reached.1.light }, g.reached.2);
  bound = bound;
}
  where
    bound : IsBound (w ∷ weights) (v ∷ values) cap best
    bound [] within = absurd (omega (arith, within.size))
    bound (true ∷ z) within = absurd (omega (arith, within.light, h))
    bound (false ∷ z) within = g.bound z (record { size = omega (arith, within.size); light = within.light })

pub table_heavy : (w : ℕ) (v : ℤ) (weights : List ℕ) (values table : List ℤ) → length table ≤ w → IsTable weights values table → IsTable (w ∷ weights) (v ∷ values) table
table_heavy w v weights values table h t k below = greatest_heavy w v weights values k _ (omega (arith, h, below)) (t k below)

pub greatest_none : (values : List ℤ) (cap more : ℕ) (best : ℤ) → IsGreatest [] values cap best → IsGreatest [] values more best
greatest_none values cap more best g = record {
  reached = (g.reached.0, record { size = g.reached.1.size; light = none g.reached.0 }, g.reached.2);
  bound = (λ z within. g.bound z (record { size = within.size; light = none z }));
}
  where
    none : {n : ℕ} (z : List Bool) → weight_of [] z ≤ n
    none z = omega arith
