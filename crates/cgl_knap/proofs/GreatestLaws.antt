-- The greatest value of a set, item by item, and what there is to say of it.
use Rattle.std.proofs.Common.{◌≡◌, ℕ, suc, ◌-◌, ◌≤◌, ◌<◌, ℤ, pos, Bool, true, false, cond, List, [], ◌∷◌, refl, sym, ap, ◌∙◌, subst, arith, ◌⊎◌, inl, inr}
use Rattle.std.specs.Prelude.{◌+ℤ◌, ◌≤ℤ◌, ◌↔◌, nat_lt}
use Rattle.std.specs.Int.{int_max}
use Rattle.std.proofs.lemmas.Int.{ints, clamps}
use Rattle.std.proofs.lemmas.Bool.{ltb-true, ltb-false}
use Rattle.cgl_knap.specs.Subset.{value_of, total_value, AreValues}
use Rattle.cgl_knap.specs.Greatest.{IsWithin, IsBound, IsGreatest}
use Rattle.cgl_knap.proofs.ValueLaws.{value_low, value_high}

pub greatest_none : (cap : ℕ) → IsGreatest [] [] cap (pos 0)
greatest_none cap = record { reached = ([], record { size = refl; light = omega arith }, refl); bound = λ z in_z. omega (arith, ints) }

-- one item more, which is left out
without : {weights : List ℕ} {cap : ℕ} {z : List Bool} (w : ℕ) → IsWithin weights cap z → IsWithin (w ∷ weights) cap (false ∷ z)
without w in_z = record { size = ap suc in_z.size; light = in_z.light }

-- one item more, which is taken
within : {weights : List ℕ} {cap : ℕ} {z : List Bool} (w : ℕ) → w ≤ cap → IsWithin weights (cap - w) z → IsWithin (w ∷ weights) cap (true ∷ z)
within w h in_z = record { size = ap suc in_z.size; light = omega (arith, in_z.light) }

rest_out : (w : ℕ) (weights : List ℕ) (cap : ℕ) (z : List Bool) → IsWithin (w ∷ weights) cap (false ∷ z) → IsWithin weights cap z
rest_out w weights cap z in_z = record { size = omega (arith, in_z.size); light = in_z.light }

rest_in : (w : ℕ) (weights : List ℕ) (cap : ℕ) (z : List Bool) → IsWithin (w ∷ weights) cap (true ∷ z) → IsWithin weights (cap - w) z
rest_in w weights cap z in_z = record { size = omega (arith, in_z.size); light = omega (arith, in_z.light) }

-- an item that is too heavy changes nothing
pub greatest_heavy : (w : ℕ) (v : ℤ) (weights : List ℕ) (values : List ℤ) (cap : ℕ) (best : ℤ) → cap < w → IsGreatest weights values cap best → IsGreatest (w ∷ weights) (v ∷ values) cap best
greatest_heavy w v weights values cap best h g = record { reached = (false ∷ g.reached.0, without w g.reached.1, g.reached.2); bound = bound }
  where
    bound : IsBound (w ∷ weights) (v ∷ values) cap best
    bound [] in_z = absurd (omega (arith, in_z.size))
    bound (false ∷ z) in_z = g.bound z (rest_out w weights cap z in_z)
    bound (true ∷ z) in_z = absurd (omega (arith, in_z.light, h))

int_max_one : (a b : ℤ) → (int_max a b ≡ a) ⊎ (int_max a b ≡ b)
int_max_one a b = grind (arith, ints, clamps)

-- another one is left out or taken
pub greatest_more : (w : ℕ) (v : ℤ) (weights : List ℕ) (values : List ℤ) (cap : ℕ) (out taken : ℤ) → w ≤ cap
    → IsGreatest weights values cap out → IsGreatest weights values (cap - w) taken → IsGreatest (w ∷ weights) (v ∷ values) cap (int_max out (v +ℤ taken))
greatest_more w v weights values cap out taken h g t = record { reached = elim (int_max_one out (v +ℤ taken)) [ inl e ↦ (false ∷ g.reached.0, without w g.reached.1, g.reached.2 ∙ sym e) | inr e ↦ (true ∷ t.reached.0, within w h t.reached.1, ap (λ n. v +ℤ n) t.reached.2 ∙ sym e) ]; bound = bound }
  where
    bound : IsBound (w ∷ weights) (v ∷ values) cap (int_max out (v +ℤ taken))
    bound [] in_z = absurd (omega (arith, in_z.size))
    bound (false ∷ z) in_z = omega (arith, ints, clamps, g.bound z (rest_out w weights cap z in_z))
    bound (true ∷ z) in_z = omega (arith, ints, clamps, t.bound z (rest_in w weights cap z in_z))

-- ---- there is one, and no other

no_item : List ℕ → List Bool
no_item [] = []
no_item (w ∷ weights) = false ∷ no_item weights

empty_set : (weights : List ℕ) (cap : ℕ) → IsWithin weights cap (no_item weights)
unfolding no_item
empty_set [] cap = record { size = refl; light = omega arith }
empty_set (w ∷ weights) cap = without w (empty_set weights cap)

value_empty : (weights : List ℕ) (values : List ℤ) → value_of values (no_item weights) ≡ pos 0
unfolding no_item
value_empty [] [] = refl
value_empty [] (v ∷ values) = refl
value_empty (w ∷ weights) [] = refl
value_empty (w ∷ weights) (v ∷ values) = value_empty weights values

unfoldable pub best_of : List ℕ → List ℤ → ℕ → ℤ
best_of [] values cap = pos 0
best_of (w ∷ weights) [] cap = pos 0
best_of (w ∷ weights) (v ∷ values) cap = cond (nat_lt cap w) (best_of weights values cap) (int_max (best_of weights values cap) (v +ℤ best_of weights values (cap - w)))

pub best_greatest : (weights : List ℕ) (values : List ℤ) (cap : ℕ) → IsGreatest weights values cap (best_of weights values cap)
unfolding best_of
best_greatest [] values cap = record { reached = (no_item [], empty_set [] cap, value_empty [] values); bound = bound }
  where
    bound : IsBound [] values cap (pos 0)
    bound [] in_z = elim values as (λ l. value_of l [] ≤ℤ pos 0) [ [] ↦ omega (arith, ints) | v ∷ l ↦ omega (arith, ints) ]
    bound (b ∷ z) in_z = absurd (omega (arith, in_z.size))
best_greatest (w ∷ weights) [] cap = record { reached = (no_item (w ∷ weights), empty_set (w ∷ weights) cap, value_empty (w ∷ weights) []); bound = λ z in_z. omega (arith, ints) }
best_greatest (w ∷ weights) (v ∷ values) cap = at (nat_lt cap w) refl (best_greatest weights values cap) (best_greatest weights values (cap - w))
  where
    at : (b : Bool) → nat_lt cap w ≡ b → IsGreatest weights values cap (best_of weights values cap) → IsGreatest weights values (cap - w) (best_of weights values (cap - w))
        → IsGreatest (w ∷ weights) (v ∷ values) cap (cond b (best_of weights values cap) (int_max (best_of weights values cap) (v +ℤ best_of weights values (cap - w))))
    at true heavy g t = greatest_heavy w v weights values cap (best_of weights values cap) (ltb-true cap w heavy) g
    at false light g t = greatest_more w v weights values cap (best_of weights values cap) (best_of weights values (cap - w)) (ltb-false cap w light) g t

-- of two capacities the greater one has no lesser value
pub greatest_wider : (weights : List ℕ) (values : List ℤ) (cap more : ℕ) (a b : ℤ) → cap ≤ more → IsGreatest weights values cap a → IsGreatest weights values more b → a ≤ℤ b
greatest_wider weights values cap more a b h g t =
    let in_z = g.reached.1 in
    subst (λ (n : ℤ). n ≤ℤ b) g.reached.2 (t.bound g.reached.0 (record { size = in_z.size; light = omega (arith, in_z.light, h) }))

pub greatest_one : (weights : List ℕ) (values : List ℤ) (cap : ℕ) (a b : ℤ) → IsGreatest weights values cap a → IsGreatest weights values cap b → a ≡ b
greatest_one weights values cap a b g t = omega (arith, ints, greatest_wider weights values cap cap a b (omega arith) g t, greatest_wider weights values cap cap b a (omega arith) t g)

-- it decides whether a number is a bound
pub greatest_decides : (weights : List ℕ) (values : List ℤ) (cap : ℕ) (best bound : ℤ) → IsGreatest weights values cap best → IsBound weights values cap bound ↔ (best ≤ℤ bound)
greatest_decides weights values cap best bound g = (
  λ all. subst (λ (n : ℤ). n ≤ℤ bound) g.reached.2 (all g.reached.0 g.reached.1),
  λ le z in_z. omega (arith, ints, g.bound z in_z, le),
)

-- ---- how great it can be

pub greatest_low : (weights : List ℕ) (values : List ℤ) (cap : ℕ) (best : ℤ) → AreValues values → IsGreatest weights values cap best → pos 0 ≤ℤ best
greatest_low weights values cap best all g = subst (λ (b : ℤ). pos 0 ≤ℤ b) g.reached.2 (value_low values g.reached.0 all)

pub greatest_high : (weights : List ℕ) (values : List ℤ) (cap : ℕ) (best : ℤ) → AreValues values → IsGreatest weights values cap best → best ≤ℤ total_value values
greatest_high weights values cap best all g = subst (λ (b : ℤ). b ≤ℤ total_value values) g.reached.2 (value_high values g.reached.0 all)
