-- An item in front of the others or behind them.
use Rattle.std.proofs.Common.{◌≡◌, ℕ, suc, ◌≤◌, ℤ, pos, Bool, true, false, List, [], ◌∷◌, ◌++◌, length, refl, sym, ap, ◌∙◌, subst, arith, get_or, length-append}
use Rattle.std.specs.Prelude.{◌≤ℤ◌}
use Rattle.std.proofs.lemmas.Int.{ints}
use Rattle.cgl_knap.specs.Subset.{weight_of, value_of}
use Rattle.cgl_knap.specs.Greatest.{IsWithin, IsBound, IsGreatest, IsTable}

weight_last : (weights : List ℕ) (w : ℕ) (z : List Bool) (b : Bool) → length z ≡ length weights → weight_of (weights ++ w ∷ []) (z ++ b ∷ []) ≡ weight_of (w ∷ weights) (b ∷ z)
weight_last [] w [] true e = refl
weight_last [] w [] false e = refl
weight_last [] w (a ∷ z) b e = absurd (omega (arith, e))
weight_last (v ∷ weights) w [] b e = absurd (omega (arith, e))
weight_last (v ∷ weights) w (true ∷ z) true e = omega (arith, weight_last weights w z true (omega (arith, e)))
weight_last (v ∷ weights) w (true ∷ z) false e = omega (arith, weight_last weights w z false (omega (arith, e)))
weight_last (v ∷ weights) w (false ∷ z) true e = omega (arith, weight_last weights w z true (omega (arith, e)))
weight_last (v ∷ weights) w (false ∷ z) false e = omega (arith, weight_last weights w z false (omega (arith, e)))

value_last : (values : List ℤ) (v : ℤ) (z : List Bool) (b : Bool) → length z ≡ length values → value_of (values ++ v ∷ []) (z ++ b ∷ []) ≡ value_of (v ∷ values) (b ∷ z)
value_last [] v [] true e = refl
value_last [] v [] false e = refl
value_last [] v (a ∷ z) b e = absurd (omega (arith, e))
value_last (u ∷ values) v [] b e = absurd (omega (arith, e))
value_last (u ∷ values) v (true ∷ z) true e = omega (arith, ints, value_last values v z true (omega (arith, e)))
value_last (u ∷ values) v (true ∷ z) false e = omega (arith, ints, value_last values v z false (omega (arith, e)))
value_last (u ∷ values) v (false ∷ z) true e = omega (arith, ints, value_last values v z true (omega (arith, e)))
value_last (u ∷ values) v (false ∷ z) false e = omega (arith, ints, value_last values v z false (omega (arith, e)))

-- a list with a last one
record HasLast (z : List Bool) (n : ℕ) : Type 0 where
  front : List Bool
  last : Bool
  is : z ≡ front ++ last ∷ []
  size : length front ≡ n

has_last : (z : List Bool) (n : ℕ) → length z ≡ suc n → HasLast z n
has_last [] n e = absurd (omega (arith, e))
has_last (b ∷ []) n e = record { front = []; last = b; is = refl; size = omega (arith, e) }
has_last (b ∷ a ∷ z) n e =
    let rest = has_last (a ∷ z) (length z) refl in
    record { front = b ∷ rest.front; last = rest.last; is = ap (λ (l : List Bool). b ∷ l) rest.is; size = omega (arith, e, rest.size) }

greatest_last : (weights : List ℕ) (values : List ℤ) (w : ℕ) (v : ℤ) (cap : ℕ) (best : ℤ) → length values ≡ length weights
    → IsGreatest (w ∷ weights) (v ∷ values) cap best → IsGreatest (weights ++ w ∷ []) (values ++ v ∷ []) cap best
greatest_last weights values w v cap best same g = record { reached = reach g.reached.0 g.reached.1 g.reached.2; bound = bound }
  where
    reach : (z : List Bool) → IsWithin (w ∷ weights) cap z → value_of (v ∷ values) z ≡ best
        → (y : List Bool) × IsWithin (weights ++ w ∷ []) cap y × (value_of (values ++ v ∷ []) y ≡ best)
    reach [] in_z e = absurd (omega (arith, in_z.size))
    reach (b ∷ z) in_z e =
        let size : length z ≡ length weights = omega (arith, in_z.size) in (
          z ++ b ∷ [],
          record { size = omega (arith, length-append z (b ∷ []), length-append weights (w ∷ []), size); light = subst (λ (n : ℕ). n ≤ cap) (sym (weight_last weights w z b size)) in_z.light },
          value_last values v z b (size ∙ sym same) ∙ e,
        )

    bound : IsBound (weights ++ w ∷ []) (values ++ v ∷ []) cap best
    bound z in_z =
        let cut = has_last z (length weights) (omega (arith, in_z.size, length-append weights (w ∷ []))) in
        let light : weight_of (weights ++ w ∷ []) (cut.front ++ cut.last ∷ []) ≤ cap = subst (λ (l : List Bool). weight_of (weights ++ w ∷ []) l ≤ cap) cut.is in_z.light in
        let turned = subst (λ (n : ℕ). n ≤ cap) (weight_last weights w cut.front cut.last cut.size) light in
        let high = g.bound (cut.last ∷ cut.front) (record { size = ap suc cut.size; light = turned }) in
        subst (λ (l : List Bool). value_of (values ++ v ∷ []) l ≤ℤ best) (sym cut.is)
        (subst (λ (n : ℤ). n ≤ℤ best) (sym (value_last values v cut.front cut.last (cut.size ∙ sym same))) high)

pub table_last : (weights : List ℕ) (values table : List ℤ) (w : ℕ) (v : ℤ) → length values ≡ length weights → IsTable (w ∷ weights) (v ∷ values) table → IsTable (weights ++ w ∷ []) (values ++ v ∷ []) table
table_last weights values table w v same t k h = greatest_last weights values w v k (get_or table k (pos 0)) same (t k h)
