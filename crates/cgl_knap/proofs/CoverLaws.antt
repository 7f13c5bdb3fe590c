-- What there is to say of covers and of the least of them.
use Rattle.std.proofs.Common.{◌≡◌, ℕ, ◌+◌, ◌≤◌, ◌<◌, ℤ, Bool, true, false, List, [], ◌∷◌, length, refl, ap, arith, ◌⊎◌, inl, inr}
use Rattle.std.specs.Prelude.{◌≤ℤ◌, ◌↔◌}
use Rattle.std.proofs.lemmas.Int.{ints}
use Rattle.std.proofs.lemmas.Bool.{cases_lt}
use Rattle.cgl_knap.specs.Subset.{weight_of, value_of, total_weight}
use Rattle.cgl_knap.specs.Greatest.{IsWithin}
use Rattle.cgl_knap.specs.Cover.{IsCover, IsNotAfter, IsNoWorse, IsPick}
use Rattle.cgl_knap.proofs.PickLaws.{no_worse_cost, weight_high, all_of, whole_set}

pub within_or_cover : (weights : List ℕ) (cap : ℕ) (z : List Bool) → length z ≡ length weights → IsWithin weights cap z ⊎ IsCover weights (cap + 1) z
within_or_cover weights cap z size = at (cases_lt cap (weight_of weights z))
  where
    at : (cap < weight_of weights z) ⊎ (weight_of weights z ≤ cap) → IsWithin weights cap z ⊎ IsCover weights (cap + 1) z
    at (inl above) = inr (record { size = size; heavy = omega (arith, above) })
    at (inr within) = inl (record { size = size; light = within })

pub within_no_cover : (weights : List ℕ) (cap : ℕ) (z : List Bool) → IsWithin weights cap z → IsCover weights (cap + 1) z → ⊥
within_no_cover weights cap z within cover = omega (arith, within.light, cover.heavy)

pub some_cover : (weights : List ℕ) (need : ℕ) → ((z : List Bool) × IsCover weights need z) ↔ (need ≤ total_weight weights)
some_cover weights need = (
  λ (z, cover). omega (arith, cover.heavy, weight_high weights z),
  λ enough. (all_of weights, record { size = (whole_set weights).0; heavy = omega (arith, enough, (whole_set weights).1) }),
)

not_after_both : (y z : List Bool) → IsNotAfter y z → IsNotAfter z y → y ≡ z
not_after_both [] [] p q = refl
not_after_both [] (b ∷ z) p q = absurd q
not_after_both (b ∷ y) [] p q = absurd p
not_after_both (true ∷ y) (true ∷ z) p q = ap (λ (l : List Bool). true ∷ l) (not_after_both y z p q)
not_after_both (true ∷ y) (false ∷ z) p q = absurd p
not_after_both (false ∷ y) (true ∷ z) p q = absurd q
not_after_both (false ∷ y) (false ∷ z) p q = ap (λ (l : List Bool). false ∷ l) (not_after_both y z p q)

pub one_pick : (weights : List ℕ) (costs : List ℤ) (need : ℕ) (pick other : List Bool) → IsPick weights costs need pick → IsPick weights costs need other → pick ≡ other
one_pick weights costs need pick other p q = at (p.least other q.cover) (q.least pick p.cover)
  where
    at : IsNoWorse costs pick other → IsNoWorse costs other pick → pick ≡ other
    at (inl less) worse = absurd (omega (arith, ints, less, no_worse_cost costs other pick worse))
    at (inr same) (inl less) = absurd (omega (arith, ints, less, same.0))
    at (inr same) (inr back) = not_after_both pick other same.1 back.1

pub pick_cost : (weights : List ℕ) (costs : List ℤ) (need : ℕ) (pick z : List Bool) → IsPick weights costs need pick → IsCover weights need z → value_of costs pick ≤ℤ value_of costs z
pick_cost weights costs need pick z p cover = no_worse_cost costs pick z (p.least z cover)
