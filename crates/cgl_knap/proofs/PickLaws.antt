-- The recursion gives the least cost, and of the sets that have it the one with the least list of truth values.
use Rattle.std.proofs.Common.{◌≡◌, ℕ, zero, suc, ◌+◌, ◌-◌, ◌≤◌, ◌<◌, ℤ, pos, negsuc, Bool, true, false, cond, List, [], ◌∷◌, length, refl, ap, subst, arith, ◌⊎◌, inl, inr}
use Rattle.std.specs.Prelude.{◌+ℤ◌, ◌≤ℤ◌, ◌<ℤ◌, nat_lt}
use Rattle.std.proofs.lemmas.Int.{ints, by_lt_z}
use Rattle.std.proofs.lemmas.Bool.{ltb-true, ltb-false, cases_lt}
use Rattle.cgl_knap.specs.Subset.{weight_of, value_of, total_weight, AreValues}
use Rattle.cgl_knap.specs.Cover.{IsCover, IsNoWorse, IsPick}
use Rattle.cgl_knap.specs.LeastCost.{with_cost, takes, lesser, least_of_none, least, picks}
use Rattle.cgl_knap.proofs.ValueLaws.{value_low}

-- no set weighs so much
abbrev pub IsTooMuch : List ℕ → ℕ → Type 0
IsTooMuch weights need = (z : List Bool) → IsCover weights need z → ⊥

-- either no set weighs so much, or this is the pick and its cost
abbrev Answers : List ℕ → List ℤ → ℕ → ℤ → List Bool → Type 0
Answers weights costs need cost pick = ((cost ≡ negsuc 0) × IsTooMuch weights need) ⊎ (IsPick weights costs need pick × (value_of costs pick ≡ cost))

-- ---- covers of one item more

cover_out : (w : ℕ) (weights : List ℕ) (need : ℕ) (z : List Bool) → IsCover weights need z → IsCover (w ∷ weights) need (false ∷ z)
cover_out w weights need z c = record { size = ap suc c.size; heavy = c.heavy }

cover_in : (w : ℕ) (weights : List ℕ) (need : ℕ) (z : List Bool) → IsCover weights (need - w) z → IsCover (w ∷ weights) need (true ∷ z)
cover_in w weights need z c = record { size = ap suc c.size; heavy = omega (arith, c.heavy) }

rest_out : (w : ℕ) (weights : List ℕ) (need : ℕ) (z : List Bool) → IsCover (w ∷ weights) need (false ∷ z) → IsCover weights need z
rest_out w weights need z c = record { size = omega (arith, c.size); heavy = c.heavy }

rest_in : (w : ℕ) (weights : List ℕ) (need : ℕ) (z : List Bool) → IsCover (w ∷ weights) need (true ∷ z) → IsCover weights (need - w) z
rest_in w weights need z c = record { size = omega (arith, c.size); heavy = omega (arith, c.heavy) }

pub no_worse_cost : (costs : List ℤ) (y z : List Bool) → IsNoWorse costs y z → value_of costs y ≤ℤ value_of costs z
no_worse_cost costs y z (inl less) = omega (arith, ints, less)
no_worse_cost costs y z (inr same) = omega (arith, ints, same.0)

no_worse_in : (c : ℤ) (costs : List ℤ) (y z : List Bool) → IsNoWorse costs y z → IsNoWorse (c ∷ costs) (true ∷ y) (true ∷ z)
no_worse_in c costs y z (inl less) = inl (omega (arith, ints, less))
no_worse_in c costs y z (inr same) = inr (ap (λ n. c +ℤ n) same.0, same.1)

-- ---- the three ways of one item more

too_much : (w : ℕ) (weights : List ℕ) (need : ℕ) → IsTooMuch weights need → IsTooMuch weights (need - w) → IsTooMuch (w ∷ weights) need
too_much w weights need out taken [] c = absurd (omega (arith, c.size))
too_much w weights need out taken (false ∷ z) c = out z (rest_out w weights need z c)
too_much w weights need out taken (true ∷ z) c = taken z (rest_in w weights need z c)

-- without it, where no set with it costs less
pick_out : (w : ℕ) (c : ℤ) (weights : List ℕ) (costs : List ℤ) (need : ℕ) (pick : List Bool) → IsPick weights costs need pick
    → ((z : List Bool) → IsCover weights (need - w) z → value_of costs pick ≤ℤ (c +ℤ value_of costs z)) → IsPick (w ∷ weights) (c ∷ costs) need (false ∷ pick)
pick_out w c weights costs need pick p dear = record { cover = cover_out w weights need pick p.cover; least = at }
  where
    either : (a b : ℤ) → a ≤ℤ b → (a <ℤ b) ⊎ (a ≡ b)
    either a b h = by_lt_z a b (λ less. inl less) (λ more. inr (omega (arith, ints, h, more)))

    at : (z : List Bool) → IsCover (w ∷ weights) need z → IsNoWorse (c ∷ costs) (false ∷ pick) z
    at [] k = absurd (omega (arith, k.size))
    at (false ∷ z) k = p.least z (rest_out w weights need z k)
    at (true ∷ z) k = elim (either _ _ (dear z (rest_in w weights need z k))) [ inl less ↦ inl less | inr same ↦ inr (same, tt) ]

-- with it, where each set without it costs more
pick_in : (w : ℕ) (c : ℤ) (weights : List ℕ) (costs : List ℤ) (need : ℕ) (pick : List Bool) → IsPick weights costs (need - w) pick
    → ((z : List Bool) → IsCover weights need z → (c +ℤ value_of costs pick) <ℤ value_of costs z) → IsPick (w ∷ weights) (c ∷ costs) need (true ∷ pick)
pick_in w c weights costs need pick p dear = record { cover = cover_in w weights need pick p.cover; least = at }
  where
    at : (z : List Bool) → IsCover (w ∷ weights) need z → IsNoWorse (c ∷ costs) (true ∷ pick) z
    at [] k = absurd (omega (arith, k.size))
    at (false ∷ z) k = inl (dear z (rest_out w weights need z k))
    at (true ∷ z) k = no_worse_in c costs pick z (p.least z (rest_in w weights need z k))

-- ---- one item more

below_zero : (n : ℕ) (costs : List ℤ) (pick : List Bool) → AreValues costs → value_of costs pick ≡ negsuc n → ⊥
below_zero n costs pick all e = omega (arith, ints, value_low costs pick all, e)

step : (w c : ℕ) (weights : List ℕ) (costs : List ℤ) (need : ℕ) (out rest : ℤ) (pick_o pick_t : List Bool) → AreValues costs
    → Answers weights costs need out pick_o → Answers weights costs (need - w) rest pick_t
    → Answers (w ∷ weights) (pos c ∷ costs) need (lesser out (with_cost (pos c) rest)) (takes out (with_cost (pos c) rest) ∷ cond (takes out (with_cost (pos c) rest)) pick_t pick_o)
step w c weights costs need (negsuc m) (negsuc n) o t all (inl (e, lacks)) (inl (f, lacks_rest)) = inl (e, too_much w weights need lacks lacks_rest)
step w c weights costs need (negsuc m) rest o t all (inr (p, e)) u = absurd (below_zero m costs o all e)
step w c weights costs need out (negsuc n) o t all a (inr (p, e)) = absurd (below_zero n costs t all e)
step w c weights costs need (pos m) rest o t all (inl (e, lacks)) u = absurd (cc)
step w c weights costs need out (pos n) o t all a (inl (e, lacks)) = absurd (cc)
step w c weights costs need (negsuc m) (pos n) o t all (inl (e, lacks)) (inr (p, f)) = inr (pick_in w (pos c) weights costs need t p (λ z k. absurd (lacks z k)), ap (λ v. pos c +ℤ v) f)
step w c weights costs need (pos m) (negsuc n) o t all (inr (p, e)) (inl (f, lacks_rest)) = inr (pick_out w (pos c) weights costs need o p (λ z k. absurd (lacks_rest z k)), e)
step w c weights costs need (pos m) (pos n) o t all (inr (p, e)) (inr (q, f)) = at (nat_lt (c + n) m) refl
  where
    at : (b : Bool) → nat_lt (c + n) m ≡ b → Answers (w ∷ weights) (pos c ∷ costs) need (cond b (pos (c + n)) (pos m)) (b ∷ cond b t o)
    at true less = inr (pick_in w (pos c) weights costs need t q (λ z k. omega (arith, ints, f, e, ltb-true (c + n) m less, no_worse_cost costs o z (p.least z k))), ap (λ v. pos c +ℤ v) f)
    at false more = inr (pick_out w (pos c) weights costs need o p (λ z k. omega (arith, ints, f, e, ltb-false (c + n) m more, no_worse_cost costs t z (q.least z k))), e)

none : (need : ℕ) → Answers [] [] need (least_of_none need) []
none zero = inr (record { cover = record { size = refl; heavy = omega arith }; least = least }, refl)
  where
    least : (z : List Bool) → IsCover [] zero z → IsNoWorse [] [] z
    least [] k = inr (refl, tt)
    least (b ∷ z) k = absurd (omega (arith, k.size))
none (suc need) = inl (refl, λ z k. omega (arith, k.heavy))

picks_cond : (b : Bool) (weights : List ℕ) (costs : List ℤ) (m n : ℕ) → cond b (picks weights costs m) (picks weights costs n) ≡ picks weights costs (cond b m n)
picks_cond true weights costs m n = refl
picks_cond false weights costs m n = refl

pub answers : (weights : List ℕ) (costs : List ℤ) (need : ℕ) → AreValues costs → length costs ≡ length weights → Answers weights costs need (least weights costs need) (picks weights costs need)
unfolding least picks
answers [] [] need all e = none need
answers [] (c ∷ costs) need all e = absurd (omega (arith, e))
answers (w ∷ weights) [] need all e = absurd (omega (arith, e))
answers (w ∷ weights) (negsuc c ∷ costs) need all e = absurd (omega (arith, ints, all.0))
answers (w ∷ weights) (pos c ∷ costs) need all e =
    let out = least weights costs need in
    let rest = least weights costs (need - w) in
    let b = takes out (with_cost (pos c) rest) in
    let one = step w c weights costs need out rest (picks weights costs need) (picks weights costs (need - w)) all.1 (answers weights costs need all.1 (omega (arith, e))) (answers weights costs (need - w) all.1 (omega (arith, e))) in
    subst (λ (tail : List Bool). Answers (w ∷ weights) (pos c ∷ costs) need (lesser out (with_cost (pos c) rest)) (b ∷ tail)) (picks_cond b weights costs (need - w) need) one

-- ---- where no set weighs so much: all items together do not

pub all_of : List ℕ → List Bool
all_of [] = []
all_of (w ∷ weights) = true ∷ all_of weights

pub whole_set : (weights : List ℕ) → (length (all_of weights) ≡ length weights) × (weight_of weights (all_of weights) ≡ total_weight weights)
unfolding all_of
whole_set [] = (refl, refl)
whole_set (w ∷ weights) = let rest = whole_set weights in (ap suc rest.0, ap (λ n. w + n) rest.1)

pub weight_high : (weights : List ℕ) (z : List Bool) → weight_of weights z ≤ total_weight weights
weight_high [] z = omega arith
weight_high (w ∷ weights) [] = omega arith
weight_high (w ∷ weights) (true ∷ z) = omega (arith, weight_high weights z)
weight_high (w ∷ weights) (false ∷ z) = omega (arith, weight_high weights z)

pub least_none : (weights : List ℕ) (costs : List ℤ) (need : ℕ) → AreValues costs → length costs ≡ length weights → least weights costs need <ℤ pos 0 → total_weight weights < need
least_none weights costs need all e h = elim (answers weights costs need all e) [
  | inl none ↦ by_lt (cases_lt (total_weight weights) need) (λ ge. none.1 (all_of weights) (record { size = (whole_set weights).0; heavy = omega (arith, ge, (whole_set weights).1) }))
  | inr pick ↦ absurd (omega (arith, ints, h, pick.1, value_low costs (picks weights costs need) all))
]
  where
    by_lt : (total_weight weights < need) ⊎ (need ≤ total_weight weights) → (need ≤ total_weight weights → ⊥) → total_weight weights < need
    by_lt (inl lt) deny = lt
    by_lt (inr ge) deny = absurd (deny ge)

pub least_some : (weights : List ℕ) (costs : List ℤ) (need : ℕ) → AreValues costs → length costs ≡ length weights → pos 0 ≤ℤ least weights costs need
    → IsPick weights costs need (picks weights costs need) × (value_of costs (picks weights costs need) ≡ least weights costs need)
least_some weights costs need all e h = elim (answers weights costs need all e) [
  | inl none ↦ absurd (omega (arith, ints, h, none.0))
  | inr pick ↦ pick
]

pub pick_heavy : (weights : List ℕ) (costs : List ℤ) (need : ℕ) (pick : List Bool) → IsPick weights costs need pick → need ≤ total_weight weights
pick_heavy weights costs need pick p = omega (arith, p.cover.heavy, weight_high weights pick)
