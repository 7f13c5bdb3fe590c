-- Tables of least costs and choices, and how one item more changes them.
use Rattle.std.proofs.Common.{◌≡◌, ℕ, ◌+◌, ◌-◌, ◌≤◌, ◌<◌, ◌^◌, ℤ, pos, Bool, false, List, [], ◌∷◌, length, refl, sym, ap, ◌∙◌, subst, arith, get_or, set, drop, ◌⊎◌, inl, inr}
use Rattle.std.specs.Prelude.{◌≤ℤ◌, ◌<ℤ◌}
use Rattle.std.proofs.lemmas.Int.{ints}
use Rattle.std.proofs.lemmas.Bool.{cases_order}
use Rattle.std.proofs.lemmas.List.{get_or-set_other, get_or-set_same}
use Rattle.std.proofs.lemmas.List.{length-drop}
use Rattle.cgl_knap.specs.Subset.{AreValues, total_value}
use Rattle.cgl_knap.specs.Greatest.{HasRoom}
use Rattle.cgl_knap.proofs.ValueLaws.{all_drop, total_low, value_high, value_first}
use Rattle.cgl_knap.proofs.PickLaws.{answers}
use Rattle.cgl_knap.specs.LeastCost.{picks, with_cost, takes, lesser, least_of_none, least, takes_first, IsLeastTable, IsChoices}

-- from place `from` on the item is in the table, with its choice; below it the table is as it was
pub record IsChosenAt (weight : ℕ) (cost : ℤ) (from : ℕ) (old new : List ℤ) (choice : List Bool) (k : ℕ) : Type 0 where
  pub untouched : k < from → get_or new k (pos 0) ≡ get_or old k (pos 0)
  pub least : from ≤ k → get_or new k (pos 0) ≡ lesser (get_or old k (pos 0)) (with_cost cost (get_or old (k - weight) (pos 0)))
  pub noted : from ≤ k → get_or choice k false ≡ takes (get_or old k (pos 0)) (with_cost cost (get_or old (k - weight) (pos 0)))

abbrev pub IsChosenFrom : ℕ → ℤ → ℕ → List ℤ → List ℤ → List Bool → Type 0
IsChosenFrom weight cost from old new choice = (k : ℕ) → k < length old → IsChosenAt weight cost from old new choice k

pub chosen_from_end : (w : ℕ) (c : ℤ) (old : List ℤ) (choice : List Bool) → IsChosenFrom w c (length old) old old choice
chosen_from_end w c old choice k h = record { untouched = λ lt. refl; least = λ ge. absurd (omega (arith, ge, h)); noted = λ ge. absurd (omega (arith, ge, h)) }

pub chosen_step : (w : ℕ) (c : ℤ) (from at place : ℕ) (old now : List ℤ) (choice : List Bool) (cell rest taken best written : ℤ) (b : Bool)
    → from ≡ at + 1 → length now ≡ length old → length choice ≡ length old → at < length old → place ≡ at - w → IsChosenFrom w c from old now choice
    → cell ≡ get_or now at (pos 0) → rest ≡ get_or now place (pos 0) → taken ≡ with_cost c rest → best ≡ lesser cell taken → b ≡ takes cell taken → written ≡ best
    → IsChosenFrom w c at old (set now at written) (set choice at b)
chosen_step w c from at place old now choice cell rest taken best written b e size choices h is_place m is_cell is_rest is_taken is_best is_b is_written k hk = cases (cases_order k at)
  where
    cell_old : cell ≡ get_or old at (pos 0)
    cell_old = is_cell ∙ (m at h).untouched (omega arith)

    taken_old : taken ≡ with_cost c (get_or old (at - w) (pos 0))
    taken_old = is_taken ∙ ap (with_cost c) (is_rest ∙ ap (λ i. get_or now i (pos 0)) is_place ∙ (m (at - w) (omega arith)).untouched (omega arith))

    best_old : written ≡ lesser (get_or old at (pos 0)) (with_cost c (get_or old (at - w) (pos 0)))
    best_old = is_written ∙ is_best ∙ ap (λ z. lesser z taken) cell_old ∙ ap (lesser (get_or old at (pos 0))) taken_old

    b_old : b ≡ takes (get_or old at (pos 0)) (with_cost c (get_or old (at - w) (pos 0)))
    b_old = is_b ∙ ap (λ z. takes z taken) cell_old ∙ ap (takes (get_or old at (pos 0))) taken_old

    here : IsChosenAt w c at old (set now at written) (set choice at b) at
    here = record {
      untouched = λ lt. absurd (omega (arith, lt));
      least = λ ge. get_or-set_same now at written (pos 0) (omega arith) ∙ best_old;
      noted = λ ge. get_or-set_same choice at b false (omega arith) ∙ b_old;
    }

    cases : (k ≡ at) ⊎ ((k < at) ⊎ (at < k)) → IsChosenAt w c at old (set now at written) (set choice at b) k
    cases (inl same) = subst (λ (i : ℕ). IsChosenAt w c at old (set now at written) (set choice at b) i) (sym same) here
    cases (inr (inl below)) = record {
      untouched = λ lt. get_or-set_other now at k written (pos 0) (λ q. omega (arith, q, below)) ∙ (m k hk).untouched (omega arith);
      least = λ ge. absurd (omega (arith, ge, below));
      noted = λ ge. absurd (omega (arith, ge, below));
    }
    cases (inr (inr beyond)) = record {
      untouched = λ lt. absurd (omega (arith, lt, beyond));
      least = λ ge. get_or-set_other now at k written (pos 0) (λ q. omega (arith, q, beyond)) ∙ (m k hk).least (omega arith);
      noted = λ ge. get_or-set_other choice at k b false (λ q. omega (arith, q, beyond)) ∙ (m k hk).noted (omega arith);
    }

pub chosen_table : (w : ℕ) (c : ℤ) (from : ℕ) (old new : List ℤ) (choice : List Bool) (weights : List ℕ) (costs : List ℤ) → from ≡ 0 → length new ≡ length old
    → IsChosenFrom w c from old new choice → IsLeastTable weights costs old → IsLeastTable (w ∷ weights) (c ∷ costs) new
unfolding least
chosen_table w c from old new choice weights costs e size m t k h =
    let hk : k < length old = omega (arith, h, size) in
    let hr : k - w < length old = omega (arith, h, size) in
    rw (← t k hk, ← t (k - w) hr) ((m k hk).least (omega arith))

pub chosen_choices : (w : ℕ) (c : ℤ) (from : ℕ) (old new : List ℤ) (choice : List Bool) (weights : List ℕ) (costs : List ℤ) → from ≡ 0 → length choice ≡ length old
    → IsChosenFrom w c from old new choice → IsLeastTable weights costs old → IsChoices (w ∷ weights) (c ∷ costs) choice
unfolding takes_first
chosen_choices w c from old new choice weights costs e size m t k h =
    let hk : k < length old = omega (arith, h, size) in
    let hr : k - w < length old = omega (arith, h, size) in
    rw (← t k hk, ← t (k - w) hr) ((m k hk).noted (omega arith))

pub none_table : (table : List ℤ) → ((k : ℕ) → k < length table → get_or table k (pos 0) ≡ least_of_none k) → IsLeastTable [] [] table
unfolding least
none_table table h = h

-- ---- room for one cost more

pub least_high : (weights : List ℕ) (costs : List ℤ) (need : ℕ) → AreValues costs → length costs ≡ length weights → least weights costs need ≤ℤ total_value costs
least_high weights costs need all e = elim (answers weights costs need all e) [
  | inl none ↦ omega (arith, ints, none.0, total_low costs all)
  | inr pick ↦ omega (arith, ints, pick.1, value_high costs (picks weights costs need) all)
]

-- the table of the items behind an item has room for the cost of that item
pub least_room : (weights : List ℕ) (costs : List ℤ) (table : List ℤ) (i n : ℕ) → n ≡ i + 1 → i < length costs → length costs ≡ length weights → AreValues costs → total_value costs <ℤ pos (2 ^ 127)
    → IsLeastTable (drop n weights) (drop n costs) table → HasRoom (get_or costs i (pos 0)) table
least_room weights costs table i n e h size all sum t k hk =
    let rest : AreValues (drop n costs) = all_drop (λ v. pos 0 ≤ℤ v) costs n all in
    let sizes : length (drop n costs) ≡ length (drop n weights) = length-drop n costs ∙ ap (λ m. m - n) size ∙ sym (length-drop n weights) in
    omega (arith, ints, t k hk, least_high (drop n weights) (drop n costs) k rest sizes, value_first costs i n e h all, sum)
