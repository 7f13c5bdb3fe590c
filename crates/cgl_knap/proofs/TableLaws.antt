-- Tables of greatest values, and how one item more changes them.
use Rattle.std.proofs.Common.{◌≡◌, ℕ, ◌+◌, ◌-◌, ◌≤◌, ◌<◌, ◌^◌, ℤ, pos, List, [], ◌∷◌, ◌++◌, length, take, refl, sym, ◌∙◌, subst, arith, get_or, set, drop, ◌⊎◌, inl, inr}
use Rattle.std.specs.Prelude.{◌+ℤ◌, ◌≤ℤ◌, ◌<ℤ◌}
use Rattle.std.specs.Int.{int_max}
use Rattle.std.proofs.lemmas.Int.{ints}
use Rattle.std.proofs.lemmas.Bool.{cases_lt, cases_order}
use Rattle.std.proofs.lemmas.List.{get_or-set_other, get_or-set_same, get_or_append_left, take-append-le, take_all, length-take, get_or-take}
use Rattle.cgl_knap.specs.Subset.{total_value, AreValues}
use Rattle.cgl_knap.specs.Greatest.{IsGreatest, IsTable, HasRoom}
use Rattle.cgl_knap.proofs.GreatestLaws.{greatest_none, greatest_heavy, greatest_more, greatest_high}
use Rattle.cgl_knap.proofs.ValueLaws.{all_drop, value_first}

-- the table of one item more: from place `from` on it has been made, and below it is as it was
pub record IsMoreAt (weight : ℕ) (value : ℤ) (from : ℕ) (old new : List ℤ) (k : ℕ) : Type 0 where
  pub untouched : k < from → get_or new k (pos 0) ≡ get_or old k (pos 0)
  pub light : k < weight → get_or new k (pos 0) ≡ get_or old k (pos 0)
  pub greater : from ≤ k → weight ≤ k → get_or new k (pos 0) ≡ int_max (get_or old k (pos 0)) (value +ℤ get_or old (k - weight) (pos 0))

abbrev pub IsMoreFrom : ℕ → ℤ → ℕ → List ℤ → List ℤ → Type 0
IsMoreFrom weight value from old new = (k : ℕ) → k < length old → IsMoreAt weight value from old new k

pub more_from_end : (w : ℕ) (v : ℤ) (old : List ℤ) → IsMoreFrom w v (length old) old old
more_from_end w v old k h = record { untouched = λ lt. refl; light = λ lt. refl; greater = λ ge l. absurd (omega (arith, ge, h)) }

pub more_step : (w : ℕ) (v : ℤ) (from cap : ℕ) (old now : List ℤ) (best : ℤ) → from ≡ cap + 1 → length now ≡ length old → cap < length old → w ≤ cap
    → IsMoreFrom w v from old now → best ≡ int_max (get_or now cap (pos 0)) (v +ℤ get_or now (cap - w) (pos 0)) → IsMoreFrom w v cap old (set now cap best)
more_step w v from cap old now best e size h fits m g k hk = at (cases_order k cap)
  where
    here : IsMoreAt w v cap old (set now cap best) cap
    here =
        let same : get_or now cap (pos 0) ≡ get_or old cap (pos 0) = (m cap h).untouched (omega arith) in
        let rest : get_or now (cap - w) (pos 0) ≡ get_or old (cap - w) (pos 0) = (m (cap - w) (omega arith)).untouched (omega arith) in
        let written : get_or (set now cap best) cap (pos 0) ≡ best = get_or-set_same now cap best (pos 0) (omega arith) in
        record {
          untouched = λ lt. absurd (omega (arith, lt));
          light = λ lt. absurd (omega (arith, lt));
          greater = λ ge l. rw (written, ← same, ← rest) g;
        }

    at : (k ≡ cap) ⊎ ((k < cap) ⊎ (cap < k)) → IsMoreAt w v cap old (set now cap best) k
    at (inl same) = subst (λ (i : ℕ). IsMoreAt w v cap old (set now cap best) i) (sym same) here
    at (inr (inl below)) =
        let other : get_or (set now cap best) k (pos 0) ≡ get_or now k (pos 0) = get_or-set_other now cap k best (pos 0) (λ q. omega (arith, q, below)) in
        let as_it_was = other ∙ (m k hk).untouched (omega arith) in
        record { untouched = λ lt. as_it_was; light = λ lt. as_it_was; greater = λ ge l. absurd (omega (arith, ge, below)) }
    at (inr (inr beyond)) =
        let other : get_or (set now cap best) k (pos 0) ≡ get_or now k (pos 0) = get_or-set_other now cap k best (pos 0) (λ q. omega (arith, q, beyond)) in
        record {
          untouched = λ lt. absurd (omega (arith, lt, beyond));
          light = λ lt. other ∙ (m k hk).light lt;
          greater = λ ge l. other ∙ (m k hk).greater (omega arith) l;
        }

pub table_more : (w : ℕ) (v : ℤ) (from : ℕ) (old new : List ℤ) (weights : List ℕ) (values : List ℤ) → from ≤ w → length new ≡ length old
    → IsMoreFrom w v from old new → IsTable weights values old → IsTable (w ∷ weights) (v ∷ values) new
table_more w v from old new weights values le size m t k h = at (cases_lt k w)
  where
    hk : k < length old
    hk = omega (arith, h, size)

    at : (k < w) ⊎ (w ≤ k) → IsGreatest (w ∷ weights) (v ∷ values) k (get_or new k (pos 0))
    at (inl lt) = rw ((m k hk).light lt) (greatest_heavy w v weights values k (get_or old k (pos 0)) lt (t k hk))
    at (inr ge) =
        let hr : k - w < length old = omega (arith, hk) in
        rw ((m k hk).greater (omega arith) ge) (greatest_more w v weights values k (get_or old k (pos 0)) (get_or old (k - w) (pos 0)) ge (t k hk) (t (k - w) hr))

-- a table has room for a value, where that and all values together are below 2^127
pub table_room : (weights : List ℕ) (values : List ℤ) (table : List ℤ) (v : ℤ) → AreValues values → IsTable weights values table → (v +ℤ total_value values) <ℤ pos (2 ^ 127) → HasRoom v table
table_room weights values table v all t sum k hk = omega (arith, ints, greatest_high weights values k (get_or table k (pos 0)) all (t k hk), sum)

-- so has the table of the items behind an item for the value of that item
pub next_room : (weights : List ℕ) (values : List ℤ) (table : List ℤ) (i n : ℕ) → n ≡ i + 1 → i < length values → AreValues values → total_value values <ℤ pos (2 ^ 127)
    → IsTable (drop n weights) (drop n values) table → HasRoom (get_or values i (pos 0)) table
next_room weights values table i n e h all sum t =
    table_room (drop n weights) (drop n values) table (get_or values i (pos 0)) (all_drop (λ v. pos 0 ≤ℤ v) values n all) t (omega (arith, ints, value_first values i n e h all, sum))

pub table_all : (weights : List ℕ) (values : List ℤ) (table : List ℤ) (i : ℕ) → i ≡ 0 → IsTable (drop i weights) (drop i values) table → IsTable weights values table
table_all weights values table i e t = subst (λ (m : ℕ). IsTable (drop m weights) (drop m values) table) e t

pub empty_table : (table : List ℤ) → ((k : ℕ) → k < length table → get_or table k (pos 0) ≡ pos 0) → IsTable [] [] table
empty_table table zeros k h = rw (zeros k h) (greatest_none k)

-- ---- a table in front of other places

pub table_place : (weights : List ℕ) (values : List ℤ) (table rest : List ℤ) (cap : ℕ) → cap < length table → IsTable weights values table → IsGreatest weights values cap (get_or (table ++ rest) cap (pos 0))
table_place weights values table rest cap h t = rw (get_or_append_left table rest (pos 0) cap h) (t cap h)

pub table_front : (weights : List ℕ) (values : List ℤ) (table rest : List ℤ) (n : ℕ) → length table ≡ n → IsTable weights values table → IsTable weights values (take n (table ++ rest))
table_front weights values table rest n e t = rw (take-append-le n table rest (omega (arith, e)) ∙ take_all n table (omega (arith, e))) t

pub table_take : (weights : List ℕ) (values table : List ℤ) (n : ℕ) → IsTable weights values table → IsTable weights values (take n table)
table_take weights values table n t k h =
    let within : k < n = omega (arith, h, length-take n table) in
    let there : k < length table = omega (arith, h, length-take n table) in
    rw (get_or-take n table k (pos 0) within) (t k there)
