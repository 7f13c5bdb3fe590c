-- Least costs and choices, item by item, as the tables of covers have them; a cost below 0 stands for no set.
use Rattle.std.specs.Prelude.{◌≡◌, ℕ, zero, suc, ◌+◌, ◌-◌, ◌*◌, ◌<◌, nat_lt, ℤ, pos, negsuc, ◌+ℤ◌, Bool, true, false, cond, List, [], ◌∷◌, length, drop, slice_index_or}

abbrev pub with_cost : ℤ → ℤ → ℤ
with_cost cost (pos rest) = cost +ℤ pos rest
with_cost cost (negsuc rest) = negsuc 0

-- there is a set with the item, and it costs less than the one without it
abbrev pub takes : ℤ → ℤ → Bool
takes out (negsuc taken) = false
takes (negsuc out) (pos taken) = true
takes (pos out) (pos taken) = nat_lt taken out

abbrev pub lesser : ℤ → ℤ → ℤ
lesser out taken = cond (takes out taken) taken out

abbrev pub least_of_none : ℕ → ℤ
least_of_none zero = pos 0
least_of_none (suc need) = negsuc 0

-- the least cost of a set that weighs at least so much
unfoldable pub least : List ℕ → List ℤ → ℕ → ℤ
least [] costs need = least_of_none need
least (w ∷ weights) [] need = negsuc 0
least (w ∷ weights) (c ∷ costs) need = lesser (least weights costs need) (with_cost c (least weights costs (need - w)))

-- whether the first item is taken
unfoldable pub takes_first : List ℕ → List ℤ → ℕ → Bool
takes_first [] costs need = false
takes_first (w ∷ weights) [] need = false
takes_first (w ∷ weights) (c ∷ costs) need = takes (least weights costs need) (with_cost c (least weights costs (need - w)))

-- the items that are taken, from the first one on
unfoldable pub picks : List ℕ → List ℤ → ℕ → List Bool
picks [] costs need = []
picks (w ∷ weights) [] need = []
picks (w ∷ weights) (c ∷ costs) need =
    let first = takes (least weights costs need) (with_cost c (least weights costs (need - w))) in
    first ∷ picks weights costs (cond first (need - w) need)

-- ---- tables

-- the place of each weight has the least cost of a set that weighs at least so much
abbrev pub IsLeastTable : List ℕ → List ℤ → List ℤ → Type 0
IsLeastTable weights costs table = (k : ℕ) → k < length table → slice_index_or table k (pos 0) ≡ least weights costs k

-- and the place of the choices whether the first item is taken
abbrev pub IsChoices : List ℕ → List ℤ → List Bool → Type 0
IsChoices weights costs choice = (k : ℕ) → k < length choice → slice_index_or choice k false ≡ takes_first weights costs k

-- for each item a row of so many places: whether it is the first one taken of those from it on
abbrev pub AreAllChoices : List ℕ → List ℤ → ℕ → List Bool → Type 0
AreAllChoices weights costs places choice =
    (i k : ℕ) → i < length weights → k < places → slice_index_or choice (i * places + k) false ≡ takes_first (drop i weights) (drop i costs) k
