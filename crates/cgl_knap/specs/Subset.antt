-- Sets of items: each a list of truth values, one for each item, true where the item is chosen.
use Rattle.std.specs.Prelude.{ℕ, ◌+◌, ℤ, pos, ◌+ℤ◌, ◌≤ℤ◌, Bool, true, false, List, [], ◌∷◌}
use Rattle.std.specs.List.{AllByRecursion}

-- the weights of the chosen items, added up
abbrev pub weight_of : List ℕ → List Bool → ℕ
weight_of [] z = 0
weight_of (w ∷ weights) [] = 0
weight_of (w ∷ weights) (true ∷ z) = w + weight_of weights z
weight_of (w ∷ weights) (false ∷ z) = weight_of weights z

-- the values of the chosen items, added up
abbrev pub value_of : List ℤ → List Bool → ℤ
value_of [] z = pos 0
value_of (v ∷ values) [] = pos 0
value_of (v ∷ values) (true ∷ z) = v +ℤ value_of values z
value_of (v ∷ values) (false ∷ z) = value_of values z

-- the weights of all items
abbrev pub total_weight : List ℕ → ℕ
total_weight [] = 0
total_weight (w ∷ weights) = w + total_weight weights

-- the values of all items
abbrev pub total_value : List ℤ → ℤ
total_value [] = pos 0
total_value (v ∷ values) = v +ℤ total_value values

-- none is below 0
abbrev pub AreValues : List ℤ → Type 0
AreValues values = AllByRecursion (λ v. pos 0 ≤ℤ v) values
