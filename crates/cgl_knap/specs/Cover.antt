-- The sets of items above a weight, and the least of them.
use Rattle.std.specs.Prelude.{◌≡◌, ◌⊎◌, ℕ, ◌≤◌, ℤ, ◌<ℤ◌, Bool, true, false, List, [], ◌∷◌, length}
use Rattle.cgl_knap.specs.Subset.{weight_of, value_of}

-- a truth value for each item, and the chosen ones weigh at least so much
pub record IsCover (weights : List ℕ) (need : ℕ) (z : List Bool) : Type 0 where
  pub size : length z ≡ length weights
  pub heavy : need ≤ weight_of weights z

-- in the order of lists of one length, false before true, the one is not after the other
abbrev pub IsNotAfter : List Bool → List Bool → Type 0
IsNotAfter [] z = Unit {0}
IsNotAfter (b ∷ y) [] = ⊥
IsNotAfter (true ∷ y) (true ∷ z) = IsNotAfter y z
IsNotAfter (true ∷ y) (false ∷ z) = ⊥
IsNotAfter (false ∷ y) (true ∷ z) = Unit {0}
IsNotAfter (false ∷ y) (false ∷ z) = IsNotAfter y z

-- of less cost, or of the same cost and not after it
abbrev pub IsNoWorse : List ℤ → List Bool → List Bool → Type 0
IsNoWorse costs y z = (value_of costs y <ℤ value_of costs z) ⊎ ((value_of costs y ≡ value_of costs z) × IsNotAfter y z)

-- the set of least cost that weighs at least so much, and of these the first one
pub record IsPick (weights : List ℕ) (costs : List ℤ) (need : ℕ) (pick : List Bool) : Type 0 where
  pub cover : IsCover weights need pick
  pub least : (z : List Bool) → IsCover weights need z → IsNoWorse costs pick z
