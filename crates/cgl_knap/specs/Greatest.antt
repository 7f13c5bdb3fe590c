-- The greatest value of a set of items within a capacity.
use Rattle.std.specs.Prelude.{◌≡◌, ℕ, ◌≤◌, ◌<◌, ◌^◌, ℤ, pos, ◌+ℤ◌, ◌≤ℤ◌, ◌<ℤ◌, Bool, List, length, slice_index_or}
use Rattle.cgl_knap.specs.Subset.{weight_of, value_of}

-- a truth value for each item, and the chosen ones weigh at most the capacity
pub record IsWithin (weights : List ℕ) (cap : ℕ) (z : List Bool) : Type 0 where
  pub size : length z ≡ length weights
  pub light : weight_of weights z ≤ cap

-- no set within the capacity has a greater value
abbrev pub IsBound : List ℕ → List ℤ → ℕ → ℤ → Type 0
IsBound weights values cap bound = (z : List Bool) → IsWithin weights cap z → value_of values z ≤ℤ bound

-- and some set within it has this value
pub record IsGreatest (weights : List ℕ) (values : List ℤ) (cap : ℕ) (best : ℤ) : Type 0 where
  pub reached : (z : List Bool) × IsWithin weights cap z × (value_of values z ≡ best)
  pub bound : IsBound weights values cap best

-- ---- tables

-- the place of each capacity has the greatest value within it
abbrev pub IsTable : List ℕ → List ℤ → List ℤ → Type 0
IsTable weights values table = (k : ℕ) → k < length table → IsGreatest weights values k (slice_index_or table k (pos 0))

-- each place and the value together are below 2^127
abbrev pub HasRoom : ℤ → List ℤ → Type 0
HasRoom value table = (k : ℕ) → k < length table → (value +ℤ slice_index_or table k (pos 0)) <ℤ pos (2 ^ 127)
