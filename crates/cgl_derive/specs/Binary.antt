-- Binary columns, and points of zeros and ones.
use Rattle.std.specs.Prelude.{◌≡◌, ℕ, zero, suc, ℤ, pos, ◌*ℤ◌, int_le, Bool, true, false, not, ◌&&◌, ◌||◌, List, [], ◌∷◌, length, map, Some, slice_get}
use Rattle.std.specs.List.{AllByRecursion}
use Rattle.cgl_num.specs.Decimal.{Decimal, zero_decimal}
use Rattle.cgl_model.specs.declared.linear.Ineq.{Ineq}
use Rattle.cgl_model.specs.declared.mip.Column.{Column}
use Rattle.cgl_model.specs.declared.mip.Model.{Model}
use Rattle.cgl_model.specs.Inequality.{Term, Meets, sum_at}
use Rattle.cgl_model.specs.Point.{Point}

abbrev pub one_decimal : Decimal
one_decimal = record { m = pos 1; e = pos 0 }

-- an integer column with the bounds 0 and 1
pub record IsBinary (c : Column) : Type 0 where
  pub integer : c.integer ≡ true
  pub lower : c.lo ≡ Some zero_decimal
  pub upper : c.up ≡ Some one_decimal

abbrev pub IsBinaryAt : Model → ℕ → Type 0
IsBinaryAt m j = (c : Column) × (slice_get m.cols j ≡ Some c) × IsBinary c

abbrev pub AreBinary : Model → List Term → Type 0
AreBinary m terms = AllByRecursion (λ t. IsBinaryAt m t.0) terms

abbrev pub bit : Bool → ℤ
bit true = pos 1
bit false = pos 0

abbrev pub bits : List Bool → Point
bits z = record { p = map bit z; d = pos 1 }

-- each point of zeros and ones that meets one inequality meets the other
abbrev pub HoldsAtBits : Model → Ineq → Ineq → Type 0
HoldsAtBits m from claim = (z : List Bool) → length z ≡ length m.cols → Meets (bits z) from → Meets (bits z) claim

-- ---- the same as a test

-- the test holds of each list of n truth values
unfoldable pub holds_of_all : ℕ → (List Bool → Bool) → Bool
holds_of_all zero test = test []
holds_of_all (suc n) test = holds_of_all n (λ z. test (true ∷ z)) && holds_of_all n (λ z. test (false ∷ z))

unfoldable pub meets_at : Ineq → List Bool → Bool
meets_at c z = int_le (c.rhs *ℤ pos 1) (sum_at (map bit z) c.terms)

unfoldable pub holds_at_bits : Model → Ineq → Ineq → Bool
holds_at_bits m from claim = holds_of_all (length m.cols) (λ z. not (meets_at from z) || meets_at claim z)
