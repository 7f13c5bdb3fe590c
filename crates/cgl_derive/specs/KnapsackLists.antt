-- Lists of zeros and ones over the columns of one inequality, and over its literals.
use Rattle.std.specs.Prelude.{◌≡◌, ℤ, pos, ◌+ℤ◌, ◌-ℤ◌, ◌≤ℤ◌, unsigned_abs, Bool, true, false, List, [], ◌∷◌, length, map}
use Rattle.cgl_model.specs.declared.linear.Ineq.{Ineq}
use Rattle.cgl_model.specs.Inequality.{Term}
use Rattle.cgl_derive.specs.Derives.{coefficient}
use Rattle.cgl_derive.specs.Knapsack.{capacity, coefficients, positive_total}

-- the coefficients of one list of terms at the columns of another
abbrev pub coefficients_at : List Term → List Term → List ℤ
coefficients_at columns terms = map (λ t. coefficient t.0 terms) columns

-- the sum of the numbers that are chosen
abbrev pub chosen_sum : List ℤ → List Bool → ℤ
chosen_sum [] z = pos 0
chosen_sum (a ∷ numbers) [] = pos 0
chosen_sum (a ∷ numbers) (true ∷ z) = a +ℤ chosen_sum numbers z
chosen_sum (a ∷ numbers) (false ∷ z) = chosen_sum numbers z

-- each list of zeros and ones over the columns of one inequality that meets it meets the other
abbrev pub HoldsAtLists : Ineq → Ineq → Type 0
HoldsAtLists from claim =
    (z : List Bool) → length z ≡ length from.terms → from.rhs ≤ℤ chosen_sum (coefficients from.terms) z → claim.rhs ≤ℤ chosen_sum (coefficients_at from.terms claim.terms) z

abbrev pub sizes : List ℤ → List ℤ
sizes numbers = map (λ a. pos (unsigned_abs a)) numbers

-- each set of literals that weighs at most the capacity counts for at most what the other inequality leaves
abbrev pub HoldsAtLiterals : Ineq → Ineq → Type 0
HoldsAtLiterals from claim =
    (y : List Bool) → length y ≡ length from.terms → chosen_sum (sizes (coefficients from.terms)) y ≤ℤ capacity from
    → chosen_sum (sizes (coefficients_at from.terms claim.terms)) y ≤ℤ (positive_total (coefficients_at from.terms claim.terms) -ℤ claim.rhs)
