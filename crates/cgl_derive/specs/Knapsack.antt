-- An inequality `a x >= h` over binary columns as a knapsack. Its literals are 1 - x where a > 0, and x where a < 0; each
-- weighs the magnitude of its a, and those that are 1 weigh together at most the capacity.
use Rattle.std.specs.Prelude.{◌⊎◌, ℕ, ◌+◌, ℤ, pos, negsuc, ◌+ℤ◌, ◌-ℤ◌, ◌<ℤ◌, unsigned_abs, List, [], ◌∷◌, map}
use Rattle.cgl_model.specs.declared.linear.Ineq.{Ineq}
use Rattle.cgl_model.specs.Inequality.{Term}

abbrev pub coefficients : List Term → List ℤ
coefficients terms = map (λ t. t.1) terms

abbrev pub positive_part : ℤ → ℤ
positive_part (pos n) = pos n
positive_part (negsuc n) = pos 0

-- the sum of those above 0
abbrev pub positive_total : List ℤ → ℤ
positive_total [] = pos 0
positive_total (a ∷ numbers) = positive_part a +ℤ positive_total numbers

-- the sum of the coefficients above 0, less the right side
abbrev pub capacity : Ineq → ℤ
capacity c = positive_total (coefficients c.terms) -ℤ c.rhs

abbrev pub total_magnitude : List Term → ℕ
total_magnitude [] = 0
total_magnitude (t ∷ terms) = unsigned_abs t.1 + total_magnitude terms

-- both are above 0, or both below
abbrev pub IsSameSign : ℤ → ℤ → Type 0
IsSameSign a u = ((pos 0 <ℤ a) × (pos 0 <ℤ u)) ⊎ ((a <ℤ pos 0) × (u <ℤ pos 0))
