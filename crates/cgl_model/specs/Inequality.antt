-- Inequalities at points.
use Rattle.std.specs.Prelude.{ℕ, ℤ, pos, ◌+◌, ◌*◌, ◌+ℤ◌, ◌-ℤ◌, ◌*ℤ◌, ◌≤ℤ◌, ◌<◌, unsigned_abs, List, [], ◌∷◌}
use Rattle.std.specs.List.{AllByRecursion}
use Rattle.cgl_num.specs.Fraction.{Fraction, lowest}
use Rattle.cgl_model.specs.declared.linear.Ineq.{Ineq}
use Rattle.cgl_model.specs.Point.{Point, number_at}

abbrev pub Term : Type 0
Term = ℕ × ℤ

-- each column is one of the first n
abbrev pub AreColumnsBelow : ℕ → List Term → Type 0
AreColumnsBelow n terms = AllByRecursion (λ t. t.0 < n) terms

-- the sum of the terms at numbers for the columns
abbrev pub sum_at : List ℤ → List Term → ℤ
sum_at p [] = pos 0
sum_at p (t ∷ terms) = t.1 *ℤ number_at p t.0 +ℤ sum_at p terms

-- the point meets the inequality
abbrev pub Meets : Point → Ineq → Type 0
Meets x c = (c.rhs *ℤ x.d) ≤ℤ sum_at x.p c.terms

-- by how much the point violates the inequality, as a fraction in lowest terms
abbrev pub violation : Ineq → Point → Fraction
violation c x = lowest (c.rhs *ℤ x.d -ℤ sum_at x.p c.terms) x.d

-- the sum of the magnitudes in the violation
abbrev pub magnitudes_at : List ℤ → List Term → ℕ
magnitudes_at p [] = 0
magnitudes_at p (t ∷ terms) = unsigned_abs t.1 * unsigned_abs (number_at p t.0) + magnitudes_at p terms

abbrev pub violation_magnitude : Ineq → Point → ℕ
violation_magnitude c x = unsigned_abs c.rhs * unsigned_abs x.d + magnitudes_at x.p c.terms
