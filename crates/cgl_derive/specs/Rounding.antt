-- Inequalities divided by a number above 0, the right side rounded up.
use Rattle.std.specs.Prelude.{ℕ, ℤ, pos, ◌+ℤ◌, int_lt, int_div, int_rem, Bool, List, map, if◌then◌else◌}
use Rattle.std.specs.List.{list_all}
use Rattle.std.specs.Ordering.{int_eq}
use Rattle.cgl_num.specs.Gcd.{gcd_of}
use Rattle.cgl_model.specs.declared.linear.Ineq.{Ineq}
use Rattle.cgl_model.specs.Inequality.{Term}

abbrev pub divides : ℤ → ℤ → Bool
divides g z = int_eq (int_rem z g) (pos 0)

-- g divides each coefficient
abbrev pub divides_all : ℤ → List Term → Bool
divides_all g terms = list_all (λ t. divides g t.1) terms

-- z over g, rounded up
abbrev pub ceiling : ℤ → ℤ → ℤ
ceiling z g = int_div z g +ℤ (if int_lt (pos 0) (int_rem z g) then pos 1 else pos 0)

abbrev pub quotients : ℤ → List Term → List Term
quotients g terms = map (λ t. (t.0, int_div t.1 g)) terms

-- the inequality divided by g, its right side rounded up
abbrev pub rounded : ℤ → Ineq → Ineq
rounded g from = record { terms = quotients g from.terms; rhs = ceiling from.rhs g }

-- the gcd of the coefficients
abbrev pub divisor_of : List Term → ℕ
divisor_of terms = gcd_of (map (λ t. t.1) terms)
