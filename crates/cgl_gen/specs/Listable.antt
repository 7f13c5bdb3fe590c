-- Which cuts a list of cuts may have.
use Rattle.std.specs.Prelude.{◌^◌, ◌<◌, nat_le, ℤ, pos, int_lt, unsigned_abs, Bool, ◌||◌}
use Rattle.std.specs.List.{AllByRecursion, list_any}
use Rattle.cgl_model.specs.declared.linear.Ineq.{Ineq}
use Rattle.cgl_model.specs.Inequality.{violation, violation_magnitude}
use Rattle.cgl_model.specs.Point.{Point}

-- each number is below 10^24 in magnitude
pub record IsListable (c : Ineq) : Type 0 where
  pub terms : AllByRecursion (λ t. unsigned_abs t.1 < 10 ^ 24) c.terms
  pub rhs : unsigned_abs c.rhs < 10 ^ 24

abbrev pub is_large : ℤ → Bool
is_large z = nat_le (10 ^ 24) (unsigned_abs z)

-- a number of it reaches 10^24 in magnitude
abbrev pub is_large_cut : Ineq → Bool
is_large_cut c = list_any (λ t. is_large t.1) c.terms || is_large c.rhs

-- its violation does not fit
abbrev pub is_wide_at : Ineq → Point → Bool
is_wide_at c x = nat_le (2 ^ 127) (violation_magnitude c x)

abbrev pub is_violated : Ineq → Point → Bool
is_violated c x = int_lt (pos 0) (violation c x).num
