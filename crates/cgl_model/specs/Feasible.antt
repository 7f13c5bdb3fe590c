-- The feasible points of a model.
use Rattle.std.specs.Prelude.{◌≡◌, ℕ, ℤ, pos, ◌*ℤ◌, ◌≤ℤ◌, ◌<ℤ◌, ◌↔◌, ◌^◌, true, length, map, Option, Some, None, option_map, slice_get}
use Rattle.std.specs.Option.{IfSome}
use Rattle.cgl_num.specs.Decimal.{Decimal, scaled}
use Rattle.cgl_model.specs.declared.mip.Row.{Row}
use Rattle.cgl_model.specs.declared.mip.Column.{Column}
use Rattle.cgl_model.specs.declared.mip.Model.{Model}
use Rattle.cgl_model.specs.declared.places.End.TheVariants.{Lower, Upper}
use Rattle.cgl_model.specs.declared.places.Place.{Place}
use Rattle.cgl_model.specs.declared.places.Place.TheVariants.{Row as RowPlace, Bound}
use Rattle.cgl_model.specs.declared.places.Side.{Side}
use Rattle.cgl_model.specs.Ends.{lower_end, upper_end}
use Rattle.cgl_model.specs.Inequality.{Term, Meets, sum_at}
use Rattle.cgl_model.specs.Point.{Point, number_at}
use Rattle.cgl_model.specs.RowEntries.{row_entries}

-- 10^30 times a number, which is whole
abbrev pub weight : Decimal → ℤ
weight d = scaled 30 d

abbrev pub weight_term : ℕ × Decimal → Term
weight_term e = (e.0, weight e.1)

-- b q <= s, where the bound is finite
abbrev pub IsAtLeast : Option ℤ → ℤ → ℤ → Type 0
IsAtLeast None q s = Unit {0}
IsAtLeast (Some b) q s = (b *ℤ q) ≤ℤ s

-- s <= b q, where the bound is finite
abbrev pub IsAtMost : Option ℤ → ℤ → ℤ → Type 0
IsAtMost None q s = Unit {0}
IsAtMost (Some b) q s = s ≤ℤ (b *ℤ q)

-- the row's sum at the point, times 10^30 and the denominator
abbrev pub row_sum : Model → Point → ℕ → ℤ
row_sum m x r = sum_at x.p (map weight_term (row_entries m r))

abbrev pub MeetsLowerEnd : Model → Point → ℕ → Row → Type 0
MeetsLowerEnd m x r row = IsAtLeast (lower_end row.kind (weight row.rhs) (option_map weight row.range)) x.d (row_sum m x r)

abbrev pub MeetsUpperEnd : Model → Point → ℕ → Row → Type 0
MeetsUpperEnd m x r row = IsAtMost (upper_end row.kind (weight row.rhs) (option_map weight row.range)) x.d (row_sum m x r)

pub record MeetsRow (m : Model) (x : Point) (r : ℕ) (row : Row) : Type 0 where
  pub lower : MeetsLowerEnd m x r row
  pub upper : MeetsUpperEnd m x r row

abbrev pub MeetsLowerBound : Point → ℕ → Column → Type 0
MeetsLowerBound x j c = IsAtLeast (option_map weight c.lo) x.d (pos (10 ^ 30) *ℤ number_at x.p j)

abbrev pub MeetsUpperBound : Point → ℕ → Column → Type 0
MeetsUpperBound x j c = IsAtMost (option_map weight c.up) x.d (pos (10 ^ 30) *ℤ number_at x.p j)

pub record MeetsBounds (x : Point) (j : ℕ) (c : Column) : Type 0 where
  pub lower : MeetsLowerBound x j c
  pub upper : MeetsUpperBound x j c

-- the point meets one end: that of a row, or of a column's bounds
abbrev pub MeetsEnd : Model → Point → Place → Type 0
MeetsEnd m x (RowPlace r Lower) = IfSome (slice_get m.rows r) (MeetsLowerEnd m x r)
MeetsEnd m x (RowPlace r Upper) = IfSome (slice_get m.rows r) (MeetsUpperEnd m x r)
MeetsEnd m x (Bound j Lower) = IfSome (slice_get m.cols j) (MeetsLowerBound x j)
MeetsEnd m x (Bound j Upper) = IfSome (slice_get m.cols j) (MeetsUpperBound x j)

-- the point meets a side exactly where it meets the end that the side stands for
abbrev pub MeansItsEnd : Model → Point → Side → Type 0
MeansItsEnd m x s = Meets x s.ineq ↔ MeetsEnd m x s.place

-- the denominator divides the number
abbrev pub IsWhole : ℤ → ℤ → Type 0
IsWhole d n = (k : ℤ) × (n ≡ k *ℤ d)

-- one number for each column, and a denominator above 0
pub record IsPoint (m : Model) (x : Point) : Type 0 where
  pub size : length x.p ≡ length m.cols
  pub positive : pos 0 <ℤ x.d

pub record IsFeasible (m : Model) (x : Point) : Type 0 where
  pub point : IsPoint m x
  pub rows : (r : ℕ) (row : Row) → slice_get m.rows r ≡ Some row → MeetsRow m x r row
  pub bounds : (j : ℕ) (c : Column) → slice_get m.cols j ≡ Some c → MeetsBounds x j c
  pub integers : (j : ℕ) (c : Column) → slice_get m.cols j ≡ Some c → c.integer ≡ true → IsWhole x.d (number_at x.p j)

-- two models with the same feasible points
abbrev pub SamePoints : Model → Model → Type 0
SamePoints m n = (x : Point) → (IsFeasible m x → IsFeasible n x) × (IsFeasible n x → IsFeasible m x)
