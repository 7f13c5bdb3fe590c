-- The places where there is no side, and the rows that have no integer form.
use Rattle.std.specs.Prelude.{◌≡◌, ◌≢◌, ◌⊎◌, ℕ, ℤ, List, Option, Some, None, option_map, slice_get}
use Rattle.std.specs.List.{AllByRecursion}
use Rattle.std.specs.Option.{IfSome}
use Rattle.cgl_num.specs.Decimal.{Decimal}
use Rattle.cgl_model.specs.declared.mip.RowKind.TheVariants.{N}
use Rattle.cgl_model.specs.declared.mip.Row.{Row}
use Rattle.cgl_model.specs.declared.mip.Column.{Column}
use Rattle.cgl_model.specs.declared.mip.Model.{Model}
use Rattle.cgl_model.specs.declared.places.End.{End}
use Rattle.cgl_model.specs.declared.places.End.TheVariants.{Lower, Upper}
use Rattle.cgl_model.specs.declared.places.Place.{Place}
use Rattle.cgl_model.specs.declared.places.Place.TheVariants.{Row as RowPlace, Bound}
use Rattle.cgl_model.specs.declared.places.Side.{Side}
use Rattle.cgl_model.specs.declared.integer_forms.RowShape.TheVariants.{Wide}
use Rattle.cgl_model.specs.Ends.{lower_end, upper_end}
use Rattle.cgl_model.specs.Feasible.{weight}
use Rattle.cgl_model.specs.IntegerForm.{row_shape}
use Rattle.cgl_model.specs.RowEntries.{row_entries}

-- ---- a list of sides

-- none of these sides stands at the place
abbrev pub IsNowhere : Place → List Side → Type 0
IsNowhere place sides = AllByRecursion (λ s. s.place ≢ place) sides

-- the side with this number stands at the place
abbrev pub IsSideAt : Place → List Side → ℕ → Type 0
IsSideAt place sides n = (s : Side) × (slice_get sides n ≡ Some s) × (s.place ≡ place)

-- ---- a model

-- 10^30 times an end of a row; none where it is infinite
abbrev pub row_end : End → Row → Option ℤ
row_end Lower row = lower_end row.kind (weight row.rhs) (option_map weight row.range)
row_end Upper row = upper_end row.kind (weight row.rhs) (option_map weight row.range)

-- a bound of a column; none where it is infinite
abbrev pub column_bound : End → Column → Option Decimal
column_bound Lower c = c.lo
column_bound Upper c = c.up

abbrev pub IsWideRow : Model → ℕ → Row → Type 0
IsWideRow m r row = row_shape (row_entries m r) row ≡ Wide

abbrev pub IsFreeOrWide : Model → ℕ → Row → Type 0
IsFreeOrWide m r row = (row.kind ≡ N) ⊎ IsWideRow m r row

-- there is no row r, or it is N or wide
abbrev pub IsFormless : Model → ℕ → Type 0
IsFormless m r = IfSome (slice_get m.rows r) (IsFreeOrWide m r)

-- there is a row r, and it is wide
abbrev pub IsWideAt : Model → ℕ → Type 0
IsWideAt m r = (row : Row) × (slice_get m.rows r ≡ Some row) × IsWideRow m r row

-- there is no such row or column, the row is N or wide, or the end is infinite
abbrev pub IsAbsent : Model → Place → Type 0
IsAbsent m (RowPlace r e) = IfSome (slice_get m.rows r) (λ row. IsFreeOrWide m r row ⊎ (row_end e row ≡ None))
IsAbsent m (Bound j e) = IfSome (slice_get m.cols j) (λ c. column_bound e c ≡ None)
