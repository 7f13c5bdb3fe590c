-- Rows and bounds in whole numbers.
use Rattle.std.specs.Prelude.{ℕ, ◌+◌, ◌==◌, ◌^◌, ◌<◌, nat_le, max, ℤ, pos, int_div, unsigned_abs, Bool, not, List, [], ◌∷◌, ◌++◌, map, filter, Option, Some, None, option_map, option_to_list, if◌then◌else◌}
use Rattle.std.specs.Option.{IfSome}
use Rattle.std.specs.List.{list_any}
use Rattle.std.specs.Ordering.{int_eq}
use lib.IntN.{neg_ℤ}
use Rattle.cgl_num.specs.Decimal.{Decimal, scaled, places}
use Rattle.cgl_num.specs.Fraction.{Fraction, lowest}
use Rattle.cgl_num.specs.Gcd.{gcd_of}
use Rattle.cgl_model.specs.declared.mip.RowKind.{RowKind}
use Rattle.cgl_model.specs.declared.mip.RowKind.TheVariants.{N, L, G, E}
use Rattle.cgl_model.specs.declared.mip.Row.{Row}
use Rattle.cgl_model.specs.declared.mip.Column.{Column}
use Rattle.cgl_model.specs.declared.mip.Model.{Model}
use Rattle.cgl_model.specs.declared.places.End.TheVariants.{Lower, Upper}
use Rattle.cgl_model.specs.declared.places.Place.{Place}
use Rattle.cgl_model.specs.declared.places.Place.TheVariants.{Row as RowPlace, Bound}
use Rattle.cgl_model.specs.declared.places.Side.{Side}
use Rattle.cgl_model.specs.declared.row_numbers.RowNumbers.{RowNumbers}
use Rattle.cgl_model.specs.declared.integer_forms.RowForm.{RowForm}
use Rattle.cgl_model.specs.declared.integer_forms.RowShape.{RowShape}
use Rattle.cgl_model.specs.declared.integer_forms.RowShape.TheVariants.{Free, Wide, Form}
use Rattle.cgl_model.specs.Ends.{lower_end, upper_end}
use Rattle.cgl_model.specs.FormList.{FormList}
use Rattle.cgl_model.specs.Inequality.{Term}
use Rattle.cgl_model.specs.RowEntries.{row_entries}

-- ---- a row times a power of ten

-- the most decimal places of these
abbrev pub most_places : List Decimal → ℕ
most_places [] = 0
most_places (d ∷ ds) = max (places d) (most_places ds)

-- the least k for which 10^k times each number of the row is whole
abbrev pub row_places : List (ℕ × Decimal) → Row → ℕ
row_places entries row = most_places (map (λ e. e.1) entries ++ (row.rhs ∷ option_to_list row.range))

abbrev pub scaled_term : ℕ → ℕ × Decimal → Term
scaled_term k e = (e.0, scaled k e.1)

abbrev pub scaled_row : ℕ → List (ℕ × Decimal) → Row → RowNumbers
scaled_row k entries row = record { coeffs = map (scaled_term k) entries; rhs = scaled k row.rhs; range = option_map (scaled k) row.range }

abbrev pub row_numbers : RowNumbers → List ℤ
row_numbers n = map (λ t. t.1) n.coeffs ++ (n.rhs ∷ option_to_list n.range)

-- ---- wide rows

abbrev pub is_wide_number : ℤ → Bool
is_wide_number z = nat_le (2 ^ 100) (unsigned_abs z)

abbrev pub row_ends : RowKind → RowNumbers → List ℤ
row_ends kind n = option_to_list (lower_end kind n.rhs n.range) ++ option_to_list (upper_end kind n.rhs n.range)

-- some product, or some end of it, reaches 2^100
abbrev pub is_wide_row : RowKind → RowNumbers → Bool
is_wide_row kind n = list_any is_wide_number (row_numbers n ++ row_ends kind n)

-- ---- the integer form

-- by the gcd of all; the gcd 0 divides nothing
abbrev pub divided : ℕ → ℤ → ℤ
divided g z = if g == 0 then z else int_div z (pos g)

abbrev pub divided_row : ℕ → RowNumbers → RowNumbers
divided_row g n = record { coeffs = map (λ t. (t.0, divided g t.1)) n.coeffs; rhs = divided g n.rhs; range = option_map (divided g) n.range }

abbrev pub is_nonzero_term : Term → Bool
is_nonzero_term t = not (int_eq t.1 (pos 0))

abbrev pub form_of : RowKind → RowNumbers → RowForm
form_of kind n =
    record {
      coeffs = filter is_nonzero_term n.coeffs;
      rhs = n.rhs;
      lo = lower_end kind n.rhs n.range;
      up = upper_end kind n.rhs n.range;
    }

abbrev pub shape_of_numbers : RowKind → RowNumbers → RowShape
shape_of_numbers kind n = if is_wide_row kind n then Wide else Form (form_of kind (divided_row (gcd_of (row_numbers n)) n))

abbrev pub row_shape_of : RowKind → RowNumbers → RowShape
row_shape_of N n = Free
row_shape_of L n = shape_of_numbers L n
row_shape_of G n = shape_of_numbers G n
row_shape_of E n = shape_of_numbers E n

unfoldable pub row_shape : List (ℕ × Decimal) → Row → RowShape
row_shape entries row = row_shape_of row.kind (scaled_row (row_places entries row) entries row)

abbrev pub row_shapes_from : Model → ℕ → List Row → List RowShape
row_shapes_from m r [] = []
row_shapes_from m r (row ∷ rows) = row_shape (row_entries m r) row ∷ row_shapes_from m (r + 1) rows

abbrev pub row_shapes : Model → List RowShape
row_shapes m = row_shapes_from m 0 m.rows

-- the upper end has a negative
abbrev pub IsNarrowShape : RowShape → Type 0
IsNarrowShape Free = Unit {0}
IsNarrowShape Wide = Unit {0}
IsNarrowShape (Form f) = IfSome f.up (λ e. unsigned_abs e < 2 ^ 127)

-- ---- sides

abbrev pub negated : List Term → List Term
negated terms = map (λ t. (t.0, neg_ℤ t.1)) terms

-- the terms are at least the end
abbrev pub lower_side : Place → List Term → Option ℤ → List Side
lower_side place terms None = []
lower_side place terms (Some b) = record { place = place; ineq = record { terms = terms; rhs = b } } ∷ []

-- the terms are at most the end
abbrev pub upper_side : Place → List Term → Option ℤ → List Side
upper_side place terms None = []
upper_side place terms (Some b) = record { place = place; ineq = record { terms = negated terms; rhs = neg_ℤ b } } ∷ []

abbrev pub row_sides : ℕ → RowShape → List Side
row_sides r Free = []
row_sides r Wide = []
row_sides r (Form f) = lower_side (RowPlace r Lower) f.coeffs f.lo ++ upper_side (RowPlace r Upper) f.coeffs f.up

abbrev pub row_sides_from : ℕ → List RowShape → List Side
row_sides_from r [] = []
row_sides_from r (shape ∷ shapes) = row_sides r shape ++ row_sides_from (r + 1) shapes

-- a bound as a fraction in lowest terms
abbrev pub bound_of : Decimal → Fraction
bound_of d = lowest (scaled (places d) d) (pos (10 ^ places d))

-- the bound's denominator times the column is at least its numerator
abbrev pub lower_bound_side : ℕ → Option Decimal → List Side
lower_bound_side j None = []
lower_bound_side j (Some d) = record { place = Bound j Lower; ineq = record { terms = (j, (bound_of d).den) ∷ []; rhs = (bound_of d).num } } ∷ []

abbrev pub upper_bound_side : ℕ → Option Decimal → List Side
upper_bound_side j None = []
upper_bound_side j (Some d) = record { place = Bound j Upper; ineq = record { terms = (j, neg_ℤ (bound_of d).den) ∷ []; rhs = neg_ℤ (bound_of d).num } } ∷ []

abbrev pub column_sides : ℕ → Column → List Side
column_sides j c = lower_bound_side j c.lo ++ upper_bound_side j c.up

abbrev pub column_sides_from : ℕ → List Column → List Side
column_sides_from j [] = []
column_sides_from j (c ∷ cols) = column_sides j c ++ column_sides_from (j + 1) cols

-- for each row its lower and then its upper side, and then for each column those of its bounds
abbrev pub sides_of : Model → List Side
sides_of m = row_sides_from 0 (row_shapes m) ++ column_sides_from 0 m.cols

unfoldable pub forms_of : Model → FormList
forms_of m = record { rows = row_shapes m; sides = sides_of m }
