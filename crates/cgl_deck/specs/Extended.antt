-- A model with cuts as further rows.
use Rattle.std.specs.Prelude.{ℕ, ◌+◌, ◌==◌, ◌^◌, ◌<◌, nat_lt, nat_le, ℤ, Bool, ◌&&◌, List, [], ◌∷◌, ◌++◌, length, map, find, zip, sum_by, IsTrue, not, Option, Some, None, is_some, option_map, unwrap_or, if◌then◌else◌}
use Rattle.std.specs.List.{list_all, AllByRecursion}
use Rattle.cgl_num.specs.Decimal.{Decimal, decimal_of, zero_decimal}
use Rattle.cgl_num.specs.NumberText.{Word}
use Rattle.cgl_model.specs.declared.mip.RowKind.TheVariants.{G}
use Rattle.cgl_model.specs.declared.mip.Row.{Row}
use Rattle.cgl_model.specs.declared.mip.Column.{Column}
use Rattle.cgl_model.specs.declared.mip.Model.{Model}
use Rattle.cgl_model.specs.declared.linear.Ineq.{Ineq}
use Rattle.cgl_model.specs.Feasible.{IsFeasible}
use Rattle.cgl_model.specs.Inequality.{Term, Meets}
use Rattle.cgl_model.specs.Point.{Point}
use Rattle.cgl_model.specs.Rising.{IsRising}
use Rattle.cgl_model.specs.RowEntries.{onto_entries}
use Rattle.cgl_deck.specs.CutNames.{cut_names}

-- each column is one of the model's
abbrev pub is_known : Model → Ineq → Bool
is_known m c = list_all (λ t. nat_lt t.0 (length m.cols)) c.terms

-- each integer is a decimal within the limits
abbrev pub is_decimal : Ineq → Bool
is_decimal c = list_all (λ t. is_some (decimal_of t.1)) c.terms && is_some (decimal_of c.rhs)

abbrev pub entry_count : Model → ℕ
entry_count m = sum_by (λ c. length c.entries) m.cols

abbrev pub term_count : List Ineq → ℕ
term_count cuts = sum_by (λ c. length c.terms) cuts

-- at most 2^20 rows and 2^22 entries
abbrev pub is_within_sizes : Model → List Ineq → Bool
is_within_sizes m cuts = nat_le (length m.rows + length cuts) (2 ^ 20) && nat_le (entry_count m + term_count cuts) (2 ^ 22)

abbrev pub decimal_or_zero : ℤ → Decimal
decimal_or_zero n = unwrap_or (decimal_of n) zero_decimal

abbrev pub cut_row : Word × Ineq → Row
cut_row named = record { name = named.0; kind = G; rhs = decimal_or_zero named.1.rhs; range = None }

-- the coefficient of column j
abbrev pub coefficient_at : ℕ → List Term → Option Decimal
coefficient_at j terms = option_map (λ t. decimal_or_zero t.1) (find (λ t. j == t.0) terms)

-- the entries of column j in the rows of these cuts, which are numbered from r on
abbrev pub cut_entries : ℕ → ℕ → List Ineq → List (ℕ × Decimal)
cut_entries j r [] = []
cut_entries j r (c ∷ cuts) = onto_entries r (coefficient_at j c.terms) (cut_entries j (r + 1) cuts)

abbrev pub extended_column : ℕ → ℕ → List Ineq → Column → Column
extended_column r j cuts c = record c { entries = c.entries ++ cut_entries j r cuts }

abbrev pub extended_columns_from : ℕ → ℕ → List Ineq → List Column → List Column
extended_columns_from r j cuts [] = []
extended_columns_from r j cuts (c ∷ cols) = extended_column r j cuts c ∷ extended_columns_from r (j + 1) cuts cols

-- a G row for each cut, behind the model's rows
abbrev pub with_rows : Model → List Ineq → Model
with_rows m cuts =
    record m {
      rows = m.rows ++ map cut_row (zip (cut_names m (length cuts)) cuts);
      cols = extended_columns_from (length m.rows) 0 cuts m.cols;
    }

-- none where a cut names a column beyond the model, a number is no decimal within the limits, or there are too many rows or entries
unfoldable pub extended : Model → List Ineq → Option Model
extended m cuts = if list_all (is_known m) cuts && list_all is_decimal cuts && is_within_sizes m cuts then Some (with_rows m cuts) else None

-- columns and numbers are as they should be, and the extension exceeds the sizes
pub record IsTooMany (m : Model) (cuts : List Ineq) : Type 0 where
  pub known : IsTrue (list_all (is_known m) cuts)
  pub decimal : IsTrue (list_all is_decimal cuts)
  pub large : IsTrue (not (is_within_sizes m cuts))

-- ---- what the laws of extensions speak of

-- each entry is in one of the model's rows
abbrev pub AreInRows : Model → Type 0
AreInRows m = AllByRecursion (λ c. AllByRecursion (λ e. e.0 < length m.rows) c.entries) m.cols

abbrev pub AreRising : List Ineq → Type 0
AreRising cuts = AllByRecursion (λ c. IsRising c.terms) cuts

-- each feasible point of the model meets each cut
abbrev pub AreMet : Model → List Ineq → Type 0
AreMet m cuts = (x : Point) → IsFeasible m x → AllByRecursion (Meets x) cuts

-- the coefficients of a cut as decimals
abbrev pub decimal_terms : Ineq → List (ℕ × Decimal)
decimal_terms c = map (λ t. (t.0, decimal_or_zero t.1)) c.terms
