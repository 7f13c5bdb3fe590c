-- The coefficients of a row, by columns.
use Rattle.std.specs.Prelude.{ℕ, ◌+◌, ◌==◌, ◌≤◌, ◌<◌, Bool, false, List, [], ◌∷◌, find, Option, Some, None, option_map}
use Rattle.std.specs.List.{AllByRecursion}
use Rattle.cgl_num.specs.Decimal.{Decimal}
use Rattle.cgl_model.specs.declared.mip.Column.{Column}
use Rattle.cgl_model.specs.declared.mip.Model.{Model}

-- a column's coefficient in row r
abbrev pub entry_at : ℕ → List (ℕ × Decimal) → Option Decimal
entry_at r entries = option_map (λ e. e.1) (find (λ e. r == e.0) entries)

abbrev pub onto_entries : ℕ → Option Decimal → List (ℕ × Decimal) → List (ℕ × Decimal)
onto_entries j None entries = entries
onto_entries j (Some d) entries = (j, d) ∷ entries

-- those of columns that are numbered from j on
abbrev pub row_entries_from : ℕ → ℕ → List Column → List (ℕ × Decimal)
row_entries_from r j [] = []
row_entries_from r j (c ∷ cols) = onto_entries j (entry_at r c.entries) (row_entries_from r (j + 1) cols)

-- the columns that row r has, in order, each with its coefficient
abbrev pub row_entries : Model → ℕ → List (ℕ × Decimal)
row_entries m r = row_entries_from r 0 m.cols

-- columns rise, the first one at least j
abbrev pub RiseFrom : {A : Type 0} → ℕ → List (ℕ × A) → Type 0
RiseFrom j [] = Unit {0}
RiseFrom j (e ∷ entries) = (j ≤ e.0) × RiseFrom (e.0 + 1) entries

abbrev pub AreEntriesBelow : ℕ → List (ℕ × Decimal) → Type 0
AreEntriesBelow n entries = AllByRecursion (λ e. e.0 < n) entries

-- the last entry is of this column
abbrev pub ends_in_column : ℕ → List (ℕ × Decimal) → Bool
ends_in_column j [] = false
ends_in_column j (e ∷ []) = e.0 == j
ends_in_column j (e ∷ f ∷ entries) = ends_in_column j (f ∷ entries)
