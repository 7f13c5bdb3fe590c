-- The model that what is carried comes to.
use Rattle.std.specs.Prelude.{ℕ, pos, Bool, false, ◌||◌, List, [], ◌∷◌, drop, Option, None, unwrap_or, slice_get}
use Rattle.cgl_num.specs.Decimal.{Decimal}
use Rattle.cgl_num.specs.NumberText.{Word, whole}
use Rattle.cgl_model.specs.declared.mip.RowKind.{RowKind}
use Rattle.cgl_model.specs.declared.mip.RowKind.TheVariants.{N}
use Rattle.cgl_model.specs.declared.mip.Row.{Row}
use Rattle.cgl_model.specs.declared.mip.Column.{Column}
use Rattle.cgl_model.specs.declared.mip.Model.{Model}
use Rattle.cgl_mps.specs.declared.bound_table.ColumnBounds.{ColumnBounds}
use Rattle.cgl_mps.specs.Tables.{column_bounds}
use Rattle.cgl_mps.specs.State.{State}

abbrev pub head_or : {A : Type 0} → A → List A → A
head_or d [] = d
head_or d (x ∷ xs) = x

-- a row, with what stands at its place in the lists
abbrev pub row_at : Word → List RowKind → List (Option Decimal) → List (Option Decimal) → ℕ → Row
row_at name kinds rhs ranges place =
    record {
      name = name;
      kind = unwrap_or (slice_get kinds place) N;
      rhs = unwrap_or (unwrap_or (slice_get rhs place) None) (whole (pos 0));
      range = unwrap_or (slice_get ranges place) None;
    }

-- a column, with whether a marker makes it integer, its entries, and its bounds
abbrev pub column_with : Word → Bool × List (ℕ × Decimal) → ColumnBounds → Column
column_with name column own = record { name = name; integer = column.0 || own.integer; lo = own.lower; up = own.upper; entries = column.1 }

-- a row for each name, with what stands at its place in the other lists
abbrev pub made_rows : List Word → List RowKind → List (Option Decimal) → List (Option Decimal) → List Row
made_rows [] kinds rhs ranges = []
made_rows (name ∷ names) kinds rhs ranges =
    record { name = name; kind = head_or N kinds; rhs = unwrap_or (head_or None rhs) (whole (pos 0)); range = head_or None ranges }
    ∷ made_rows names (drop 1 kinds) (drop 1 rhs) (drop 1 ranges)

-- a column for each name
abbrev pub made_columns : List Word → List (Bool × List (ℕ × Decimal)) → List ColumnBounds → List Column
made_columns [] columns bounds = []
made_columns (name ∷ names) columns bounds =
    let column = head_or (false, []) columns in
    let own = head_or (column_bounds []) bounds in
    column_with name column own ∷ made_columns names (drop 1 columns) (drop 1 bounds)

abbrev pub made_model : State → Model
made_model state =
    record {
      name = state.name;
      maximise = state.maximise;
      rows = made_rows state.rows state.kinds state.rhs.values state.ranges.values;
      cols = made_columns state.columns.names state.columns.columns state.bounds.columns;
    }
