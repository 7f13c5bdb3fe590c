-- What a reader of a deck carries from line to line, what it says of the next line, and the records that it stands for.
use Rattle.std.specs.Prelude.{◌≡◌, ◌⊎◌, ℕ, ◌+◌, ◌-◌, ◌==◌, nat_lt, nat_le, Bool, true, false, ◌&&◌, ◌||◌, not, if◌then◌else◌, List, [], ◌∷◌, ◌++◌, codes, bytes_eq, length, map, filter, filter_map, position, Option, Some, None, unwrap_or, option_map, option_and_then, is_none, is_some, slice_get}
use Rattle.std.specs.List.{list_any, cons_option}
use Rattle.cgl_num.specs.Decimal.{Decimal}
use Rattle.cgl_num.specs.NumberText.{Word, number}
use Rattle.cgl_text.specs.Text.{is_one_of}
use Rattle.cgl_text.specs.Conditions.{Condition, first_kind}
use Rattle.cgl_model.specs.declared.mip.RowKind.{RowKind}
use Rattle.cgl_model.specs.declared.mip.Model.{Model}
use Rattle.cgl_model.specs.Valid.{AreDistinct}
use Rattle.cgl_decode.specs.declared.kinds.Section.{Section}
use Rattle.cgl_decode.specs.declared.kinds.Section.TheVariants.{Name, Sense, Rows, Columns, Rhs, Ranges, Bounds, Unsupported, Unknown}
use Rattle.cgl_decode.specs.Records.{Record, field, is_kept, kept, record_of, same_section, section_after}
use Rattle.cgl_decode.specs.Sections.{sense_in, senses, row_in, rows, row_names, marker, is_marker, entry_pairs, Pair, set_in, same_set, set_pairs, Bound, bound_in}
use Rattle.cgl_decode.specs.Decode.{deck_limits}
use Rattle.cgl_decode.specs.Faults.{Limits, conditions, is_long, rank, is_header_form, is_sense_form, no_word, each_pair, names_row, is_marker_form, is_value_of}
use Rattle.cgl_decode.specs.Found.{is_data_of}
use Rattle.cgl_decode.specs.Models.{last_or, model_of, name_in}
use Rattle.cgl_mps.specs.Carried.{ReadColumns, ReadPairs, ReadBounds, after_line, after_pairs, after_bound, counting_set, IsCarried}
use Rattle.cgl_mps.specs.Tables.{ColumnTable, PairTable, BoundTable, AreColumns, AreKnown, ArePairs, AreBounds, IsNext, StandOnce, is_marked_row}

-- the sections of the headers, the model's name, whether a line said the sense and whether one said to maximise, the
-- names and the kinds of the rows, and the tables
pub record State : Type 0 where
  pub headers : List Section
  pub name : Word
  pub is_sense_given : Bool
  pub maximise : Bool
  pub rows : List Word
  pub kinds : List RowKind
  pub columns : ColumnTable
  pub rhs : PairTable
  pub ranges : PairTable
  pub bounds : BoundTable

abbrev pub header_sections : List Record → List Section
header_sections before = map (λ r. r.section) (filter (λ r. r.header) before)

abbrev pub says_maximise : Word → Bool
says_maximise word = is_one_of (codes "MAX" ∷ codes "MAXIMIZE" ∷ []) word

-- the state stands for these records
pub record Stands (before : List Record) (state : State) : Type 0 where
  pub headers : state.headers ≡ header_sections before
  pub name : state.name ≡ last_or [] (filter_map name_in before)
  pub is_sense_given : state.is_sense_given ≡ not (no_word (senses before))
  pub maximise : state.maximise ≡ list_any says_maximise (senses before)
  pub kinds : state.kinds ≡ map (λ r. r.0) (rows before)
  pub rows_once : AreDistinct state.rows
  pub read_columns : ReadColumns
  pub read_rhs : ReadPairs
  pub read_ranges : ReadPairs
  pub read_bounds : ReadBounds
  pub carried : IsCarried before state.rows read_columns read_rhs read_ranges read_bounds
  pub columns : AreColumns state.rows read_columns state.columns
  pub rhs : ArePairs state.rows read_rhs state.rhs
  pub ranges : ArePairs state.rows read_ranges state.ranges
  pub bounds : AreBounds state.columns.names read_bounds state.bounds

-- what a line is judged by: the conditions on it, each by what is carried

abbrev pub has_header : Section → State → Bool
has_header section state = list_any (same_section section) state.headers

abbrev pub needs : Section → State → Bool
needs Columns state = has_header Rows state
needs Rhs state = has_header Columns state
needs Ranges state = has_header Columns state
needs Bounds state = has_header Columns state
needs section state = true

-- a header of higher rank stands before
abbrev pub is_behind : Section → State → Bool
is_behind section state = list_any (λ other. nat_lt (rank section) (rank other)) state.headers

abbrev pub is_misplaced : State → Record → Bool
is_misplaced state r = is_behind r.section state || has_header r.section state || not (needs r.section state)

abbrev pub header_conditions : State → Record → List Condition
header_conditions state r =
    (same_section Unsupported r.section, 9)
    ∷ (same_section Unknown r.section, 1)
    ∷ (is_misplaced state r, 2)
    ∷ (not (is_header_form r.section r), 3)
    ∷ (same_section Name r.section && is_long (field 1 r), 11)
    ∷ []

abbrev pub sense_conditions : State → Record → List Condition
sense_conditions state r = (state.is_sense_given, 2) ∷ (not (is_sense_form r), 3) ∷ []

abbrev pub has_row : State → Word → Bool
has_row state name = is_one_of state.rows name

abbrev pub row_conditions : Limits → State → Record → List Condition
row_conditions limits state r =
    (is_none (row_in r.fields), 3)
    ∷ (bytes_eq (field 1 r) marker, 9)
    ∷ (is_long (field 1 r), 11)
    ∷ (has_row state (field 1 r), 7)
    ∷ (nat_le limits.rows (length state.rows), 12)
    ∷ []

-- the name of the last column, where that goes on
abbrev pub is_current : ColumnTable → Word → Bool
is_current table name = table.goes_on && unwrap_or (option_map (bytes_eq name) (slice_get table.names (length table.names - 1))) false

-- the column is there, and does not go on
abbrev pub has_ended : ColumnTable → Word → Bool
has_ended table name = not (is_current table name) && is_one_of table.names name

-- whether the column that goes on, if it has this name, has an entry in the row
abbrev pub has_entry : State → Word → Word → Bool
has_entry state name row = is_current state.columns name && unwrap_or (option_map (is_marked_row state.columns) (position (bytes_eq row) state.rows)) false

abbrev pub entry_conditions : Limits → State → Word → List Pair → Pair → List Condition
entry_conditions limits state name earlier pair =
    (not (has_row state pair.0), 5)
    ∷ (has_entry state name pair.0 || names_row earlier pair.0, 7)
    ∷ (is_none (number pair.1), 4)
    ∷ (nat_le limits.entries (state.columns.count + length earlier), 12)
    ∷ []

-- those on a pair whose row is known and stands at the place
abbrev pub placed_conditions : Limits → State → Word → List Pair → ℕ → Pair → List Condition
placed_conditions limits state name earlier place pair =
    ((is_current state.columns name && is_marked_row state.columns place) || names_row earlier pair.0, 7)
    ∷ (is_none (number pair.1), 4)
    ∷ (nat_le limits.entries (state.columns.count + length earlier), 12)
    ∷ []

abbrev pub column_conditions : Limits → State → Record → List Condition
column_conditions limits state r =
    (is_long (field 0 r), 11)
    ∷ (has_ended state.columns (field 0 r), 8)
    ∷ (not (is_current state.columns (field 0 r)) && nat_le limits.columns (length state.columns.names), 12)
    ∷ each_pair (entry_conditions limits state (field 0 r)) [] (entry_pairs r)

abbrev pub columns_conditions : Limits → State → Record → List Condition
columns_conditions limits state r =
    (not (length r.fields == 3 || length r.fields == 5), 3)
    ∷ (is_marker r && not (is_marker_form r), 9)
    ∷ (if is_marker r then [] else column_conditions limits state r)

-- whether a line counts, by the set of the section's first line
abbrev pub counts_in : Option (Option Word) → Section → Record → Bool
counts_in first section r = same_set (counting_set first (set_in section r)) (set_in section r)

-- the value of a row, where it has one
abbrev pub value_of : List Word → PairTable → Word → Option Decimal
value_of rows table row = option_and_then (λ place. unwrap_or (slice_get table.values place) None) (position (bytes_eq row) rows)

abbrev pub pairs_in : Section → State → PairTable
pairs_in Ranges state = state.ranges
pairs_in section state = state.rhs

abbrev pub pair_conditions : Section → State → Bool → List Pair → Pair → List Condition
pair_conditions section state counts earlier pair =
    (counts && not (has_row state pair.0), 5)
    ∷ (counts && (is_some (value_of state.rows (pairs_in section state) pair.0) || names_row earlier pair.0), 7)
    ∷ (is_none (number pair.1), 4)
    ∷ []

abbrev pub set_conditions : Section → State → Record → List Condition
set_conditions section state r =
    (nat_lt (length r.fields) 2 || nat_lt 5 (length r.fields), 3)
    ∷ each_pair (pair_conditions section state (counts_in (pairs_in section state).set section r)) [] (set_pairs r)

abbrev pub value_conditions : State → Bool → Option Bound → List Condition
value_conditions state counts None = []
value_conditions state counts (Some bound) =
    (counts && not (is_one_of state.columns.names bound.column), 6)
    ∷ (not (is_value_of bound.kind bound.value), 4)
    ∷ []

abbrev pub bound_conditions : State → Record → List Condition
bound_conditions state r =
    (is_one_of (codes "SC" ∷ codes "SI" ∷ []) (field 0 r), 9)
    ∷ (is_none (bound_in r.fields), 3)
    ∷ value_conditions state (counts_in state.bounds.set Bounds r) (bound_in r.fields)

abbrev pub data_conditions : Section → Limits → State → Record → List Condition
data_conditions Sense limits state r = sense_conditions state r
data_conditions Rows limits state r = row_conditions limits state r
data_conditions Columns limits state r = columns_conditions limits state r
data_conditions Rhs limits state r = set_conditions Rhs state r
data_conditions Ranges limits state r = set_conditions Ranges state r
data_conditions Bounds limits state r = bound_conditions state r
data_conditions section limits state r = (true, 2) ∷ []

-- the conditions on a line that ends within the limit on bytes
abbrev pub line_conditions : Limits → State → Record → List Condition
line_conditions limits state r =
    (nat_lt 4096 r.bytes, 11)
    ∷ (if is_kept r then (if r.header then header_conditions state r else data_conditions r.section limits state r) else [])

-- what one more line without a fault makes of the state

abbrev pub maximises : Record → Bool
maximises r = unwrap_or (option_map says_maximise (sense_in r)) false

-- what it makes of all but the tables
pub record TakesHead (r : Record) (old new : State) : Type 0 where
  pub headers : new.headers ≡ old.headers ++ (if r.header then r.section ∷ [] else [])
  pub name : new.name ≡ unwrap_or (name_in r) old.name
  pub is_sense_given : new.is_sense_given ≡ (old.is_sense_given || is_some (sense_in r))
  pub maximise : new.maximise ≡ (old.maximise || maximises r)

-- the row that the fields of a line say
abbrev pub row_of : List Word → List (RowKind × Word)
row_of fields = cons_option (row_in fields) []

abbrev pub row_on : Record → List (RowKind × Word)
row_on r = if is_data_of Rows r then row_of r.fields else []

-- the columns of a record more
abbrev pub next_columns : Record → ReadColumns → ReadColumns
next_columns r read = if is_data_of Columns r then after_line read r else read

abbrev pub next_pairs : Section → Record → ReadPairs → ReadPairs
next_pairs section r read = if is_data_of section r then after_pairs section read r else read

abbrev pub next_bounds : Record → ReadBounds → ReadBounds
next_bounds r read = if is_data_of Bounds r then after_bound read r else read

-- its pairs are known, where it counts
abbrev pub AreNextPairs : Section → List Word → ReadPairs → Record → Type 0
AreNextPairs section rows read r = same_set (counting_set read.set (set_in section r)) (set_in section r) ≡ true → AreKnown rows (set_pairs r)

-- its bound is on a column, where it counts
abbrev pub IsNextBound : List Word → ReadBounds → Record → Type 0
IsNextBound names read r =
    same_set (counting_set read.set (set_in Bounds r)) (set_in Bounds r) ≡ true
    → (bound : Bound) → bound_in r.fields ≡ Some bound → is_one_of names bound.column ≡ true

-- and what it makes of the tables
pub record TakesTables (r : Record) (old new : State) : Type 0 where
  pub rows : new.rows ≡ old.rows ++ map (λ row. row.1) (row_on r)
  pub kinds : new.kinds ≡ old.kinds ++ map (λ row. row.0) (row_on r)
  pub columns : (read : ReadColumns) → AreColumns old.rows read old.columns
      → (is_data_of Columns r ≡ true → is_marker r ≡ false → IsNext old.rows read r)
      → AreColumns new.rows (next_columns r read) new.columns
  pub rhs : (read : ReadPairs) → StandOnce old.rows → ArePairs old.rows read old.rhs
      → (is_data_of Rhs r ≡ true → AreNextPairs Rhs old.rows read r)
      → ArePairs new.rows (next_pairs Rhs r read) new.rhs
  pub ranges : (read : ReadPairs) → StandOnce old.rows → ArePairs old.rows read old.ranges
      → (is_data_of Ranges r ≡ true → AreNextPairs Ranges old.rows read r)
      → ArePairs new.rows (next_pairs Ranges r read) new.ranges
  pub bounds : (columns : ReadColumns) → AreColumns old.rows columns old.columns
      → (is_data_of Columns r ≡ true → is_marker r ≡ false → IsNext old.rows columns r)
      → (read : ReadBounds) → StandOnce old.columns.names → AreBounds old.columns.names read old.bounds
      → (is_data_of Bounds r ≡ true → IsNextBound old.columns.names read r)
      → AreBounds new.columns.names (next_bounds r read) new.bounds

-- the line is of a row, and of a new name
pub record IsNextRow (state : State) (r : Record) : Type 0 where
  pub formed : is_none (row_in r.fields) ≡ false
  pub fresh : has_row state (field 1 r) ≡ false

-- what a new row makes of the state, and what a line makes of it that leaves a part as it was

pub record SameHead (old new : State) : Type 0 where
  pub headers : new.headers ≡ old.headers
  pub name : new.name ≡ old.name
  pub is_sense_given : new.is_sense_given ≡ old.is_sense_given
  pub maximise : new.maximise ≡ old.maximise

pub record SameTables (old new : State) : Type 0 where
  pub rows : new.rows ≡ old.rows
  pub kinds : new.kinds ≡ old.kinds
  pub columns : new.columns ≡ old.columns
  pub rhs : new.rhs ≡ old.rhs
  pub ranges : new.ranges ≡ old.ranges
  pub bounds : new.bounds ≡ old.bounds

pub record AddsRow (kind : RowKind) (name : Word) (old new : State) : Type 0 where
  pub rows : new.rows ≡ old.rows ++ name ∷ []
  pub kinds : new.kinds ≡ old.kinds ++ kind ∷ []
  pub columns : (rows : List Word) (read : ReadColumns) → AreColumns rows read old.columns → AreColumns (rows ++ name ∷ []) read new.columns
  pub rhs : (rows : List Word) (read : ReadPairs) → ArePairs rows read old.rhs → is_one_of rows name ≡ false → ArePairs (rows ++ name ∷ []) read new.rhs
  pub ranges : (rows : List Word) (read : ReadPairs) → ArePairs rows read old.ranges → is_one_of rows name ≡ false → ArePairs (rows ++ name ∷ []) read new.ranges
  pub names : new.columns.names ≡ old.columns.names
  pub bounds : new.bounds ≡ old.bounds

-- no name more, or one that is new
abbrev pub MayAdd : Word → List Word → List Word → Type 0
MayAdd name old new = (new ≡ old) ⊎ ((new ≡ old ++ name ∷ []) × (is_one_of old name ≡ false))

-- what the reader's loop is told of a line and of the end

-- the section of a line behind one in this section, and its record

unfoldable pub next_section : Section → Word → Section
next_section section line = section_after section line

unfoldable pub line_record : ℕ → Section → Word → Record
line_record n section line = record_of n (section_after section line) line

-- the line has no fault behind those before it, and is one of the lines that the state then stands for
pub record IsTaken (r : Record) (old new : State) : Type 0 where
  pub sound : (before : List Record) → Stands before old → first_kind ((nat_lt 4096 r.bytes, 11) ∷ conditions deck_limits before r) ≡ None
  pub stands : (before : List Record) → Stands before old → Stands (before ++ kept (r ∷ [])) new

-- the line has a fault of this kind behind those before it
pub record IsBad (r : Record) (state : State) (kind : ℕ) : Type 0 where
  pub is : (before : List Record) → Stands before state → first_kind ((nat_lt 4096 r.bytes, 11) ∷ conditions deck_limits before r) ≡ Some kind

-- the model that the lines mean
pub record Means (state : State) (model : Model) : Type 0 where
  pub is : (before : List Record) → Stands before state → model ≡ model_of before
