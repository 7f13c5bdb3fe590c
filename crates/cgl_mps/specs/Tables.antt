-- What is carried of the records so far: numbers where the records have words, each found without a walk.
use Rattle.std.specs.Prelude.{◌≡◌, ℕ, ◌==◌, ◌≤◌, Bool, true, false, ◌&&◌, not, List, [], ◌∷◌, ◌++◌, codes, bytes_eq, length, map, filter, filter_map, Option, Some, None, is_some, unwrap_or, position, slice_get}
use Rattle.std.specs.List.{list_any, AllByRecursion}
use Rattle.cgl_num.specs.Decimal.{Decimal}
use Rattle.cgl_num.specs.NumberText.{Word, number}
use Rattle.cgl_text.specs.Text.{is_one_of}
use Rattle.cgl_decode.specs.Records.{Record, field}
use Rattle.cgl_decode.specs.Sections.{Pair, Bound, distinct, entry_pairs}
use Rattle.cgl_decode.specs.Faults.{names_row}
use Rattle.cgl_decode.specs.Models.{value_at, entry_of, lower_of, upper_of, makes_integer}
use Rattle.cgl_decode.specs.Reading.{setting, nothing}
use Rattle.cgl_decode.specs.declared.kinds.Section.TheVariants.{Columns}
use Rattle.cgl_mps.specs.declared.bound_table.ColumnBounds.{ColumnBounds}
use Rattle.cgl_mps.specs.declared.resolve.Resolved.{Resolved}
use Rattle.cgl_mps.specs.Carried.{ReadColumns, ReadPairs, ReadBounds, names_of, all_of, own_pairs}

-- each name stands once
abbrev pub StandOnce : List Word → Type 0
StandOnce names = distinct names ≡ names

-- the pair names one of the rows and has a number
abbrev pub IsKnown : List Word → Pair → Type 0
IsKnown rows pair = (is_one_of rows pair.0 ≡ true) × (is_some (number pair.1) ≡ true)

abbrev pub AreKnown : List Word → List Pair → Type 0
AreKnown rows pairs = AllByRecursion (IsKnown rows) pairs

-- what the pairs of a column's line say by the rows: the place of the row, and the number, each where there is one

abbrev pub resolved : List Word → Pair → Resolved
resolved rows pair = record { row = position (bytes_eq pair.0) rows; value = number pair.1 }

abbrev pub resolved_all : List Word → List Pair → List Resolved
resolved_all rows pairs = map (resolved rows) pairs

abbrev pub unresolved : Resolved
unresolved = record { row = None; value = None }

abbrev pub resolved_at : ℕ → List Resolved → Resolved
resolved_at k pairs = unwrap_or (slice_get pairs k) unresolved

-- the entries are those of the line, where it stands in COLUMNS
abbrev pub IsResolved : List Word → Record → List Resolved → Type 0
IsResolved rows r pairs = r.section ≡ Columns → pairs ≡ resolved_all rows (entry_pairs r)

-- RHS and RANGES: the set that counts, and the value of each row, by the row's number

pub record PairTable : Type 0 where
  pub set : Option (Option Word)
  pub values : List (Option Decimal)

pub record ArePairs (rows : List Word) (read : ReadPairs) (table : PairTable) : Type 0 where
  pub set : table.set ≡ read.set
  pub values : table.values ≡ map (value_at read.pairs) rows
  pub known : AreKnown rows read.pairs

-- BOUNDS: the set that counts, and what the bounds on each column come to, by the column's number

abbrev pub bounds_on : List Bound → Word → List Bound
bounds_on bounds name = filter (λ b. bytes_eq name b.column) bounds

abbrev pub column_bounds : List Bound → ColumnBounds
column_bounds bounds =
    record {
      lower = lower_of bounds;
      upper = upper_of bounds;
      integer = list_any (λ b. makes_integer b.kind) bounds;
      is_set = not (nothing (filter_map setting bounds));
    }

pub record BoundTable : Type 0 where
  pub set : Option (Option Word)
  pub columns : List ColumnBounds

pub record AreBounds (names : List Word) (read : ReadBounds) (table : BoundTable) : Type 0 where
  pub set : table.set ≡ read.set
  pub columns : table.columns ≡ map (λ name. column_bounds (bounds_on read.bounds name)) names
  pub known : AllByRecursion (λ b. is_one_of names b.column ≡ true) read.bounds

-- COLUMNS: the names, of each column whether a marker makes it integer and its entries, whether the last column goes
-- on, whether the last marker begins integer columns, the count of entries, and for each row the last column that
-- named it, from 1, or 0

pub record ColumnTable : Type 0 where
  pub names : List Word
  pub columns : List (Bool × List (ℕ × Decimal))
  pub goes_on : Bool
  pub marked : Bool
  pub count : ℕ
  pub marks : List ℕ

-- whether the column that goes on has an entry in the row of this number
abbrev pub is_marked_row : ColumnTable → ℕ → Bool
is_marked_row table place = table.goes_on && (unwrap_or (slice_get table.marks place) 0 == length table.names)

pub record AreColumns (rows : List Word) (read : ReadColumns) (table : ColumnTable) : Type 0 where
  pub names : table.names ≡ names_of (all_of read)
  pub columns : table.columns ≡ map (λ c. (c.marked, filter_map (entry_of rows) c.pairs)) (all_of read)
  pub goes_on : table.goes_on ≡ is_some read.current
  pub marked : table.marked ≡ bytes_eq read.word (codes "'INTORG'")
  pub count : table.count ≡ read.count
  pub known : AllByRecursion (λ c. AreKnown rows c.pairs) (all_of read)
  pub all_marked : length table.marks ≡ length rows
  pub no_later : AllByRecursion (λ mark. mark ≤ length table.names) table.marks
  pub marks : (place : ℕ) (row : Word) → position (bytes_eq row) rows ≡ Some place → is_marked_row table place ≡ names_row (own_pairs read.current) row

-- the line is of a column that has not ended, and its pairs are known
abbrev pub IsNext : List Word → ReadColumns → Record → Type 0
IsNext rows read r = (is_one_of (names_of read.ended) (field 0 r) ≡ false) × AreKnown rows (entry_pairs r)
