-- What is carried from line to line of the records so far.
use Rattle.std.specs.Prelude.{◌≡◌, ℕ, ◌+◌, Bool, false, not, ◌&&◌, ◌||◌, if◌then◌else◌, List, [], ◌∷◌, ◌++◌, codes, bytes_eq, length, map, filter, filter_map, flat_map, Option, Some, None, unwrap_or, option_map}
use Rattle.std.specs.List.{list_any, after_first, before_first, cons_option}
use Rattle.cgl_num.specs.NumberText.{Word}
use Rattle.cgl_text.specs.Text.{is_one_of}
use Rattle.cgl_model.specs.declared.mip.Column.{Column}
use Rattle.cgl_decode.specs.declared.kinds.Section.{Section}
use Rattle.cgl_decode.specs.declared.kinds.Section.TheVariants.{Rows, Columns, Rhs, Ranges, Bounds}
use Rattle.cgl_decode.specs.Records.{Record, field, data_in}
use Rattle.cgl_decode.specs.Sections.{Pair, Bound, bound_in, set_pairs, entry_pairs, is_marker, names_column, distinct, set_in, same_set, first_or, row_in, row_names}
use Rattle.cgl_decode.specs.Faults.{is_split}
use Rattle.cgl_decode.specs.Found.{is_data_of}
use Rattle.cgl_decode.specs.Models.{last_or, makes_integer, bounds_of, lower_of, upper_of, entry_of}

-- COLUMNS

-- a column: its name, whether a marker makes it integer, and its pairs
pub record ReadColumn : Type 0 where
  pub name : Word
  pub marked : Bool
  pub pairs : List Pair

-- the columns that have ended with their names, the one that goes on, the last marker's word and the count of entries
pub record ReadColumns : Type 0 where
  pub names : List Word
  pub ended : List ReadColumn
  pub current : Option ReadColumn
  pub word : Word
  pub count : ℕ

abbrev pub names_of : List ReadColumn → List Word
names_of columns = map (λ c. c.name) columns

abbrev pub all_of : ReadColumns → List ReadColumn
all_of columns = columns.ended ++ cons_option columns.current []

abbrev pub is_current : Option ReadColumn → Word → Bool
is_current None name = false
is_current (Some column) name = bytes_eq name column.name

abbrev pub own_pairs : Option ReadColumn → List Pair
own_pairs None = []
own_pairs (Some column) = column.pairs

abbrev pub no_columns : ReadColumns
no_columns = record { names = []; ended = []; current = None; word = []; count = 0 }

abbrev pub after_marker : ReadColumns → Word → ReadColumns
after_marker columns word =
    record { names = columns.names ++ names_of (cons_option columns.current []); ended = all_of columns; current = None; word = word; count = columns.count }

abbrev pub with_pairs : List Pair → ReadColumn → ReadColumn
with_pairs pairs column = record { name = column.name; marked = column.marked; pairs = column.pairs ++ pairs }

abbrev pub after_more : ReadColumns → List Pair → ReadColumns
after_more columns pairs =
    record {
      names = columns.names;
      ended = columns.ended;
      current = option_map (with_pairs pairs) columns.current;
      word = columns.word;
      count = columns.count + length pairs;
    }

-- with a new column that goes on
abbrev pub begun : ReadColumns → Word → ReadColumns
begun columns name =
    record {
      names = columns.names ++ names_of (cons_option columns.current []);
      ended = all_of columns;
      current = Some (record { name = name; marked = bytes_eq columns.word (codes "'INTORG'"); pairs = [] });
      word = columns.word;
      count = columns.count;
    }

abbrev pub after_new : ReadColumns → Word → List Pair → ReadColumns
after_new columns name pairs = after_more (begun columns name) pairs

-- after one more data line of COLUMNS
abbrev pub after_line : ReadColumns → Record → ReadColumns
after_line columns r =
    if is_marker r then after_marker columns (field 2 r)
    else if is_current columns.current (field 0 r) then after_more columns (entry_pairs r)
    else after_new columns (field 0 r) (entry_pairs r)

-- the data lines of COLUMNS that are no markers
abbrev pub entry_lines : List Record → List Record
entry_lines lines = filter (λ r. not (is_marker r)) lines

-- a column as the data lines of COLUMNS have it
abbrev pub column_in : List Record → Word → ReadColumn
column_in lines name =
    record {
      name = name;
      marked = bytes_eq (last_or [] (map (field 2) (filter is_marker (before_first (names_column name) lines)))) (codes "'INTORG'");
      pairs = flat_map entry_pairs (filter (names_column name) (entry_lines lines));
    }

abbrev pub is_split_in : List Record → Word → Bool
is_split_in lines name = list_any (λ r. not (names_column name r)) (after_first (names_column name) lines)

-- what these data lines of COLUMNS say, where none of them splits a column
pub record IsColumns (lines : List Record) (columns : ReadColumns) : Type 0 where
  pub listed : columns.names ≡ names_of columns.ended
  pub ended : columns.ended ≡ map (column_in lines) (names_of columns.ended)
  pub current : columns.current ≡ option_map (λ c. column_in lines c.name) columns.current
  pub names : names_of (all_of columns) ≡ distinct (map (field 0) (entry_lines lines))
  pub split : (name : Word) → is_split_in lines name ≡ is_one_of columns.names name
  pub goes_on : (c : ReadColumn) → columns.current ≡ Some c → is_split_in lines c.name ≡ false
  pub word : columns.word ≡ last_or [] (map (field 2) (filter is_marker lines))
  pub count : columns.count ≡ length (flat_map entry_pairs (entry_lines lines))

-- RHS and RANGES, and BOUNDS: the set of the first line, if there is one, and what counts

pub record ReadPairs : Type 0 where
  pub set : Option (Option Word)
  pub pairs : List Pair

pub record ReadBounds : Type 0 where
  pub set : Option (Option Word)
  pub bounds : List Bound

abbrev pub first_set : Section → List Record → Option (Option Word)
first_set section [] = None
first_set section (r ∷ lines) = Some (set_in section r)

-- the set that counts at a line of this set
abbrev pub counting_set : Option (Option Word) → Option Word → Option Word
counting_set first own = unwrap_or first own

abbrev pub counting_in : Section → List Record → List Record
counting_in section lines = filter (λ r. same_set (set_in section (first_or r lines)) (set_in section r)) lines

abbrev pub after_pairs : Section → ReadPairs → Record → ReadPairs
after_pairs section read r =
    record {
      set = Some (counting_set read.set (set_in section r));
      pairs = read.pairs ++ (if same_set (counting_set read.set (set_in section r)) (set_in section r) then set_pairs r else []);
    }

abbrev pub after_bound : ReadBounds → Record → ReadBounds
after_bound read r =
    record {
      set = Some (counting_set read.set (set_in Bounds r));
      bounds = read.bounds ++ (if same_set (counting_set read.set (set_in Bounds r)) (set_in Bounds r) then cons_option (bound_in r.fields) [] else []);
    }

pub record IsPairs (section : Section) (lines : List Record) (read : ReadPairs) : Type 0 where
  pub set : read.set ≡ first_set section lines
  pub pairs : read.pairs ≡ flat_map set_pairs (counting_in section lines)

pub record IsBounds (lines : List Record) (read : ReadBounds) : Type 0 where
  pub set : read.set ≡ first_set Bounds lines
  pub bounds : read.bounds ≡ filter_map (λ r. bound_in r.fields) (counting_in Bounds lines)

-- all of it

pub record IsCarried (records : List Record) (row_list : List Word) (column_list : ReadColumns) (rhs_list range_list : ReadPairs) (bound_list : ReadBounds) : Type 0 where
  pub rows : row_list ≡ row_names records
  pub columns : IsColumns (data_in Columns records) column_list
  pub rhs : IsPairs Rhs (data_in Rhs records) rhs_list
  pub ranges : IsPairs Ranges (data_in Ranges records) range_list
  pub bounds : IsBounds (data_in Bounds records) bound_list

-- the name of the row that the fields of a line say
abbrev pub named_in : List Word → List Word
named_in fields = map (λ r. r.1) (cons_option (row_in fields) [])

-- what one record more makes of each part, where this tells in which section it is a data line
pub record Adds (stands : Section → Bool) (r : Record) (row_list row_list' : List Word) (column_list column_list' : ReadColumns) (rhs_list rhs_list' range_list range_list' : ReadPairs) (bound_list bound_list' : ReadBounds) : Type 0 where
  pub rows : row_list' ≡ row_list ++ (if stands Rows then named_in r.fields else [])
  pub columns : column_list' ≡ (if stands Columns then after_line column_list r else column_list)
  pub rhs : rhs_list' ≡ (if stands Rhs then after_pairs Rhs rhs_list r else rhs_list)
  pub ranges : range_list' ≡ (if stands Ranges then after_pairs Ranges range_list r else range_list)
  pub bounds : bound_list' ≡ (if stands Bounds then after_bound bound_list r else bound_list)

-- whether the line goes back to a column that has ended
abbrev pub splits : List Record → Record → Bool
splits records r = is_data_of Columns r && (not (is_marker r) && is_split records (field 0 r))

-- the sections of pairs

-- the column of the model that this one makes
abbrev pub made_column : List Record → ReadColumn → Column
made_column records column =
    record {
      name = column.name;
      integer = column.marked || list_any (λ b. makes_integer b.kind) (bounds_of records column.name);
      lo = lower_of (bounds_of records column.name);
      up = upper_of (bounds_of records column.name);
      entries = filter_map (entry_of (row_names records)) column.pairs;
    }
