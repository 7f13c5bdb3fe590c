-- The first fault of a deck.
use Rattle.std.specs.Prelude.{ℕ, ◌==◌, nat_lt, nat_le, Bool, true, false, ◌&&◌, ◌||◌, not, if◌then◌else◌, List, [], ◌∷◌, ◌++◌, codes, bytes_eq, length, filter, filter_map, flat_map, Option, Some, None, unwrap_or, option_map, is_none}
use Rattle.std.specs.List.{list_any, after_first}
use Rattle.cgl_num.specs.NumberText.{Word}
use Rattle.cgl_text.specs.Text.{is_one_of, is_over}
pub use Rattle.cgl_text.specs.Conditions.{Condition, first_kind}
use Rattle.cgl_num.specs.NumberText.{is_number, number, limit}
use Rattle.cgl_num.specs.declared.number_text.Limit.{Limit}
use Rattle.cgl_num.specs.declared.number_text.Limit.TheVariants.{Finite, Plus, Minus}
use Rattle.cgl_decode.specs.declared.kinds.Section.{Section}
use Rattle.cgl_decode.specs.declared.kinds.Section.TheVariants.{Name, Sense, Rows, Columns, Rhs, Ranges, Bounds, End, Unsupported, Unknown}
use Rattle.cgl_decode.specs.Records.{Record, field, data_in, has_header, same_section, before, kept, is_kept}
use Rattle.cgl_decode.specs.declared.kinds.BoundKind.{BoundKind}
use Rattle.cgl_decode.specs.declared.kinds.BoundKind.TheVariants.{Lo, Li, Up, Ui, Fr, Mi, Pl, Bv}
use Rattle.cgl_decode.specs.Sections.{sense_names, senses, row_in, row_names, marker, is_marker, names_column, column_records, column_names, entry_pairs, Pair, set_pairs, counts_after, counting_pairs, Bound, bound_in}

-- how much a deck may have
pub record Limits : Type 0 where
  pub bytes : ℕ
  pub rows : ℕ
  pub columns : ℕ
  pub entries : ℕ

abbrev pub is_long : Word → Bool
is_long name = nat_lt 255 (length name)

-- each line

abbrev pub line_conditions : Limits → List ℕ → Record → List Condition
line_conditions limits bytes r = (is_over limits.bytes bytes r.line, 12) ∷ (nat_lt 4096 r.bytes, 11) ∷ []

-- headers

abbrev pub rank : Section → ℕ
rank Name = 0
rank Sense = 1
rank Rows = 2
rank Columns = 3
rank End = 5
rank section = 4

abbrev pub needs : Section → List Record → Bool
needs Columns before = has_header Rows before
needs Rhs before = has_header Columns before
needs Ranges before = has_header Columns before
needs Bounds before = has_header Columns before
needs section before = true

-- a header of higher rank or the same word stands before, or what it needs does not
abbrev pub is_misplaced : List Record → Record → Bool
is_misplaced before r = list_any (λ h. h.header && nat_lt (rank r.section) (rank h.section)) before || has_header r.section before || not (needs r.section before)

abbrev pub is_header_form : Section → Record → Bool
is_header_form Name r = true
is_header_form Sense r = length r.fields == 1 || (length r.fields == 2 && is_one_of sense_names (field 1 r))
is_header_form section r = length r.fields == 1

abbrev pub header_conditions : List Record → Record → List Condition
header_conditions before r =
    (same_section Unsupported r.section, 9)
    ∷ (same_section Unknown r.section, 1)
    ∷ (is_misplaced before r, 2)
    ∷ (not (is_header_form r.section r), 3)
    ∷ (same_section Name r.section && is_long (field 1 r), 11)
    ∷ []

-- OBJSENSE

abbrev pub is_sense_form : Record → Bool
is_sense_form r = length r.fields == 1 && is_one_of sense_names (field 0 r)

abbrev pub no_word : List Word → Bool
no_word [] = true
no_word (word ∷ words) = false

abbrev pub sense_conditions : List Record → Record → List Condition
sense_conditions before r = (not (no_word (senses before)), 2) ∷ (not (is_sense_form r), 3) ∷ []

-- ROWS

abbrev pub row_conditions : Limits → List Record → Record → List Condition
row_conditions limits before r =
    (is_none (row_in r.fields), 3)
    ∷ (bytes_eq (field 1 r) marker, 9)
    ∷ (is_long (field 1 r), 11)
    ∷ (is_one_of (row_names before) (field 1 r), 7)
    ∷ (nat_le limits.rows (length (row_names before)), 12)
    ∷ []

-- pairs: each is judged after the earlier ones of its line

abbrev pub each_pair : (List Pair → Pair → List Condition) → List Pair → List Pair → List Condition
each_pair judge earlier [] = []
each_pair judge earlier (pair ∷ pairs) = judge earlier pair ++ each_pair judge (earlier ++ pair ∷ []) pairs

abbrev pub names_row : List Pair → Word → Bool
names_row pairs row = list_any (λ p. bytes_eq row p.0) pairs

-- COLUMNS

abbrev pub is_marker_form : Record → Bool
is_marker_form r = bytes_eq (field 2 r) (codes "'INTORG'") || bytes_eq (field 2 r) (codes "'INTEND'")

-- an earlier record names the column, and one that does not stands between
abbrev pub is_split : List Record → Word → Bool
is_split before name = list_any (λ r. not (names_column name r)) (after_first (names_column name) (data_in Columns before))

abbrev pub pairs_of_column : List Record → Word → List Pair
pairs_of_column before name = flat_map entry_pairs (filter (names_column name) (column_records before))

abbrev pub entry_conditions : Limits → List Record → Word → List Pair → Pair → List Condition
entry_conditions limits before name earlier pair =
    (not (is_one_of (row_names before) pair.0), 5)
    ∷ (names_row (pairs_of_column before name ++ earlier) pair.0, 7)
    ∷ (is_none (number pair.1), 4)
    ∷ (nat_le limits.entries (length (flat_map entry_pairs (column_records before) ++ earlier)), 12)
    ∷ []

abbrev pub is_new_column : List Record → Word → Bool
is_new_column before name = not (list_any (names_column name) (column_records before))

abbrev pub column_conditions : Limits → List Record → Record → List Condition
column_conditions limits before r =
    (is_long (field 0 r), 11)
    ∷ (is_split before (field 0 r), 8)
    ∷ (is_new_column before (field 0 r) && nat_le limits.columns (length (column_names before)), 12)
    ∷ each_pair (entry_conditions limits before (field 0 r)) [] (entry_pairs r)

abbrev pub columns_conditions : Limits → List Record → Record → List Condition
columns_conditions limits before r =
    (not (length r.fields == 3 || length r.fields == 5), 3)
    ∷ (is_marker r && not (is_marker_form r), 9)
    ∷ (if is_marker r then [] else column_conditions limits before r)

-- RHS and RANGES

abbrev pub pair_conditions : Section → List Record → Bool → List Pair → Pair → List Condition
pair_conditions section before counts earlier pair =
    (counts && not (is_one_of (row_names before) pair.0), 5)
    ∷ (counts && names_row (counting_pairs section before ++ earlier) pair.0, 7)
    ∷ (is_none (number pair.1), 4)
    ∷ []

abbrev pub set_conditions : Section → List Record → Record → List Condition
set_conditions section before r =
    (nat_lt (length r.fields) 2 || nat_lt 5 (length r.fields), 3)
    ∷ each_pair (pair_conditions section before (counts_after section before r)) [] (set_pairs r)

-- BOUNDS

-- LO and LI take minus infinity, UP and UI plus infinity, and no other kind an infinite value
abbrev pub takes : BoundKind → Limit → Bool
takes kind (Finite d) = true
takes Lo Minus = true
takes Li Minus = true
takes Up Plus = true
takes Ui Plus = true
takes kind infinite = false

abbrev pub is_value_of : BoundKind → Option Word → Bool
is_value_of Fr value = unwrap_or (option_map is_number value) true
is_value_of Mi value = unwrap_or (option_map is_number value) true
is_value_of Pl value = unwrap_or (option_map is_number value) true
is_value_of Bv value = unwrap_or (option_map is_number value) true
is_value_of kind value = unwrap_or (option_map (takes kind) (limit (unwrap_or value []))) false

abbrev pub value_conditions : List Record → Bool → Option Bound → List Condition
value_conditions before counts None = []
value_conditions before counts (Some bound) =
    (counts && not (is_one_of (column_names before) bound.column), 6)
    ∷ (not (is_value_of bound.kind bound.value), 4)
    ∷ []

abbrev pub bound_conditions : List Record → Record → List Condition
bound_conditions before r =
    (is_one_of (codes "SC" ∷ codes "SI" ∷ []) (field 0 r), 9)
    ∷ (is_none (bound_in r.fields), 3)
    ∷ value_conditions before (counts_after Bounds before r) (bound_in r.fields)

-- a data line, by its section

abbrev pub data_conditions : Section → Limits → List Record → Record → List Condition
data_conditions Sense limits before r = sense_conditions before r
data_conditions Rows limits before r = row_conditions limits before r
data_conditions Columns limits before r = columns_conditions limits before r
data_conditions Rhs limits before r = set_conditions Rhs before r
data_conditions Ranges limits before r = set_conditions Ranges before r
data_conditions Bounds limits before r = bound_conditions before r
data_conditions section limits before r = (true, 2) ∷ []

-- a line, after the records before it

abbrev pub conditions : Limits → List Record → Record → List Condition
conditions limits before r =
    if is_kept r then (if r.header then header_conditions before r else data_conditions r.section limits before r) else []

-- the kind of fault that the line is after these records, if any
unfoldable pub fault_after : Limits → List ℕ → List Record → Record → Option ℕ
fault_after limits bytes before r = first_kind (line_conditions limits bytes r ++ conditions limits before r)

-- its number and kind, after the records of the lines before it
abbrev pub fault_at : Limits → List ℕ → List Record → Record → Option (ℕ × ℕ)
fault_at limits bytes records r = option_map (λ kind. (r.line, kind)) (fault_after limits bytes (before r.line (kept records)) r)

-- the faults of the lines, in order
abbrev pub faults : Limits → List ℕ → List Record → List (ℕ × ℕ)
faults limits bytes records = filter_map (fault_at limits bytes records) records
