-- What the records of each section say.
use Rattle.std.specs.Prelude.{ℕ, ◌==◌, ◌%◌, Bool, true, false, ◌&&◌, not, if◌then◌else◌, List, [], ◌∷◌, codes, bytes_eq, length, map, find, filter, filter_map, flat_map, Option, Some, None, option_map, option_and_then, slice_get}
use Rattle.cgl_num.specs.NumberText.{Word}
use Rattle.cgl_decode.specs.declared.kinds.BoundKind.{BoundKind}
use Rattle.cgl_decode.specs.declared.kinds.BoundKind.TheVariants.{Lo, Li, Up, Ui, Fx, Fr, Mi, Pl, Bv}
use Rattle.cgl_model.specs.declared.mip.RowKind.{RowKind}
use Rattle.cgl_model.specs.declared.mip.RowKind.TheVariants.{N, L, G, E}
use Rattle.cgl_decode.specs.declared.kinds.Section.{Section}
use Rattle.cgl_decode.specs.declared.kinds.Section.TheVariants.{Sense, Rows, Columns, Bounds}
use Rattle.cgl_decode.specs.Records.{Record, field, data_in, same_section}

-- OBJSENSE: the words for the sense that stand on its header and its data lines

abbrev pub sense_names : List Word
sense_names = codes "MAX" ∷ codes "MAXIMIZE" ∷ codes "MIN" ∷ codes "MINIMIZE" ∷ []

abbrev pub sense_in : Record → Option Word
sense_in r = if same_section Sense r.section then slice_get r.fields (if r.header then 1 else 0) else None

abbrev pub senses : List Record → List Word
senses records = filter_map sense_in records

-- ROWS: a kind and a name

abbrev pub row_kinds : List (Word × RowKind)
row_kinds = (codes "N", N) ∷ (codes "L", L) ∷ (codes "G", G) ∷ (codes "E", E) ∷ []

abbrev pub row_kind : Word → Option RowKind
row_kind word = option_map (λ k. k.1) (find (λ k. bytes_eq word k.0) row_kinds)

abbrev pub row_in : List Word → Option (RowKind × Word)
row_in (kind ∷ name ∷ []) = option_map (λ k. (k, name)) (row_kind kind)
row_in fields = None

abbrev pub rows : List Record → List (RowKind × Word)
rows records = filter_map (λ r. row_in r.fields) (data_in Rows records)

abbrev pub row_names : List Record → List Word
row_names records = map (λ r. r.1) (rows records)

-- pairs of row and value

abbrev pub Pair : Type 0
Pair = Word × Word

abbrev pub pairs_of : List Word → List Pair
pairs_of (row ∷ value ∷ fields) = (row, value) ∷ pairs_of fields
pairs_of fields = []

abbrev pub rest : List Word → List Word
rest [] = []
rest (word ∷ words) = words

-- COLUMNS: marker lines, and a column's name with its pairs

abbrev pub marker : Word
marker = codes "'MARKER'"

abbrev pub is_marker : Record → Bool
is_marker r = length r.fields == 3 && bytes_eq (field 1 r) marker

abbrev pub names_column : Word → Record → Bool
names_column name r = not (is_marker r) && bytes_eq name (field 0 r)

abbrev pub column_records : List Record → List Record
column_records records = filter (λ r. not (is_marker r)) (data_in Columns records)

abbrev pub entry_pairs : Record → List Pair
entry_pairs r = pairs_of (rest r.fields)

-- each word once, where it first stands
abbrev pub distinct : List Word → List Word
distinct [] = []
distinct (word ∷ words) = word ∷ filter (λ other. not (bytes_eq other word)) (distinct words)

abbrev pub column_names : List Record → List Word
column_names records = distinct (map (field 0) (column_records records))

-- RHS and RANGES: a set name where the count of fields is odd, and pairs

abbrev pub is_odd : ℕ → Bool
is_odd n = n % 2 == 1

abbrev pub set_pairs : Record → List Pair
set_pairs r = pairs_of (if is_odd (length r.fields) then rest r.fields else r.fields)

-- BOUNDS: a kind, a set name or none, a column, and a value or none

abbrev pub bound_kinds : List (Word × BoundKind)
bound_kinds = (codes "LO", Lo) ∷ (codes "LI", Li) ∷ (codes "UP", Up) ∷ (codes "UI", Ui) ∷ (codes "FX", Fx) ∷ (codes "FR", Fr) ∷ (codes "MI", Mi) ∷ (codes "PL", Pl) ∷ (codes "BV", Bv) ∷ []

pub record Bound : Type 0 where
  pub kind : BoundKind
  pub set : Option Word
  pub column : Word
  pub value : Option Word

abbrev pub needs_value : BoundKind → Bool
needs_value Fr = false
needs_value Mi = false
needs_value Pl = false
needs_value Bv = false
needs_value kind = true

abbrev pub bound_with : BoundKind → Bool → List Word → Option Bound
bound_with kind true (column ∷ value ∷ []) = Some (record { kind = kind; set = None; column = column; value = Some value })
bound_with kind false (column ∷ []) = Some (record { kind = kind; set = None; column = column; value = None })
bound_with kind false (set ∷ column ∷ []) = Some (record { kind = kind; set = Some set; column = column; value = None })
bound_with kind b (set ∷ column ∷ value ∷ []) = Some (record { kind = kind; set = Some set; column = column; value = Some value })
bound_with kind b fields = None

abbrev pub bound_in : List Word → Option Bound
bound_in [] = None
bound_in (word ∷ fields) = option_and_then (λ k. bound_with k.1 (needs_value k.1) fields) (find (λ k. bytes_eq word k.0) bound_kinds)

-- sets: the one of a section's first line counts, and none is a set of its own

abbrev pub set_in : Section → Record → Option Word
set_in Bounds r = option_and_then (λ b. b.set) (bound_in r.fields)
set_in section r = if is_odd (length r.fields) then slice_get r.fields 0 else None

abbrev pub same_set : Option Word → Option Word → Bool
same_set None None = true
same_set (Some a) (Some b) = bytes_eq a b
same_set a b = false

abbrev pub first_or : Record → List Record → Record
first_or r [] = r
first_or r (first ∷ others) = first

-- whether r's set is that of the first of these and r
abbrev pub counts_after : Section → List Record → Record → Bool
counts_after section records r = same_set (set_in section (first_or r (data_in section records))) (set_in section r)

abbrev pub counting : Section → List Record → List Record
counting section records = filter (counts_after section records) (data_in section records)

abbrev pub counting_pairs : Section → List Record → List Pair
counting_pairs section records = flat_map set_pairs (counting section records)

abbrev pub counting_bounds : List Record → List Bound
counting_bounds records = filter_map (λ r. bound_in r.fields) (counting Bounds records)
