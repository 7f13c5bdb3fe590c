-- The canonical text of a model.
use Rattle.std.specs.Prelude.{ℕ, pos, int_lt, Bool, true, false, not, ◌&&◌, List, [], ◌∷◌, ◌++◌, codes, flat_map, Option, Some, None, option_map, unwrap_or, slice_get, if◌then◌else◌}
use Rattle.std.specs.Ordering.{int_eq}
use Rattle.cgl_num.specs.Decimal.{Decimal, decimal_text}
use Rattle.cgl_num.specs.NumberText.{Word}
use Rattle.cgl_model.specs.declared.mip.RowKind.{RowKind}
use Rattle.cgl_model.specs.declared.mip.RowKind.TheVariants.{N, L, G, E}
use Rattle.cgl_model.specs.declared.mip.Row.{Row}
use Rattle.cgl_model.specs.declared.mip.Column.{Column}
use Rattle.cgl_model.specs.declared.mip.Model.{Model}

-- a data line: each word behind a space
abbrev pub data_line : List Word → List ℕ
data_line [] = 10 ∷ []
data_line (word ∷ words) = (32 ∷ word) ++ data_line words

abbrev pub name_text : Word → List ℕ
name_text [] = codes "NAME\n"
name_text (b ∷ name) = codes "NAME " ++ (b ∷ name) ++ (10 ∷ [])

abbrev pub sense_text : Bool → List ℕ
sense_text true = codes "OBJSENSE\n MAX\n"
sense_text false = []

abbrev pub kind_word : RowKind → Word
kind_word N = codes "N"
kind_word L = codes "L"
kind_word G = codes "G"
kind_word E = codes "E"

abbrev pub row_text : Row → List ℕ
row_text r = data_line (kind_word r.kind ∷ r.name ∷ [])

-- ---- columns

abbrev pub row_name : List Row → ℕ → Word
row_name rows r = unwrap_or (option_map (λ row. row.name) (slice_get rows r)) []

abbrev pub entry_text : List Row → Word → ℕ × Decimal → List ℕ
entry_text rows name e = data_line (name ∷ row_name rows e.0 ∷ decimal_text e.1 ∷ [])

abbrev pub column_text : List Row → Column → List ℕ
column_text rows c = flat_map (entry_text rows c.name) c.entries

-- the marker between a column and the next, by whether they are integer
abbrev pub marker_text : Bool → Bool → List ℕ
marker_text false true = codes " MARKER 'MARKER' 'INTORG'\n"
marker_text true false = codes " MARKER 'MARKER' 'INTEND'\n"
marker_text true true = []
marker_text false false = []

-- each longest run of integer columns stands between markers
abbrev pub columns_text : List Row → Bool → List Column → List ℕ
columns_text rows before [] = marker_text before false
columns_text rows before (c ∷ cols) = marker_text before c.integer ++ column_text rows c ++ columns_text rows c.integer cols

-- ---- right sides and ranges

-- a header with its data lines, where there are any
abbrev pub section_text : Word → List ℕ → List ℕ
section_text header [] = []
section_text header (b ∷ lines) = header ++ (b ∷ lines)

abbrev pub is_zero_decimal : Decimal → Bool
is_zero_decimal d = int_eq d.m (pos 0)

abbrev pub rhs_text : Row → List ℕ
rhs_text r = if is_zero_decimal r.rhs then [] else data_line (codes "RHS" ∷ r.name ∷ decimal_text r.rhs ∷ [])

abbrev pub range_line : Word → Option Decimal → List ℕ
range_line name None = []
range_line name (Some d) = data_line (codes "RNG" ∷ name ∷ decimal_text d ∷ [])

abbrev pub range_text : Row → List ℕ
range_text r = range_line r.name r.range

-- ---- bounds

abbrev pub bound_line : Word → Word → List Word → List ℕ
bound_line kind name value = data_line (kind ∷ codes "BND" ∷ name ∷ value)

abbrev pub is_same_decimal : Decimal → Decimal → Bool
is_same_decimal a b = int_eq a.m b.m && int_eq a.e b.e

-- the records of finite bounds that are not equal
abbrev pub both_text : Word → Decimal → Decimal → List ℕ
both_text name l u =
    (if is_zero_decimal l && not (int_lt u.m (pos 0)) then [] else bound_line (codes "LO") name (decimal_text l ∷ []))
    ++ bound_line (codes "UP") name (decimal_text u ∷ [])

-- the record of a lower bound without an upper one
abbrev pub lower_text : Word → Bool → Decimal → List ℕ
lower_text name integer l =
    if is_zero_decimal l then (if integer then bound_line (codes "PL") name [] else [])
    else bound_line (codes "LO") name (decimal_text l ∷ [])

abbrev pub bounds_text : Word → Bool → Option Decimal → Option Decimal → List ℕ
bounds_text name integer None None = bound_line (codes "FR") name []
bounds_text name integer None (Some u) = bound_line (codes "MI") name [] ++ bound_line (codes "UP") name (decimal_text u ∷ [])
bounds_text name integer (Some l) None = lower_text name integer l
bounds_text name integer (Some l) (Some u) =
    if is_same_decimal l u then bound_line (codes "FX") name (decimal_text l ∷ []) else both_text name l u

abbrev pub bound_text : Column → List ℕ
bound_text c = bounds_text c.name c.integer c.lo c.up

-- ---- all

unfoldable pub deck_text : Model → List ℕ
deck_text m =
    name_text m.name
    ++ sense_text m.maximise
    ++ codes "ROWS\n" ++ flat_map row_text m.rows
    ++ codes "COLUMNS\n" ++ columns_text m.rows false m.cols
    ++ section_text (codes "RHS\n") (flat_map rhs_text m.rows)
    ++ section_text (codes "RANGES\n") (flat_map range_text m.rows)
    ++ section_text (codes "BOUNDS\n") (flat_map bound_text m.cols)
    ++ codes "ENDATA\n"
