-- The lines of the canonical text of a model, each with its section and its words.
use Rattle.std.specs.Prelude.{ℕ, ◌+◌, pos, int_lt, Bool, true, false, not, ◌&&◌, List, [], ◌∷◌, ◌++◌, codes, flat_map, map, length, Option, Some, None, if◌then◌else◌}
use Rattle.cgl_num.specs.Decimal.{Decimal, decimal_text}
use Rattle.cgl_num.specs.NumberText.{Word}
use Rattle.cgl_model.specs.declared.mip.Row.{Row}
use Rattle.cgl_model.specs.declared.mip.Column.{Column}
use Rattle.cgl_model.specs.declared.mip.Model.{Model}
use Rattle.cgl_decode.specs.declared.kinds.Section.{Section}
use Rattle.cgl_decode.specs.declared.kinds.Section.TheVariants.{Name, Sense, Rows, Columns, Rhs, Ranges, Bounds, End}
use Rattle.cgl_decode.specs.Records.{Record}
use Rattle.cgl_deck.specs.DeckText.{kind_word, row_name, is_zero_decimal, is_same_decimal}

pub record Line : Type 0 where
  pub header : Bool
  pub section : Section
  pub words : List Word

abbrev pub header_of : Section → List Word → Line
header_of section words = record { header = true; section = section; words = words }

abbrev pub data_of : Section → List Word → Line
data_of section words = record { header = false; section = section; words = words }

-- each word behind a space
abbrev pub behind_spaces : List Word → List ℕ
behind_spaces words = flat_map (λ word. 32 ∷ word) words

-- the bytes of a line without its end; a data line begins with a space
abbrev pub header_bytes : List Word → List ℕ
header_bytes [] = []
header_bytes (word ∷ words) = word ++ behind_spaces words

abbrev pub line_bytes : Line → List ℕ
line_bytes l = if l.header then header_bytes l.words else behind_spaces l.words

abbrev pub text_of : List Line → List ℕ
text_of lines = flat_map (λ l. line_bytes l ++ 10 ∷ []) lines

-- the record that a line is
abbrev pub record_at : ℕ → Line → Record
record_at n l = record { line = n; bytes = length (line_bytes l); section = l.section; header = l.header; fields = l.words }

abbrev pub numbered : ℕ → List Line → List Record
numbered n [] = []
numbered n (l ∷ lines) = record_at n l ∷ numbered (n + 1) lines

-- ---- the lines of a model

abbrev pub name_words : Word → List Word
name_words [] = codes "NAME" ∷ []
name_words (b ∷ name) = codes "NAME" ∷ (b ∷ name) ∷ []

abbrev pub sense_lines : Bool → List Line
sense_lines true = header_of Sense (codes "OBJSENSE" ∷ []) ∷ data_of Sense (codes "MAX" ∷ []) ∷ []
sense_lines false = []

abbrev pub row_line : Row → Line
row_line r = data_of Rows (kind_word r.kind ∷ r.name ∷ [])

abbrev pub entry_line : List Row → Word → ℕ × Decimal → Line
entry_line rows name e = data_of Columns (name ∷ row_name rows e.0 ∷ decimal_text e.1 ∷ [])

abbrev pub column_lines : List Row → Column → List Line
column_lines rows c = map (entry_line rows c.name) c.entries

abbrev pub marker_line : Word → Line
marker_line word = data_of Columns (codes "MARKER" ∷ codes "'MARKER'" ∷ word ∷ [])

abbrev pub marker_lines : Bool → Bool → List Line
marker_lines false true = marker_line (codes "'INTORG'") ∷ []
marker_lines true false = marker_line (codes "'INTEND'") ∷ []
marker_lines true true = []
marker_lines false false = []

abbrev pub columns_lines : List Row → Bool → List Column → List Line
columns_lines rows before [] = marker_lines before false
columns_lines rows before (c ∷ cols) = marker_lines before c.integer ++ column_lines rows c ++ columns_lines rows c.integer cols

-- a header with its data lines, where there are any
abbrev pub section_lines : Section → Word → List Line → List Line
section_lines section word [] = []
section_lines section word (l ∷ lines) = header_of section (word ∷ []) ∷ l ∷ lines

abbrev pub rhs_lines : Row → List Line
rhs_lines r = if is_zero_decimal r.rhs then [] else data_of Rhs (codes "RHS" ∷ r.name ∷ decimal_text r.rhs ∷ []) ∷ []

abbrev pub range_lines_of : Word → Option Decimal → List Line
range_lines_of name None = []
range_lines_of name (Some d) = data_of Ranges (codes "RNG" ∷ name ∷ decimal_text d ∷ []) ∷ []

abbrev pub range_lines : Row → List Line
range_lines r = range_lines_of r.name r.range

abbrev pub bound_line_of : Word → Word → List Word → Line
bound_line_of kind name value = data_of Bounds (kind ∷ codes "BND" ∷ name ∷ value)

abbrev pub both_lines : Word → Decimal → Decimal → List Line
both_lines name l u =
    (if is_zero_decimal l && not (int_lt u.m (pos 0)) then [] else bound_line_of (codes "LO") name (decimal_text l ∷ []) ∷ [])
    ++ bound_line_of (codes "UP") name (decimal_text u ∷ []) ∷ []

abbrev pub lower_lines : Word → Bool → Decimal → List Line
lower_lines name integer l =
    if is_zero_decimal l then (if integer then bound_line_of (codes "PL") name [] ∷ [] else [])
    else bound_line_of (codes "LO") name (decimal_text l ∷ []) ∷ []

abbrev pub bound_lines_of : Word → Bool → Option Decimal → Option Decimal → List Line
bound_lines_of name integer None None = bound_line_of (codes "FR") name [] ∷ []
bound_lines_of name integer None (Some u) = bound_line_of (codes "MI") name [] ∷ bound_line_of (codes "UP") name (decimal_text u ∷ []) ∷ []
bound_lines_of name integer (Some l) None = lower_lines name integer l
bound_lines_of name integer (Some l) (Some u) =
    if is_same_decimal l u then bound_line_of (codes "FX") name (decimal_text l ∷ []) ∷ [] else both_lines name l u

abbrev pub bound_lines : Column → List Line
bound_lines c = bound_lines_of c.name c.integer c.lo c.up

abbrev pub deck_lines : Model → List Line
deck_lines m =
    header_of Name (name_words m.name) ∷ sense_lines m.maximise
    ++ header_of Rows (codes "ROWS" ∷ []) ∷ map row_line m.rows
    ++ header_of Columns (codes "COLUMNS" ∷ []) ∷ columns_lines m.rows false m.cols
    ++ section_lines Rhs (codes "RHS") (flat_map rhs_lines m.rows)
    ++ section_lines Ranges (codes "RANGES") (flat_map range_lines m.rows)
    ++ section_lines Bounds (codes "BOUNDS") (flat_map bound_lines m.cols)
    ++ header_of End (codes "ENDATA" ∷ []) ∷ []
