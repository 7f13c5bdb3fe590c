-- The lines of a valid model's canonical text are well formed and short.
use Rattle.std.proofs.Common.{◌≡◌, refl, sym, ap, ◌∙◌, subst, arith, ℕ, zero, suc, ◌*◌, ◌<◌, ◌≤◌, nat_lt, nat_le, Bool, true, false, not, cond, ◌&&◌, List, [], ◌∷◌, ◌++◌, codes, length, length-append, map, flat_map, append_assoc, Option, Some, None}
use Rattle.std.specs.Prelude.{int_lt, pos}
use Rattle.std.specs.List.{AllByRecursion, list_all}
use Rattle.std.specs.Option.{IfSome}
use Rattle.std.proofs.lemmas.Bool.{and_from, and_parts, leb-true, lt-ltb}
use Rattle.cgl_num.specs.Decimal.{Decimal, IsDecimal, decimal_text}
use Rattle.cgl_num.specs.NumberText.{Word}
use Rattle.cgl_model.specs.declared.mip.RowKind.{RowKind}
use Rattle.cgl_model.specs.declared.mip.RowKind.TheVariants.{N, L, G, E}
use Rattle.cgl_model.specs.declared.mip.Row.{Row}
use Rattle.cgl_model.specs.declared.mip.Column.{Column}
use Rattle.cgl_model.specs.declared.mip.Model.{Model}
use Rattle.cgl_model.specs.HasDecimals.{HasDecimals, IsDecimalColumn, IsDecimalRow}
use Rattle.cgl_model.specs.Valid.{IsColumn, IsModelName, IsName, IsRowName, IsValid, is_name_byte}
use Rattle.cgl_decode.specs.declared.kinds.Section.{Section}
use Rattle.cgl_decode.specs.declared.kinds.Section.TheVariants.{Start, Name, Sense, Rows, Columns, Rhs, Ranges, Bounds, End}
use Rattle.cgl_decode.specs.Records.{same_section}
use Rattle.cgl_deck.specs.DeckText.{is_same_decimal, is_zero_decimal, kind_word, row_name}
use Rattle.cgl_deck.specs.DeckLines.{Line, behind_spaces, both_lines, bound_line_of, bound_lines, bound_lines_of, column_lines, columns_lines, data_of, deck_lines, entry_line, header_of, line_bytes, marker_lines, name_words, range_lines, range_lines_of, rhs_lines, row_line, section_lines, sense_lines}
use Rattle.cgl_deck.proofs.LineLaws.{AreLines, AreWords, IsEnded, IsStart, is_word}
use Rattle.cgl_deck.proofs.NumberWordLaws.{number_is_name}
use Rattle.cgl_deck.proofs.ValidLaws.{all_append}

-- ---- lines of names

abbrev AreNames : List Word → Type 0
AreNames words = AllByRecursion IsName words

record IsDeckLine (before : Section) (l : Line) : Type 0 where
  names : AreNames l.words
  few : length l.words ≤ 4
  start : IsStart before l.header l.section l.words

abbrev AreDeckLines : Section → List Line → Type 0
AreDeckLines before [] = Unit {0}
AreDeckLines before (l ∷ lines) = IsDeckLine before l × IsEnded l.section lines × AreDeckLines l.section lines

-- lines that may follow any
abbrev Follow : List Line → Type 0
Follow lines = (before : Section) → AreDeckLines before lines

word_of_name : (name : Word) → IsName name → is_word name ≡ true
word_of_name name h = (and_parts (nat_lt 0 (length name) && list_all is_name_byte name) (nat_le (length name) 255) h).0

words_of_names : (words : List Word) → AreNames words → AreWords words
words_of_names [] h = tt
words_of_names (word ∷ words) h = (word_of_name word h.0, words_of_names words h.1)

well_formed : (before : Section) (lines : List Line) → AreDeckLines before lines → AreLines before lines
well_formed before [] h = tt
well_formed before (l ∷ lines) h = (record { words = words_of_names l.words h.0.names; start = h.0.start }, h.1, well_formed l.section lines h.2)

name_short : (name : Word) → IsName name → length name ≤ 255
name_short name h = leb-true (length name) 255 (and_parts (nat_lt 0 (length name) && list_all is_name_byte name) (nat_le (length name) 255) h).1

spaces_short : (words : List Word) → AreNames words → length (behind_spaces words) ≤ 256 * length words
spaces_short [] h = omega arith
spaces_short (word ∷ words) h = omega (arith, length-append (32 ∷ word) (behind_spaces words), name_short word h.0, spaces_short words h.1)

line_short : (header : Bool) (section : Section) (words : List Word) → AreNames words → length words ≤ 4 → length (line_bytes (record { header = header; section = section; words = words })) ≤ 4096
line_short true section [] h few = omega arith
line_short true section (word ∷ words) h few = omega (arith, few, length-append word (behind_spaces words), name_short word h.0, spaces_short words h.1)
line_short false section words h few = omega (arith, few, spaces_short words h)

lines_short : (before : Section) (lines : List Line) → AreDeckLines before lines → AllByRecursion (λ l. length (line_bytes l) ≤ 4096) lines
lines_short before [] h = tt
lines_short before (l ∷ lines) h = (line_short l.header l.section l.words h.0.names h.0.few, lines_short l.section lines h.2)

-- ---- headers and data lines

record IsDataLine (s : Section) (l : Line) : Type 0 where
  header : l.header ≡ false
  section : l.section ≡ s
  names : AreNames l.words
  some : 0 < length l.words
  few : length l.words ≤ 4

abbrev AreData : Section → List Line → Type 0
AreData s lines = AllByRecursion (IsDataLine s) lines

data_line_of : (s : Section) (words : List Word) → AreNames words → 0 < length words → length words ≤ 4 → IsDataLine s (data_of s words)
data_line_of s words names some few = record { header = refl; section = refl; names = names; some = some; few = few }

two_words : (s : Section) (a b : Word) → IsName a → IsName b → IsDataLine s (data_of s (a ∷ b ∷ []))
two_words s a b h k = data_line_of s (a ∷ b ∷ []) (h, (k, tt)) (omega arith) (omega arith)

three_words : (s : Section) (a b c : Word) → IsName a → IsName b → IsName c → IsDataLine s (data_of s (a ∷ b ∷ c ∷ []))
three_words s a b c h k l = data_line_of s (a ∷ b ∷ c ∷ []) (h, (k, (l, tt))) (omega arith) (omega arith)

four_words : (s : Section) (a b c d : Word) → IsName a → IsName b → IsName c → IsName d → IsDataLine s (data_of s (a ∷ b ∷ c ∷ d ∷ []))
four_words s a b c d h k l m = data_line_of s (a ∷ b ∷ c ∷ d ∷ []) (h, (k, (l, (m, tt)))) (omega arith) (omega arith)

not_ended : (s : Section) (lines : List Line) → same_section s End ≡ false → IsEnded s lines
not_ended s [] goes_on = tt
not_ended s (l ∷ lines) goes_on = goes_on

header_then : (before s : Section) (words : List Word) (rest : List Line) → AreNames words → length words ≤ 4 → IsStart before true s words → same_section s End ≡ false → AreDeckLines s rest
    → AreDeckLines before (header_of s words ∷ rest)
header_then before s words rest names few start goes_on h = (record { names = names; few = few; start = start }, not_ended s rest goes_on, h)

data_start : (s : Section) (header : Bool) (section : Section) (words : List Word) → header ≡ false → section ≡ s → 0 < length words → IsStart s header section words
data_start s header section [] plain same some = absurd (omega (arith, some))
data_start s true section (word ∷ words) plain same some = cc
data_start s false section (word ∷ words) plain same some = same

data_then : (s : Section) (lines rest : List Line) → same_section s End ≡ false → AreData s lines → AreDeckLines s rest → AreDeckLines s (lines ++ rest)
data_then s [] rest goes_on h after = after
data_then s (l ∷ lines) rest goes_on h after =
    let d = h.0 in (
      record { names = d.names; few = d.few; start = data_start s l.header l.section l.words d.header d.section d.some },
      not_ended l.section (lines ++ rest) (ap (λ t. same_section t End) d.section ∙ goes_on),
      subst (λ t. AreDeckLines t (lines ++ rest)) (sym d.section) (data_then s lines rest goes_on h.1 after),
    )

section_then : (s : Section) (word : Word) (lines rest : List Line) → IsName word → IsStart Start true s (word ∷ []) → same_section s End ≡ false → AreData s lines → Follow rest
    → Follow (section_lines s word lines ++ rest)
section_then s word [] rest name start goes_on h after before = after before
section_then s word (l ∷ lines) rest name start goes_on h after before =
    header_then before s (word ∷ []) ((l ∷ lines) ++ rest) (name, tt) (omega arith) start goes_on (data_then s (l ∷ lines) rest goes_on h (after s))

all_choice : (s : Section) (b : Bool) (one two : List Line) → AreData s one → AreData s two → AreData s (cond b one two)
all_choice s true one two h k = h
all_choice s false one two h k = k

all_both : {X : Type 0} (P Q : X → Type 0) (xs : List X) → AllByRecursion P xs → AllByRecursion Q xs → AllByRecursion (λ x. P x × Q x) xs
all_both P Q [] h k = tt
all_both P Q (x ∷ xs) h k = ((h.0, k.0), all_both P Q xs h.1 k.1)

data_of_each : {X : Type 0} (s : Section) (P : X → Type 0) (f : X → List Line) → ((x : X) → P x → AreData s (f x)) → (xs : List X) → AllByRecursion P xs → AreData s (flat_map f xs)
data_of_each s P f h [] k = tt
data_of_each s P f h (x ∷ xs) k = all_append (IsDataLine s) (f x) (flat_map f xs) (h x k.0) (data_of_each s P f h xs k.1)

-- ---- the lines of a model

abbrev HaveNames : List Row → Type 0
HaveNames rows = AllByRecursion (λ r. IsRowName r.name) rows

kind_name : (kind : RowKind) → IsName (kind_word kind)
kind_name N = refl
kind_name L = refl
kind_name G = refl
kind_name E = refl

row_data : (rows : List Row) → HaveNames rows → AreData Rows (map row_line rows)
row_data [] h = tt
row_data (r ∷ rows) h = (two_words Rows (kind_word r.kind) r.name (kind_name r.kind) h.0.0, row_data rows h.1)

row_name_is : (rows : List Row) (r : ℕ) → HaveNames rows → r < length rows → IsName (row_name rows r)
row_name_is [] r h lt = absurd (omega (arith, lt))
row_name_is (row ∷ rows) zero h lt = h.0.0
row_name_is (row ∷ rows) (suc r) h lt = row_name_is rows r h.1 (omega (arith, lt))

entry_data : (rows : List Row) (name : Word) (entries : List (ℕ × Decimal)) → HaveNames rows → IsName name → AllByRecursion (λ e. e.0 < length rows) entries → AllByRecursion (λ e. IsDecimal e.1) entries
    → AreData Columns (map (entry_line rows name) entries)
entry_data rows name [] h is known decimal = tt
entry_data rows name (e ∷ entries) h is known decimal = (
  three_words Columns name (row_name rows e.0) (decimal_text e.1) is (row_name_is rows e.0 h known.0) (number_is_name e.1 decimal.0),
  entry_data rows name entries h is known.1 decimal.1,
)

marker_data : (before now : Bool) → AreData Columns (marker_lines before now)
marker_data false true = (three_words Columns (codes "MARKER") (codes "'MARKER'") (codes "'INTORG'") refl refl refl, tt)
marker_data true false = (three_words Columns (codes "MARKER") (codes "'MARKER'") (codes "'INTEND'") refl refl refl, tt)
marker_data true true = tt
marker_data false false = tt

column_data : (rows : List Row) (before : Bool) (cols : List Column) → HaveNames rows → AllByRecursion (IsColumn (length rows)) cols → AllByRecursion IsDecimalColumn cols
    → AreData Columns (columns_lines rows before cols)
column_data rows before [] h v d = marker_data before false
column_data rows before (c ∷ cols) h v d =
    let one = marker_lines before c.integer in
    let two = column_lines rows c in
    all_append (IsDataLine Columns) (one ++ two) (columns_lines rows c.integer cols)
    (all_append (IsDataLine Columns) one two (marker_data before c.integer) (entry_data rows c.name c.entries h v.0.name v.0.known d.0.entries))
    (column_data rows c.integer cols h v.1 d.1)

abbrev IsGoodRow : Row → Type 0
IsGoodRow r = IsRowName r.name × IsDecimalRow r

rhs_data : (r : Row) → IsGoodRow r → AreData Rhs (rhs_lines r)
rhs_data r h =
    all_choice Rhs (is_zero_decimal r.rhs) [] (data_of Rhs (codes "RHS" ∷ r.name ∷ decimal_text r.rhs ∷ []) ∷ []) tt
    (three_words Rhs (codes "RHS") r.name (decimal_text r.rhs) refl h.0.0 (number_is_name r.rhs h.1.rhs), tt)

range_of_data : (name : Word) (range : Option Decimal) → IsName name → IfSome range IsDecimal → AreData Ranges (range_lines_of name range)
range_of_data name None is h = tt
range_of_data name (Some d) is h = (three_words Ranges (codes "RNG") name (decimal_text d) refl is (number_is_name d h), tt)

range_data : (r : Row) → IsGoodRow r → AreData Ranges (range_lines r)
range_data r h = range_of_data r.name r.range h.0.0 h.1.range

abbrev IsGoodColumn : ℕ → Column → Type 0
IsGoodColumn rows c = IsColumn rows c × IsDecimalColumn c

plain_bound : (kind name : Word) → IsName kind → IsName name → AreData Bounds (bound_line_of kind name [] ∷ [])
plain_bound kind name k h = (three_words Bounds kind (codes "BND") name k refl h, tt)

number_bound : (kind name : Word) (d : Decimal) → IsName kind → IsName name → IsDecimal d → AreData Bounds (bound_line_of kind name (decimal_text d ∷ []) ∷ [])
number_bound kind name d k h is = (four_words Bounds kind (codes "BND") name (decimal_text d) k refl h (number_is_name d is), tt)

bound_of_data : (name : Word) (integer : Bool) (lo up : Option Decimal) → IsName name → IfSome lo IsDecimal → IfSome up IsDecimal → AreData Bounds (bound_lines_of name integer lo up)
bound_of_data name integer None None is l u = plain_bound (codes "FR") name refl is
bound_of_data name integer None (Some b) is l u = ((plain_bound (codes "MI") name refl is).0, number_bound (codes "UP") name b refl is u)
bound_of_data name integer (Some a) None is l u =
    let plain = bound_line_of (codes "PL") name [] ∷ [] in
    all_choice Bounds (is_zero_decimal a) (cond integer plain []) (bound_line_of (codes "LO") name (decimal_text a ∷ []) ∷ [])
    (all_choice Bounds integer plain [] (plain_bound (codes "PL") name refl is) tt)
    (number_bound (codes "LO") name a refl is l)
bound_of_data name integer (Some a) (Some b) is l u =
    let lower = bound_line_of (codes "LO") name (decimal_text a ∷ []) ∷ [] in
    let upper = bound_line_of (codes "UP") name (decimal_text b ∷ []) ∷ [] in
    let idle = is_zero_decimal a && not (int_lt b.m (pos 0)) in
    all_choice Bounds (is_same_decimal a b) (bound_line_of (codes "FX") name (decimal_text a ∷ []) ∷ []) (both_lines name a b)
    (number_bound (codes "FX") name a refl is l)
    (all_append (IsDataLine Bounds) (cond idle [] lower) upper (all_choice Bounds idle [] lower tt (number_bound (codes "LO") name a refl is l)) (number_bound (codes "UP") name b refl is u))

bound_data : (rows : ℕ) (c : Column) → IsGoodColumn rows c → AreData Bounds (bound_lines c)
bound_data rows c h = bound_of_data c.name c.integer c.lo c.up h.0.name h.1.lower h.1.upper

-- ---- the parts in order

end_follows : Follow (header_of End (codes "ENDATA" ∷ []) ∷ [])
end_follows before = (record { names = (refl, tt); few = omega arith; start = (refl, refl) }, tt, tt)

sense_then : (maximise : Bool) (rest : List Line) → Follow rest → Follow (sense_lines maximise ++ rest)
sense_then true rest after before =
    header_then before Sense (codes "OBJSENSE" ∷ []) (data_of Sense (codes "MAX" ∷ []) ∷ rest) (refl, tt) (omega arith) (refl, refl) refl
    (data_then Sense (data_of Sense (codes "MAX" ∷ []) ∷ []) rest refl (data_line_of Sense (codes "MAX" ∷ []) (refl, tt) (omega arith) (omega arith), tt) (after Sense))
sense_then false rest after before = after before

model_name : (name : Word) → 0 < length name → IsModelName name → IsName name
model_name name some h =
    let parts = and_parts (list_all is_name_byte name) (nat_le (length name) 255) h in
    and_from _ _ (and_from _ _ (lt-ltb 0 (length name) some) parts.0) parts.1

title_then : (name : Word) (rest : List Line) → IsModelName name → Follow rest → AreDeckLines Start (header_of Name (name_words name) ∷ rest)
title_then [] rest h after = header_then Start Name (codes "NAME" ∷ []) rest (refl, tt) (omega arith) (refl, refl) refl (after Name)
title_then (b ∷ name) rest h after =
    header_then Start Name (codes "NAME" ∷ (b ∷ name) ∷ []) rest (refl, (model_name (b ∷ name) (omega arith) h, tt)) (omega arith) (refl, refl) refl (after Name)

block_then : (s : Section) (word : Word) (lines rest : List Line) → IsName word → IsStart Start true s (word ∷ []) → same_section s End ≡ false → AreData s lines → Follow rest
    → Follow ((header_of s (word ∷ []) ∷ lines) ++ rest)
block_then s word lines rest name start goes_on h after before = header_then before s (word ∷ []) (lines ++ rest) (name, tt) (omega arith) start goes_on (data_then s lines rest goes_on h (after s))

regrouped : (a b c d e f g : List Line) → a ++ b ++ c ++ d ++ e ++ f ++ g ≡ a ++ (b ++ (c ++ (d ++ (e ++ (f ++ g)))))
regrouped a b c d e f g = simp append_assoc

deck_is : (m : Model) → IsValid m → HasDecimals m → AreDeckLines Start (deck_lines m)
deck_is m v d =
    let rows = all_both (λ r. IsRowName r.name) IsDecimalRow m.rows v.row_names d.rows in
    let cols = all_both (IsColumn (length m.rows)) IsDecimalColumn m.cols v.columns d.columns in
    let six = header_of End (codes "ENDATA" ∷ []) ∷ [] in
    let bounds = flat_map bound_lines m.cols in
    let five = section_lines Bounds (codes "BOUNDS") bounds in
    let ranges = flat_map range_lines m.rows in
    let four = section_lines Ranges (codes "RANGES") ranges in
    let rhs = flat_map rhs_lines m.rows in
    let three = section_lines Rhs (codes "RHS") rhs in
    let two = header_of Columns (codes "COLUMNS" ∷ []) ∷ columns_lines m.rows false m.cols in
    let one = header_of Rows (codes "ROWS" ∷ []) ∷ map row_line m.rows in
    let top = header_of Name (name_words m.name) ∷ sense_lines m.maximise in
    let from_five : Follow (five ++ six) = section_then Bounds (codes "BOUNDS") bounds six refl (refl, refl) refl
    (data_of_each Bounds (IsGoodColumn (length m.rows)) bound_lines (bound_data (length m.rows)) m.cols cols) end_follows in
    let from_four : Follow (four ++ (five ++ six)) = section_then Ranges (codes "RANGES") ranges (five ++ six) refl (refl, refl) refl
    (data_of_each Ranges IsGoodRow range_lines range_data m.rows rows) from_five in
    let from_three : Follow (three ++ (four ++ (five ++ six))) = section_then Rhs (codes "RHS") rhs (four ++ (five ++ six)) refl (refl, refl) refl
    (data_of_each Rhs IsGoodRow rhs_lines rhs_data m.rows rows) from_four in
    let from_two : Follow (two ++ (three ++ (four ++ (five ++ six)))) = block_then Columns (codes "COLUMNS") (columns_lines m.rows false m.cols) (three ++ (four ++ (five ++ six))) refl (refl, refl) refl
    (column_data m.rows false m.cols v.row_names v.columns d.columns) from_three in
    let from_one : Follow (one ++ (two ++ (three ++ (four ++ (five ++ six))))) = block_then Rows (codes "ROWS") (map row_line m.rows) (two ++ (three ++ (four ++ (five ++ six)))) refl (refl, refl) refl
    (row_data m.rows v.row_names) from_two in
    subst (λ lines. AreDeckLines Start lines) (sym (regrouped top one two three four five six))
    (title_then m.name (sense_lines m.maximise ++ (one ++ (two ++ (three ++ (four ++ (five ++ six)))))) v.name
    (sense_then m.maximise (one ++ (two ++ (three ++ (four ++ (five ++ six))))) from_one))

pub deck_well_formed : (m : Model) → IsValid m → HasDecimals m → AreLines Start (deck_lines m)
deck_well_formed m v d = well_formed Start (deck_lines m) (deck_is m v d)

pub line_sizes : (m : Model) → IsValid m → HasDecimals m → AllByRecursion (λ l. length (line_bytes l) ≤ 4096) (deck_lines m)
line_sizes m v d = lines_short Start (deck_lines m) (deck_is m v d)
