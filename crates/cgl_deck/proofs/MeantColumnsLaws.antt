-- The names and entries of a model's columns from the lines of its deck.
use Rattle.std.proofs.Common.{◌≡◌, refl, sym, ap, ap₂, ◌∙◌, arith, ℕ, zero, suc, ◌+◌, ◌<◌, ◌==◌, Bool, true, false, cond, not, ◌&&◌, List, [], ◌∷◌, ◌++◌, length, map, filter, filter_map, flat_map, bytes_eq, position, Option, Some, option_and_then, option_map, unwrap_or, slice_get}
use Rattle.std.specs.List.{AllByRecursion, cons_option, position_from}
use Rattle.std.proofs.lemmas.Iterator.Adapters.{position_from-zero}
use Rattle.std.proofs.lemmas.List.{map-append}
use Rattle.std.proofs.lemmas.List.Elements.{filter-append}
use Rattle.std.proofs.lemmas.List.Folds.{flat_map-map}
use Rattle.cgl_num.specs.Decimal.{Decimal, IsDecimal}
use Rattle.cgl_num.specs.NumberText.{Word}
use Rattle.cgl_text.specs.Text.{is_one_of}
use Rattle.cgl_model.specs.HasDecimals.{IsDecimalColumn}
use Rattle.cgl_model.specs.Valid.{AreDistinct, IsRowName}
use Rattle.cgl_model.specs.declared.mip.Column.{Column}
use Rattle.cgl_model.specs.declared.mip.Row.{Row}
use Rattle.cgl_decode.specs.declared.kinds.Section.TheVariants.{Columns}
use Rattle.cgl_decode.specs.Records.{Record, data_in}
use Rattle.cgl_decode.specs.Sections.{Pair, column_names, column_records, distinct, marker, names_column, pairs_of, rest, row_names}
use Rattle.cgl_decode.specs.Models.{entries_of, entry_of}
use Rattle.cgl_decode.proofs.DistinctLaws.{flip_differ, not_false, or_false_parts, same_word}
use Rattle.cgl_decode.proofs.SoundLaws.{all_weaker}
use Rattle.cgl_deck.specs.DeckText.{row_name}
use Rattle.cgl_deck.specs.DeckLines.{Line, column_lines, columns_lines, entry_line, marker_lines}
use Rattle.cgl_deck.proofs.MeantLineLaws.{fields_in, words_of}
use Rattle.cgl_deck.proofs.MeantGroupLaws.{Keyed, all_apart, all_both, all_pass, groups, map_filter, map_map}
use Rattle.cgl_deck.proofs.MeantRowsLaws.{ReadsBack}

-- ---- what stands at a place of a line's words

abbrev pub at : ℕ → List Word → Word
at k fields = unwrap_or (slice_get fields k) []

abbrev pub marks : List Word → Bool
marks fields = length fields == 3 && bytes_eq (at 1 fields) marker

abbrev pub owns : Word → List Word → Bool
owns name fields = not (marks fields) && bytes_eq name (at 0 fields)

-- ---- rows by their numbers

pub row_named : (P : Word → Type 0) (rs : List Row) (i : ℕ) → i < length rs → AllByRecursion (λ r. P r.name) rs → P (row_name rs i)
row_named P [] i lt all = absurd (omega arith)
row_named P (r ∷ rs) zero lt all = all.0
row_named P (r ∷ rs) (suc i) lt all = row_named P rs i (omega arith) all.1

place_from : (rs : List Row) (k i : ℕ) → i < length rs → AreDistinct (map (λ r. r.name) rs) → position_from (bytes_eq (row_name rs i)) k (map (λ r. r.name) rs) ≡ Some (k + i)
place_from [] k i lt once = absurd (omega arith)
place_from (r ∷ rs) k zero lt once =
    let same : k ≡ k + 0 = omega arith in
    ap (λ b. cond b (Some k) (position_from (bytes_eq r.name) (k + 1) (map (λ r. r.name) rs))) (same_word r.name r.name refl) ∙ ap Some same
place_from (r ∷ rs) k (suc i) lt once =
    let less : i < length rs = omega arith in
    let same : k + 1 + i ≡ k + suc i = omega arith in
    let apart : bytes_eq (row_name rs i) r.name ≡ false =
    row_named (λ w. bytes_eq w r.name ≡ false) rs i less (all_apart (λ (s : Row). s.name) r rs (not_false (is_one_of (map (λ s. s.name) rs) r.name) once.0)) in
    ap (λ b. cond b (Some k) (position_from (bytes_eq (row_name rs i)) (k + 1) (map (λ r. r.name) rs))) apart
    ∙ place_from rs (k + 1) i less once.1
    ∙ ap Some same

pub place_of : (rs : List Row) (i : ℕ) → i < length rs → AreDistinct (map (λ r. r.name) rs) → position (bytes_eq (row_name rs i)) (map (λ r. r.name) rs) ≡ Some i
place_of rs i lt once =
    let same : 0 + i ≡ i = omega arith in
    position_from-zero (bytes_eq (row_name rs i)) (map (λ r. r.name) rs) ∙ place_from rs 0 i lt once ∙ ap Some same

-- ---- the lines of columns

abbrev pub column_fields : List Row → Column → List (List Word)
column_fields rs c = map words_of (column_lines rs c)

abbrev pub AreEntriesIn : List Row → List (ℕ × Decimal) → Type 0
AreEntriesIn rs entries = AllByRecursion (λ e. e.0 < length rs) entries

abbrev pub AreRowNames : List Row → Type 0
AreRowNames rs = AllByRecursion (λ r. IsRowName r.name) rs

no_marker : (rs : List Row) → AreRowNames rs → (i : ℕ) → i < length rs → bytes_eq (row_name rs i) marker ≡ false
no_marker rs names i lt = row_named (λ w. bytes_eq w marker ≡ false) rs i lt (all_weaker (λ (r : Row). IsRowName r.name) (λ (r : Row). bytes_eq r.name marker ≡ false) (λ r is. not_false (bytes_eq r.name marker) is.1) rs names)

pub entries_unmarked : (rs : List Row) → AreRowNames rs → (name : Word) (entries : List (ℕ × Decimal)) → AreEntriesIn rs entries → AllByRecursion (λ fields. marks fields ≡ false) (map words_of (map (entry_line rs name) entries))
entries_unmarked rs names name [] all = tt
entries_unmarked rs names name (e ∷ entries) all = (no_marker rs names e.0 all.0, entries_unmarked rs names name entries all.1)

pub entries_keyed : (rs : List Row) → AreRowNames rs → (name : Word) (entries : List (ℕ × Decimal)) → AreEntriesIn rs entries → (w : Word) → AllByRecursion (λ fields. owns w fields ≡ bytes_eq w name) (map words_of (map (entry_line rs name) entries))
entries_keyed rs names name [] all w = tt
entries_keyed rs names name (e ∷ entries) all w = (ap (λ b. not b && bytes_eq w name) (no_marker rs names e.0 all.0), entries_keyed rs names name entries all.1 w)

pub columns_keyed : (rs : List Row) → AreRowNames rs → (cols : List Column) → AllByRecursion (λ c. AreEntriesIn rs c.entries) cols → AllByRecursion (Keyed (λ c. c.name) owns (column_fields rs)) cols
columns_keyed rs names cols all = all_weaker (λ c. AreEntriesIn rs c.entries) (Keyed (λ c. c.name) owns (column_fields rs)) (λ c is w. entries_keyed rs names c.name c.entries is w) cols all

abbrev unmarked : List Word → Bool
unmarked fields = not (marks fields)

markers_gone : (before after : Bool) → filter unmarked (map words_of (marker_lines before after)) ≡ []
markers_gone false true = refl
markers_gone true false = refl
markers_gone true true = refl
markers_gone false false = refl

own_kept : (rs : List Row) → AreRowNames rs → (name : Word) (entries : List (ℕ × Decimal)) → AreEntriesIn rs entries
    → filter unmarked (map words_of (map (entry_line rs name) entries)) ≡ map words_of (map (entry_line rs name) entries)
own_kept rs names name entries all =
    let lines : List (List Word) = map words_of (map (entry_line rs name) entries) in
    all_pass unmarked lines (all_weaker (λ fields. marks fields ≡ false) (λ fields. unmarked fields ≡ true) (λ fields is. ap not is) lines (entries_unmarked rs names name entries all))

pub columns_said : (rs : List Row) → AreRowNames rs → (before : Bool) (cols : List Column) → AllByRecursion (λ c. AreEntriesIn rs c.entries) cols
    → filter (λ fields. not (marks fields)) (map (λ l. l.words) (columns_lines rs before cols)) ≡ flat_map (column_fields rs) cols
columns_said rs names before [] all = markers_gone before false
columns_said rs names before (c ∷ cols) all =
    let markers : List Line = marker_lines before c.integer in
    let own : List Line = column_lines rs c in
    let others : List Line = columns_lines rs c.integer cols in
    ap (filter unmarked) (map-append words_of (markers ++ own) others ∙ ap (λ l. l ++ map words_of others) (map-append words_of markers own))
    ∙ filter-append unmarked (map words_of markers ++ map words_of own) (map words_of others)
    ∙ ap₂ (λ a b. a ++ b)
    (filter-append unmarked (map words_of markers) (map words_of own) ∙ ap₂ (λ a b. a ++ b) (markers_gone before c.integer) (own_kept rs names c.name c.entries all.0))
    (columns_said rs names c.integer cols all.1)

-- ---- names

apart_words : (name : Word) (names : List Word) → is_one_of names name ≡ false → AllByRecursion (λ other. not (bytes_eq other name) ≡ true) names
apart_words name [] none = tt
apart_words name (other ∷ names) none =
    let parts = or_false_parts (bytes_eq name other) (is_one_of names name) none in
    (ap not (flip_differ name other parts.0), apart_words name names parts.1)

removed_none : (name : Word) (names : List Word) → is_one_of names name ≡ false → filter (λ other. not (bytes_eq other name)) names ≡ names
removed_none name names none = all_pass (λ other. not (bytes_eq other name)) names (apart_words name names none)

copies : (rs : List Row) (name : Word) (entries : List (ℕ × Decimal)) (others names : List Word) → 0 < length entries → distinct others ≡ names → is_one_of names name ≡ false
    → distinct (map (at 0) (map words_of (map (entry_line rs name) entries)) ++ others) ≡ name ∷ names
copies rs name [] others names some is none = absurd (omega arith)
copies rs name (e ∷ []) others names some is none =
    let differs : Word → Bool = λ other. not (bytes_eq other name) in
    ap (λ l. name ∷ l) (ap (filter differs) is ∙ removed_none name names none)
copies rs name (e ∷ f ∷ entries) others names some is none =
    let differs : Word → Bool = λ other. not (bytes_eq other name) in
    let more : 0 < length (f ∷ entries) = omega arith in
    ap (λ l. name ∷ l)
    (ap (filter differs) (copies rs name (f ∷ entries) others names more is none)
    ∙ ap (λ b. cond (not b) (name ∷ filter differs names) (filter differs names)) (same_word name name refl)
    ∙ removed_none name names none)

names_once : (rs : List Row) (cols : List Column) → AllByRecursion (λ c. 0 < length c.entries) cols → AreDistinct (map (λ c. c.name) cols) → distinct (map (at 0) (flat_map (column_fields rs) cols)) ≡ map (λ c. c.name) cols
names_once rs [] some once = refl
names_once rs (c ∷ cols) some once =
    ap distinct (map-append (at 0) (column_fields rs c) (flat_map (column_fields rs) cols))
    ∙ copies rs c.name c.entries (map (at 0) (flat_map (column_fields rs) cols)) (map (λ c. c.name) cols) some.0 (names_once rs cols some.1 once.1)
    (not_false (is_one_of (map (λ c. c.name) cols) c.name) once.0)

-- the words of the lines of columns
pub column_words : (rs : List Row) → AreRowNames rs → (records : List Record) (cols : List Column) → AllByRecursion (λ c. AreEntriesIn rs c.entries) cols
    → fields_in (data_in Columns records) ≡ map (λ l. l.words) (columns_lines rs false cols) → fields_in (column_records records) ≡ flat_map (column_fields rs) cols
column_words rs names records cols all said = map_filter (λ (r : Record). r.fields) unmarked (data_in Columns records) ∙ ap (filter unmarked) said ∙ columns_said rs names false cols all

pub names_said : (rs : List Row) (records : List Record) (cols : List Column) → AllByRecursion (λ c. 0 < length c.entries) cols → AreDistinct (map (λ c. c.name) cols)
    → fields_in (column_records records) ≡ flat_map (column_fields rs) cols → column_names records ≡ map (λ c. c.name) cols
names_said rs records cols some once said =
    ap distinct (sym (map_map (at 0) (λ (r : Record). r.fields) (column_records records)) ∙ ap (map (at 0)) said) ∙ names_once rs cols some once

-- ---- entries

abbrev entry_said : List Word → List Pair
entry_said fields = pairs_of (rest fields)

abbrev entry_from : Option ℕ → Option Decimal → Option (ℕ × Decimal)
entry_from place value = option_and_then (λ i. option_map (λ d. (i, d)) value) place

entries_read : ReadsBack → (rs : List Row) → AreDistinct (map (λ r. r.name) rs) → (name : Word) (entries : List (ℕ × Decimal)) → AreEntriesIn rs entries → AllByRecursion (λ e. IsDecimal e.1) entries
    → filter_map (entry_of (map (λ r. r.name) rs)) (flat_map entry_said (map words_of (map (entry_line rs name) entries))) ≡ entries
entries_read reads rs once name [] all decimals = refl
entries_read reads rs once name (e ∷ entries) all decimals =
    ap₂ (λ o others. cons_option o others)
    (ap₂ entry_from (place_of rs e.0 all.0 once) (reads e.1 decimals.0))
    (entries_read reads rs once name entries all.1 decimals.1)

entries_back : ReadsBack → (rs : List Row) → AreDistinct (map (λ r. r.name) rs) → (records : List Record) (cols : List Column) (c : Column)
    → row_names records ≡ map (λ r. r.name) rs → fields_in (column_records records) ≡ flat_map (column_fields rs) cols
    → AreEntriesIn rs c.entries → AllByRecursion (λ e. IsDecimal e.1) c.entries
    → filter (owns c.name) (flat_map (column_fields rs) cols) ≡ column_fields rs c
    → entries_of records c.name ≡ c.entries
entries_back reads rs once records cols c names said all decimals own =
    ap₂ (λ ns l. filter_map (entry_of ns) l) names
    (sym (flat_map-map entry_said (λ (r : Record). r.fields) (filter (names_column c.name) (column_records records)))
    ∙ ap (flat_map entry_said) (map_filter (λ (r : Record). r.fields) (owns c.name) (column_records records) ∙ ap (filter (owns c.name)) said ∙ own))
    ∙ entries_read reads rs once c.name c.entries all decimals

pub all_entries : ReadsBack → (rs : List Row) → AreDistinct (map (λ r. r.name) rs) → AreRowNames rs → (records : List Record) (cols : List Column)
    → row_names records ≡ map (λ r. r.name) rs → fields_in (column_records records) ≡ flat_map (column_fields rs) cols
    → AllByRecursion (λ c. AreEntriesIn rs c.entries) cols → AllByRecursion IsDecimalColumn cols → AreDistinct (map (λ c. c.name) cols)
    → AllByRecursion (λ c. entries_of records c.name ≡ c.entries) cols
all_entries reads rs once names records cols rows_are said all decimals columns_once =
    let own : Column → Type 0 = λ c. filter (owns c.name) (flat_map (column_fields rs) cols) ≡ column_fields rs c in
    all_both (λ c. AreEntriesIn rs c.entries × own c) IsDecimalColumn (λ c. entries_of records c.name ≡ c.entries)
    (λ c both is. entries_back reads rs once records cols c rows_are said both.0 is.entries both.1) cols
    (all_both (λ c. AreEntriesIn rs c.entries) own (λ c. AreEntriesIn rs c.entries × own c) (λ c a b. (a, b)) cols all
    (groups (λ c. c.name) owns (column_fields rs) cols (columns_keyed rs names cols all) columns_once))
    decimals
