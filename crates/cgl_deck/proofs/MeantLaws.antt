-- The lines of the canonical deck of a model mean that model.
use Rattle.std.proofs.Common.{◌≡◌, refl, ap, ap₂, ◌∙◌, ◌<◌, Bool, true, false, ◌||◌, List, length, map, flat_map}
use Rattle.std.specs.List.{AllByRecursion, list_any}
use Rattle.cgl_model.specs.HasDecimals.{HasDecimals}
use Rattle.cgl_model.specs.Valid.{IsColumn, IsValid}
use Rattle.cgl_model.specs.declared.mip.Column.{Column}
use Rattle.cgl_model.specs.declared.mip.Model.{Model}
use Rattle.cgl_model.specs.declared.mip.Row.{Row}
use Rattle.cgl_decode.specs.declared.kinds.Section.TheVariants.{Rows, Columns, Rhs, Ranges, Bounds}
use Rattle.cgl_decode.specs.Records.{Record, data_in, kept}
use Rattle.cgl_decode.specs.Sections.{column_names, column_records, row_names, rows}
use Rattle.cgl_decode.specs.Models.{bounds_of, column_of, entries_of, is_marked, lower_of, makes_integer, model_of, row_of, upper_of}
use Rattle.cgl_decode.proofs.SoundLaws.{all_weaker}
use Rattle.cgl_deck.specs.DeckLines.{columns_lines, deck_lines, numbered}
use Rattle.cgl_deck.proofs.MeantLineLaws.{bounds_words, columns_words, deck_worded, fields_in, name_said, numbered_fields, numbered_kept, ranges_words, rhs_words, rows_words, sense_said}
use Rattle.cgl_deck.proofs.MeantGroupLaws.{all_both, map_back, map_map}
use Rattle.cgl_deck.proofs.MeantRowsLaws.{ReadsBack, rows_back, rows_said}
use Rattle.cgl_deck.proofs.MeantColumnsLaws.{AreEntriesIn, AreRowNames, all_entries, column_fields, column_words, names_said}
use Rattle.cgl_deck.proofs.MeantMarkersLaws.{markers_said}
use Rattle.cgl_deck.proofs.MeantBoundsLaws.{HasBounds, LimitReadsBack, bounds_said}

abbrev lines_of : Model → List Record
lines_of m = numbered 1 (deck_lines m)

-- ---- rows

rows_are : (m : Model) → rows (lines_of m) ≡ map (λ r. (r.kind, r.name)) m.rows
rows_are m = rows_said (lines_of m) m.rows (numbered_fields Rows 1 (deck_lines m) ∙ rows_words m)

row_names_are : (m : Model) → row_names (lines_of m) ≡ map (λ r. r.name) m.rows
row_names_are m = ap (map (λ r. r.1)) (rows_are m) ∙ map_map (λ r. r.1) (λ (r : Row). (r.kind, r.name)) m.rows

rows_meant : ReadsBack → (m : Model) → IsValid m → HasDecimals m → map (row_of (lines_of m)) (rows (lines_of m)) ≡ m.rows
rows_meant reads m valid decimals =
    rows_back reads (lines_of m) m.rows valid.distinct_rows decimals.rows
    (numbered_fields Rows 1 (deck_lines m) ∙ rows_words m)
    (numbered_fields Rhs 1 (deck_lines m) ∙ rhs_words m)
    (numbered_fields Ranges 1 (deck_lines m) ∙ ranges_words m)

-- ---- columns

or_none : (b : Bool) → (b || false) ≡ b
or_none true = refl
or_none false = refl

abbrev HasEntries : List Record → Column → Type 0
HasEntries records c = entries_of records c.name ≡ c.entries

abbrev HasMark : List Record → Column → Type 0
HasMark records c = is_marked records c.name ≡ c.integer

column_back : (records : List Record) (c : Column) → HasMark records c → HasEntries records c → HasBounds records c → column_of records c.name ≡ c
column_back records c marked entries bounds =
    let integer : (is_marked records c.name || list_any (λ b. makes_integer b.kind) (bounds_of records c.name)) ≡ c.integer = ap₂ (λ a b. a || b) marked bounds.plain ∙ or_none c.integer in
    ap₂ (λ i es. record { name = c.name; integer = i; lo = lower_of (bounds_of records c.name); up = upper_of (bounds_of records c.name); entries = es }) integer entries
    ∙ ap₂ (λ lo up. record { name = c.name; integer = c.integer; lo = lo; up = up; entries = c.entries }) bounds.lower bounds.upper

columns_meant : ReadsBack → LimitReadsBack → (m : Model) → IsValid m → HasDecimals m → map (column_of (lines_of m)) (column_names (lines_of m)) ≡ m.cols
columns_meant reads limits m valid decimals =
    let records : List Record = lines_of m in
    let said : fields_in (data_in Columns records) ≡ map (λ l. l.words) (columns_lines m.rows false m.cols) = numbered_fields Columns 1 (deck_lines m) ∙ columns_words m in
    let names : AreRowNames m.rows = valid.row_names in
    let known : AllByRecursion (λ c. AreEntriesIn m.rows c.entries) m.cols = all_weaker (IsColumn (length m.rows)) (λ c. AreEntriesIn m.rows c.entries) (λ c is. is.known) m.cols valid.columns in
    let some : AllByRecursion (λ c. 0 < length c.entries) m.cols = all_weaker (IsColumn (length m.rows)) (λ c. 0 < length c.entries) (λ c is. is.some) m.cols valid.columns in
    let own : fields_in (column_records records) ≡ flat_map (column_fields m.rows) m.cols = column_words m.rows names records m.cols known said in
    let marks : AllByRecursion (HasMark records) m.cols = markers_said m.rows names records m.cols known some valid.distinct_columns said in
    let entries : AllByRecursion (HasEntries records) m.cols =
    all_entries reads m.rows valid.distinct_rows names records m.cols (row_names_are m) own known decimals.columns valid.distinct_columns in
    let bounds : AllByRecursion (HasBounds records) m.cols =
    bounds_said limits (length m.rows) records m.cols valid.columns decimals.columns valid.distinct_columns (numbered_fields Bounds 1 (deck_lines m) ∙ bounds_words m) in
    ap (map (column_of records)) (names_said m.rows records m.cols some valid.distinct_columns own)
    ∙ map_back (λ c. c.name) (column_of records) m.cols
    (all_both (λ c. HasMark records c × HasEntries records c) (HasBounds records) (λ c. column_of records c.name ≡ c) (λ c a b. column_back records c a.0 a.1 b) m.cols
    (all_both (HasMark records) (HasEntries records) (λ c. HasMark records c × HasEntries records c) (λ c a b. (a, b)) m.cols marks entries) bounds)

-- ---- all

numbered_meant : ReadsBack → LimitReadsBack → (m : Model) → IsValid m → HasDecimals m → model_of (numbered 1 (deck_lines m)) ≡ m
unfolding model_of
numbered_meant reads limits m valid decimals =
    ap₂ (λ name maximise. record { name = name; maximise = maximise; rows = map (row_of (lines_of m)) (rows (lines_of m)); cols = map (column_of (lines_of m)) (column_names (lines_of m)) })
    (name_said 1 m) (sense_said 1 m)
    ∙ ap₂ (λ rows cols. record { name = m.name; maximise = m.maximise; rows = rows; cols = cols }) (rows_meant reads m valid decimals) (columns_meant reads limits m valid decimals)

pub meant : ReadsBack → LimitReadsBack → (m : Model) → IsValid m → HasDecimals m → model_of (kept (numbered 1 (deck_lines m))) ≡ m
meant reads limits m valid decimals = ap model_of (numbered_kept 1 (deck_lines m) (deck_worded m)) ∙ numbered_meant reads limits m valid decimals
