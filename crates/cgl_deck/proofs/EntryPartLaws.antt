-- One more line of an entry, and one more marker line, behind the lines of COLUMNS so far.
use Rattle.std.proofs.Common.{◌≡◌, refl, sym, ap, ap₂, ◌∙◌, subst, arith, ℕ, suc, ◌+◌, ◌^◌, ◌<◌, nat_le, Bool, true, false, cond, not, ◌&&◌, ◌||◌, List, [], ◌∷◌, ◌++◌, append-nil, length, length-append, drop, map, filter, flat_map, bytes_eq, Some, is_none}
use Rattle.std.specs.List.{list_any, AllByRecursion, after_first, position_or_len}
use Rattle.std.proofs.lemmas.Bool.{and_from, and_left, not-true, or_from, or_parts}
use Rattle.std.proofs.lemmas.Grind.{flat_map-append}
use Rattle.std.proofs.lemmas.List.{map-append}
use Rattle.std.proofs.lemmas.List.Elements.{filter-append}
use Rattle.std.proofs.lemmas.List.Folds.{list_any-append}
use Rattle.cgl_num.specs.Decimal.{Decimal, decimal_text}
use Rattle.cgl_num.specs.NumberText.{Word, number}
use Rattle.cgl_text.specs.Text.{is_one_of}
use Rattle.cgl_model.specs.declared.mip.Row.{Row}
use Rattle.cgl_model.specs.Valid.{IsName, IsRowName}
use Rattle.cgl_decode.specs.declared.kinds.Section.TheVariants.{Columns}
use Rattle.cgl_decode.specs.Records.{Record, field, data_in, has_header}
use Rattle.cgl_decode.specs.Sections.{Pair, distinct, is_marker, marker, names_column, column_records, column_names, entry_pairs, row_names}
use Rattle.cgl_decode.specs.Faults.{columns_conditions, column_conditions, is_marker_form, is_new_column, is_split, names_row, pairs_of_column}
use Rattle.cgl_decode.specs.Decode.{deck_limits}
use Rattle.cgl_decode.proofs.CountLaws.{distinct-push, not_reached}
use Rattle.cgl_decode.proofs.DistinctLaws.{same_word}
use Rattle.cgl_decode.proofs.NameLaws.{any-filter, any-same, is_new_column-names, is_one_of-distinct}
use Rattle.cgl_deck.specs.DeckText.{row_name}
use Rattle.cgl_deck.specs.DeckLines.{entry_line, marker_line, record_at}
use Rattle.cgl_deck.proofs.PartLaws.{IsGood, NoneHolds, Under, data_push, fine, header_stays, rows_same, under_push}
use Rattle.cgl_deck.proofs.RowPartLaws.{name_known, name_valid, names_of, short_name}

-- ---- split columns

after_first-first : {X : Type 0} (p : X → Bool) (x : X) (xs : List X) → after_first p (x ∷ xs) ≡ cond (p x) xs (after_first p xs)
after_first-first p x xs = dropped (p x) (position_or_len p xs)
  where
    dropped : (b : Bool) (k : ℕ) → drop (cond (not b) (1 + k) 0 + 1) (x ∷ xs) ≡ cond b xs (drop (k + 1) xs)
    dropped true k = refl
    dropped false k = let e : 1 + k + 1 ≡ suc (k + 1) = omega arith in ap (λ n. drop n (x ∷ xs)) e

split_none : {X : Type 0} (p : X → Bool) (xs : List X) → list_any p xs ≡ false → list_any (λ x. not (p x)) (after_first p xs) ≡ false
split_none p [] none = refl
split_none p (x ∷ xs) none =
    let parts = or_parts (p x) (list_any p xs) none in
    ap (list_any (λ y. not (p y))) (after_first-first p x xs ∙ ap (λ b. cond b xs (after_first p xs)) parts.0) ∙ split_none p xs parts.1

split_case : {X : Type 0} (p : X → Bool) (xs : List X) (y : X) → p y ≡ true
    → (list_any (λ x. not (p x)) (after_first p xs) ≡ false → list_any (λ x. not (p x)) (after_first p (xs ++ y ∷ [])) ≡ false)
    → (b : Bool) → list_any (λ x. not (p x)) (cond b xs (after_first p xs)) ≡ false → list_any (λ x. not (p x)) (cond b (xs ++ y ∷ []) (after_first p (xs ++ y ∷ []))) ≡ false
split_case p xs y pass so_far true none =
    list_any-append (λ x. not (p x)) xs (y ∷ []) ∙ or_from (list_any (λ x. not (p x)) xs) (not (p y) || false) none (ap (λ c. not c || false) pass)
split_case p xs y pass so_far false none = so_far none

split_push : {X : Type 0} (p : X → Bool) (xs : List X) (y : X) → p y ≡ true → list_any (λ x. not (p x)) (after_first p xs) ≡ false → list_any (λ x. not (p x)) (after_first p (xs ++ y ∷ [])) ≡ false
split_push p [] y pass none = ap (list_any (λ x. not (p x))) (after_first-first p y [] ∙ ap (λ b. cond b [] (after_first p [])) pass)
split_push p (x ∷ xs) y pass none =
    ap (list_any (λ z. not (p z))) (after_first-first p x (xs ++ y ∷ []))
    ∙ split_case p xs y pass (split_push p xs y pass) (p x) (ap (list_any (λ z. not (p z))) (sym (after_first-first p x xs)) ∙ none)

filter_none : {X : Type 0} (p : X → Bool) (xs : List X) → list_any p xs ≡ false → filter p xs ≡ []
filter_none p [] none = refl
filter_none p (x ∷ xs) none =
    let parts = or_parts (p x) (list_any p xs) none in
    ap (λ b. cond b (x ∷ filter p xs) (filter p xs)) parts.0 ∙ filter_none p xs parts.1

-- ---- the records so far

abbrev pub entries_in : List Record → ℕ
entries_in before = length (flat_map entry_pairs (column_records before))

pub record InColumns (rows names : List Word) (count : ℕ) (before : List Record) : Type 0 where
  pub under : Under 5 before
  pub known : row_names before ≡ rows
  pub header : has_header Columns before ≡ true
  pub columns : column_names before ≡ names
  pub entries : entries_in before ≡ count

-- the column of this name is not split, and has entries in these rows
pub record InColumn (rows names : List Word) (name : Word) (used : List Word) (count : ℕ) (before : List Record) : Type 0 where
  pub all : InColumns rows names count before
  pub whole : is_split before name ≡ false
  pub pairs : map (λ p. p.0) (pairs_of_column before name) ≡ used

not_marker : (m b : Bool) → (not m && b) ≡ (not m && (not m && b))
not_marker true b = refl
not_marker false b = refl

none_named : (names : List Word) (name : Word) (before : List Record) → column_names before ≡ names → is_one_of names name ≡ false → list_any (names_column name) (column_records before) ≡ false
none_named names name before columns fresh =
    let e : is_new_column before name ≡ true = is_new_column-names before name ∙ ap (λ l. not (is_one_of l name)) columns ∙ ap not fresh in
    not-true (list_any (names_column name) (column_records before)) e

pub new_column : (rows names : List Word) (name : Word) (count : ℕ) → is_one_of names name ≡ false → (before : List Record) → InColumns rows names count before → InColumn rows names name [] count before
new_column rows names name count fresh before h =
    let none : list_any (names_column name) (column_records before) ≡ false = none_named names name before h.columns fresh in
    record {
      all = h;
      whole = split_none (names_column name) (data_in Columns before)
          (any-same (names_column name) (λ r. not (is_marker r) && names_column name r) (λ r. not_marker (is_marker r) (bytes_eq name (field 0 r))) (data_in Columns before)
          ∙ any-filter (λ r. not (is_marker r)) (names_column name) (data_in Columns before)
          ∙ none);
      pairs = ap (λ l. map (λ p. p.0) (flat_map entry_pairs l)) (filter_none (names_column name) (column_records before) none);
    }

-- ---- one more entry

abbrev entry_record : ℕ → List Row → Word → ℕ × Decimal → Record
entry_record n rows name e = record_at n (entry_line rows name e)

records_push : (rows : List Row) (name : Word) (e : ℕ × Decimal) (n : ℕ) (before : List Record) → bytes_eq (row_name rows e.0) marker ≡ false
    → column_records (before ++ entry_record n rows name e ∷ []) ≡ column_records before ++ entry_record n rows name e ∷ []
records_push rows name e n before plain =
    let r = entry_record n rows name e in
    ap (filter (λ q. not (is_marker q))) (data_push Columns before r)
    ∙ filter-append (λ q. not (is_marker q)) (data_in Columns before) (r ∷ [])
    ∙ ap (λ b. column_records before ++ cond (not b) (r ∷ []) []) plain

names_push : (rows : List Row) (name : Word) (e : ℕ × Decimal) (n : ℕ) (before : List Record) → bytes_eq (row_name rows e.0) marker ≡ false
    → column_names (before ++ entry_record n rows name e ∷ []) ≡ column_names before ++ cond (is_one_of (column_names before) name) [] (name ∷ [])
names_push rows name e n before plain =
    let r = entry_record n rows name e in
    ap (λ l. distinct (map (field 0) l)) (records_push rows name e n before plain)
    ∙ ap distinct (map-append (field 0) (column_records before) (r ∷ []))
    ∙ distinct-push (map (field 0) (column_records before)) name
    ∙ ap (λ b. column_names before ++ cond b [] (name ∷ [])) (sym (is_one_of-distinct (map (field 0) (column_records before)) name))

entries_push : (rows : List Row) (name : Word) (e : ℕ × Decimal) (n : ℕ) (before : List Record) → bytes_eq (row_name rows e.0) marker ≡ false
    → entries_in (before ++ entry_record n rows name e ∷ []) ≡ entries_in before + 1
entries_push rows name e n before plain =
    let r = entry_record n rows name e in
    ap (λ l. length (flat_map entry_pairs l)) (records_push rows name e n before plain)
    ∙ ap length (flat_map-append entry_pairs (column_records before) (r ∷ []))
    ∙ length-append (flat_map entry_pairs (column_records before)) ((row_name rows e.0, decimal_text e.1) ∷ [])

entry_named : (rows : List Row) (name : Word) (e : ℕ × Decimal) (n : ℕ) → bytes_eq (row_name rows e.0) marker ≡ false → names_column name (entry_record n rows name e) ≡ true
entry_named rows name e n plain = and_from (not (bytes_eq (row_name rows e.0) marker)) (bytes_eq name name) (ap not plain) (same_word name name refl)

pairs_push : (rows : List Row) (name : Word) (e : ℕ × Decimal) (n : ℕ) (before : List Record) → bytes_eq (row_name rows e.0) marker ≡ false
    → pairs_of_column (before ++ entry_record n rows name e ∷ []) name ≡ pairs_of_column before name ++ (row_name rows e.0, decimal_text e.1) ∷ []
pairs_push rows name e n before plain =
    let r = entry_record n rows name e in
    ap (λ l. flat_map entry_pairs (filter (names_column name) l)) (records_push rows name e n before plain)
    ∙ ap (flat_map entry_pairs) (filter-append (names_column name) (column_records before) (r ∷ []))
    ∙ flat_map-append entry_pairs (filter (names_column name) (column_records before)) (filter (names_column name) (r ∷ []))
    ∙ ap (λ b. pairs_of_column before name ++ flat_map entry_pairs (cond b (r ∷ []) [])) (entry_named rows name e n plain)

pub row_named : (pairs : List Pair) (row : Word) → names_row pairs row ≡ is_one_of (map (λ p. p.0) pairs) row
row_named [] row = refl
row_named (p ∷ pairs) row = ap (λ b. bytes_eq row p.0 || b) (row_named pairs row)

pub record IsFit (rows : List Row) (name : Word) (e : ℕ × Decimal) : Type 0 where
  pub valid : AllByRecursion (λ r. IsRowName r.name) rows
  pub named : IsName name
  pub row : e.0 < length rows
  pub value : number (decimal_text e.1) ≡ Some e.1

plain_row : (rows : List Row) (name : Word) (e : ℕ × Decimal) → IsFit rows name e → bytes_eq (row_name rows e.0) marker ≡ false
plain_row rows name e fit = not-true (bytes_eq (row_name rows e.0) marker) (name_valid rows e.0 fit.row fit.valid).1

pub entry_good : (rows : List Row) (names : List Word) (name : Word) (used : List Word) (count : ℕ) (e : ℕ × Decimal) → IsFit rows name e
    → is_one_of used (row_name rows e.0) ≡ false → count < 2 ^ 22 → (not (is_one_of names name) && nat_le (2 ^ 20) (length names)) ≡ false
    → (before : List Record) (n : ℕ) → InColumn (names_of rows) names name used count before → IsGood before (record_at n (entry_line rows name e))
entry_good rows names name used count e fit fresh few room before n h =
    let r = entry_record n rows name e in
    let row = row_name rows e.0 in
    let plain : bytes_eq row marker ≡ false = plain_row rows name e fit in (
      refl,
      fine (columns_conditions deck_limits before r) (
        refl,
        (
          and_left (bytes_eq row marker) (not (is_marker_form r)) plain,
          subst (λ b. NoneHolds (cond b [] (column_conditions deck_limits before r))) (sym plain) (
            short_name name fit.named,
            (
              h.whole,
              (
                ap₂ (λ b l. b && nat_le deck_limits.columns (length l)) (is_new_column-names before name ∙ ap (λ l. not (is_one_of l name)) h.all.columns) h.all.columns ∙ room,
                (
                  ap (λ l. not (is_one_of l row)) h.all.known ∙ ap not (name_known rows e.0 fit.row),
                  (
                    ap (λ l. names_row l row) (append-nil (pairs_of_column before name)) ∙ row_named (pairs_of_column before name) row ∙ ap (λ l. is_one_of l row) h.pairs ∙ fresh,
                    (
                      ap is_none fit.value,
                      (
                        ap (λ l. nat_le deck_limits.entries (length l)) (append-nil (flat_map entry_pairs (column_records before))) ∙ ap (nat_le deck_limits.entries) h.all.entries ∙ not_reached (2 ^ 22) count few,
                        tt,
                      ),
                    ),
                  ),
                ),
              ),
            ),
          ),
        ),
      ),
    )

pub entry_after : (rows : List Row) (names : List Word) (name : Word) (used : List Word) (count : ℕ) (e : ℕ × Decimal) → IsFit rows name e
    → (before : List Record) (n : ℕ) → InColumn (names_of rows) names name used count before
    → InColumn (names_of rows) (names ++ cond (is_one_of names name) [] (name ∷ [])) name (used ++ row_name rows e.0 ∷ []) (count + 1) (before ++ record_at n (entry_line rows name e) ∷ [])
entry_after rows names name used count e fit before n h =
    let r = entry_record n rows name e in
    let row = row_name rows e.0 in
    let plain : bytes_eq row marker ≡ false = plain_row rows name e fit in
    record {
      all = record {
        under = under_push 5 5 (omega arith) before r h.all.under (omega arith) (omega arith);
        known = rows_same before r refl ∙ h.all.known;
        header = header_stays Columns before r h.all.header;
        columns = names_push rows name e n before plain ∙ ap (λ l. l ++ cond (is_one_of l name) [] (name ∷ [])) h.all.columns;
        entries = entries_push rows name e n before plain ∙ ap (λ k. k + 1) h.all.entries;
      };
      whole = ap (λ l. list_any (λ q. not (names_column name q)) (after_first (names_column name) l)) (data_push Columns before r)
          ∙ split_push (names_column name) (data_in Columns before) r (entry_named rows name e n plain) h.whole;
      pairs = ap (map (λ p. p.0)) (pairs_push rows name e n before plain)
          ∙ map-append (λ p. p.0) (pairs_of_column before name) ((row, decimal_text e.1) ∷ [])
          ∙ ap (λ l. l ++ row ∷ []) h.pairs;
    }

-- ---- one more marker line

pub marker_after : (rows names : List Word) (count : ℕ) (word : Word) (before : List Record) (n : ℕ) → InColumns rows names count before → InColumns rows names count (before ++ record_at n (marker_line word) ∷ [])
marker_after rows names count word before n h =
    let r = record_at n (marker_line word) in
    let same : column_records (before ++ r ∷ []) ≡ column_records before =
    ap (filter (λ q. not (is_marker q))) (data_push Columns before r)
    ∙ filter-append (λ q. not (is_marker q)) (data_in Columns before) (r ∷ [])
    ∙ append-nil (column_records before) in
    record {
      under = under_push 5 5 (omega arith) before r h.under (omega arith) (omega arith);
      known = rows_same before r refl ∙ h.known;
      header = header_stays Columns before r h.header;
      columns = ap (λ l. distinct (map (field 0) l)) same ∙ h.columns;
      entries = ap (λ l. length (flat_map entry_pairs l)) same ∙ h.entries;
    }
