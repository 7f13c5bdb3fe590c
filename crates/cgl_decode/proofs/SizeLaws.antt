-- The model of a deck keeps the limits.
use Rattle.std.proofs.Common.{◌≡◌, refl, sym, ap, ◌∙◌, subst, arith, ℕ, ◌+◌, ◌<◌, ◌≤◌, nat_le, Bool, true, false, cond, not, ◌&&◌, List, [], ◌∷◌, ◌++◌, append-nil, length, length-append, map, filter, filter_map, flat_map, sum_by, Option, Some, None}
use Rattle.std.specs.List.{list_any, cons_option}
use Rattle.std.proofs.lemmas.Bool.{leb-false, and_parts}
use Rattle.std.proofs.lemmas.Grind.{flat_map-append}
use Rattle.std.proofs.lemmas.List.{length-map}
use Rattle.std.proofs.lemmas.List.Sums.{sum_by-le-sum_by}
use Rattle.cgl_num.specs.NumberText.{Word}
use Rattle.cgl_model.specs.declared.mip.RowKind.{RowKind}
use Rattle.cgl_model.specs.Valid.{IsSized}
use Rattle.cgl_decode.specs.declared.kinds.Section.{Section}
use Rattle.cgl_decode.specs.declared.kinds.Section.TheVariants.{Rows, Columns}
use Rattle.cgl_decode.specs.Records.{Record, record_of, field, same_section, is_kept}
use Rattle.cgl_decode.specs.Sections.{Pair, row_in, rows, row_names, is_marker, names_column, column_records, column_names, entry_pairs}
use Rattle.cgl_decode.specs.Faults.{Limits, fault_after, row_conditions, column_conditions, columns_conditions, each_pair, entry_conditions, is_new_column}
use Rattle.cgl_decode.specs.Models.{model_of, row_of, column_of, entry_of, entries_of}
use Rattle.cgl_decode.specs.Decode.{deck_limits}
use Rattle.cgl_decode.specs.Meaning.{DecksAreSized}
use Rattle.cgl_decode.proofs.ModelLaws.{row_names-append, column_records-append, column_names-push}
use Rattle.cgl_decode.proofs.DistinctLaws.{are_distinct, sum_by-map, weight, weights, length-filter_map}
use Rattle.cgl_decode.proofs.JudgedLaws.{NoneHolds, earlier_hold, later_hold, judged_data, not_true, Stays, Found, deck_keeps}

-- a data line of the section
abbrev pub stands_in : Section → Record → Bool
stands_in section r = not r.header && same_section section r.section

-- rows

short_row : (o : Option (RowKind × Word)) → length (map (λ r. r.1) (cons_option o [])) ≤ 1
short_row None = omega arith
short_row (Some r) = omega arith

pub row_names_of : (r : Record) (b : Bool) → stands_in Rows r ≡ b → row_names (r ∷ []) ≡ cond b (map (λ r. r.1) (cons_option (row_in r.fields) [])) []
row_names_of r true is = ap (λ b. map (λ r. r.1) (filter_map (λ r. row_in r.fields) (cond b (r ∷ []) []))) is
row_names_of r false is = ap (λ b. map (λ r. r.1) (filter_map (λ r. row_in r.fields) (cond b (r ∷ []) []))) is

few_rows : (limits : Limits) (bytes : List ℕ) (before : List Record) (r : Record) → is_kept r ≡ true → fault_after limits bytes before r ≡ None → length (row_names before) ≤ limits.rows
    → (b : Bool) → stands_in Rows r ≡ b → length (row_names (before ++ r ∷ [])) ≤ limits.rows
few_rows limits bytes before r kept none so_far true is =
    let passed : NoneHolds (row_conditions limits before r) = judged_data Rows limits bytes before r kept none is in
    let room : length (row_names before) < limits.rows = leb-false limits.rows (length (row_names before)) passed.1.1.1.1.0 in
    let own : length (row_names (r ∷ [])) ≤ 1 = rw (row_names_of r true is) (short_row (row_in r.fields)) in
    omega (arith, ap length (row_names-append before (r ∷ [])), length-append (row_names before) (row_names (r ∷ [])))
few_rows limits bytes before r kept none so_far false is =
    omega (arith, ap length (row_names-append before (r ∷ [])), length-append (row_names before) (row_names (r ∷ [])), ap length (row_names_of r false is))

-- columns

pub judged_column : (limits : Limits) (bytes : List ℕ) (before : List Record) (r : Record) → is_kept r ≡ true → fault_after limits bytes before r ≡ None
    → stands_in Columns r ≡ true → is_marker r ≡ false → NoneHolds (column_conditions limits before r)
judged_column limits bytes before r kept none stands other =
    let passed : NoneHolds (columns_conditions limits before r) = judged_data Columns limits bytes before r kept none stands in
    let Passed : Bool → Type 0 = λ b. NoneHolds (cond b [] (column_conditions limits before r)) in
    subst Passed other passed.1.1

and_false : (a b : Bool) → (a && b) ≡ false → a ≡ true → b ≡ false
and_false true b both is = both
and_false false b both is = cc

few_columns : (limits : Limits) (bytes : List ℕ) (before : List Record) (r : Record) → is_kept r ≡ true → fault_after limits bytes before r ≡ None → length (column_names before) ≤ limits.columns
    → (b : Bool) → ((stands_in Columns r && not (is_marker r)) && not (list_any (names_column (field 0 r)) (column_records before))) ≡ b → length (column_names (before ++ r ∷ [])) ≤ limits.columns
few_columns limits bytes before r kept none so_far true is =
    let parts = and_parts (stands_in Columns r && not (is_marker r)) (not (list_any (names_column (field 0 r)) (column_records before))) is in
    let line = and_parts (stands_in Columns r) (not (is_marker r)) parts.0 in
    let passed : NoneHolds (column_conditions limits before r) = judged_column limits bytes before r kept none line.0 (not_true (is_marker r) line.1) in
    let full : nat_le limits.columns (length (column_names before)) ≡ false = and_false (is_new_column before (field 0 r)) (nat_le limits.columns (length (column_names before))) passed.1.1.0 parts.1 in
    let room : length (column_names before) < limits.columns = leb-false limits.columns (length (column_names before)) full in
    let pushed : column_names (before ++ r ∷ []) ≡ column_names before ++ field 0 r ∷ [] = column_names-push before r ∙ ap (λ b. column_names before ++ cond b (field 0 r ∷ []) []) is in
    omega (arith, ap length pushed, length-append (column_names before) (field 0 r ∷ []))
few_columns limits bytes before r kept none so_far false is =
    let same : column_names (before ++ r ∷ []) ≡ column_names before = column_names-push before r ∙ ap (λ b. column_names before ++ cond b (field 0 r ∷ []) []) is ∙ append-nil (column_names before) in
    omega (arith, ap length same)

-- entries

abbrev pub all_pairs : List Record → List Pair
all_pairs records = flat_map entry_pairs (column_records records)

pub all_pairs-append : (records others : List Record) → all_pairs (records ++ others) ≡ all_pairs records ++ all_pairs others
all_pairs-append records others = ap (flat_map entry_pairs) (column_records-append records others) ∙ flat_map-append entry_pairs (column_records records) (column_records others)

few_pairs : (limits : Limits) (before : List Record) (name : Word) (pairs earlier : List Pair)
    → NoneHolds (each_pair (entry_conditions limits before name) earlier pairs)
    → length (all_pairs before) + length earlier ≤ limits.entries
    → length (all_pairs before) + (length earlier + length pairs) ≤ limits.entries
few_pairs limits before name [] earlier none so_far = omega arith
few_pairs limits before name (pair ∷ pairs) earlier none so_far =
    let others = each_pair (entry_conditions limits before name) (earlier ++ pair ∷ []) pairs in
    let here : NoneHolds (entry_conditions limits before name earlier pair) = earlier_hold (entry_conditions limits before name earlier pair) others none in
    let room : length (all_pairs before ++ earlier) < limits.entries = leb-false limits.entries (length (all_pairs before ++ earlier)) here.1.1.1.0 in
    let more : length (all_pairs before) + length (earlier ++ pair ∷ []) ≤ limits.entries = omega (arith, length-append (all_pairs before) earlier, length-append earlier (pair ∷ [])) in
    let later = few_pairs limits before name pairs (earlier ++ pair ∷ []) (later_hold (entry_conditions limits before name earlier pair) others none) more in
    omega (arith, later, length-append earlier (pair ∷ []))

pub pairs_on : (r : Record) (a b : Bool) → stands_in Columns r ≡ a → is_marker r ≡ b → all_pairs (r ∷ []) ≡ cond (a && not b) (entry_pairs r) []
pairs_on r true true is mark = ap (λ a. flat_map entry_pairs (filter (λ x. not (is_marker x)) (cond a (r ∷ []) []))) is ∙ ap (λ b. flat_map entry_pairs (cond (not b) (r ∷ []) [])) mark
pairs_on r true false is mark =
    ap (λ a. flat_map entry_pairs (filter (λ x. not (is_marker x)) (cond a (r ∷ []) []))) is ∙ ap (λ b. flat_map entry_pairs (cond (not b) (r ∷ []) [])) mark ∙ append-nil (entry_pairs r)
pairs_on r false b is mark = ap (λ a. flat_map entry_pairs (filter (λ x. not (is_marker x)) (cond a (r ∷ []) []))) is

few_entries : (limits : Limits) (bytes : List ℕ) (before : List Record) (r : Record) → is_kept r ≡ true → fault_after limits bytes before r ≡ None → length (all_pairs before) ≤ limits.entries
    → (a b : Bool) → stands_in Columns r ≡ a → is_marker r ≡ b → length (all_pairs (before ++ r ∷ [])) ≤ limits.entries
few_entries limits bytes before r kept none so_far true false is mark =
    let passed : NoneHolds (column_conditions limits before r) = judged_column limits bytes before r kept none is mark in
    let few = few_pairs limits before (field 0 r) (entry_pairs r) [] passed.1.1.1 (omega arith) in
    omega (arith, few, ap length (all_pairs-append before (r ∷ [])), length-append (all_pairs before) (all_pairs (r ∷ [])), ap length (pairs_on r true false is mark))
few_entries limits bytes before r kept none so_far true true is mark =
    omega (arith, ap length (all_pairs-append before (r ∷ [])), length-append (all_pairs before) (all_pairs (r ∷ [])), ap length (pairs_on r true true is mark))
few_entries limits bytes before r kept none so_far false b is mark =
    omega (arith, ap length (all_pairs-append before (r ∷ [])), length-append (all_pairs before) (all_pairs (r ∷ [])), ap length (pairs_on r false b is mark))

pub record IsSmall (limits : Limits) (records : List Record) : Type 0 where
  pub rows : length (row_names records) ≤ limits.rows
  pub columns : length (column_names records) ≤ limits.columns
  pub entries : length (all_pairs records) ≤ limits.entries

stays_small : (limits : Limits) (bytes : List ℕ) → Stays (IsSmall limits) limits bytes
stays_small limits bytes before n section line is_line kept none so_far =
    let r = record_of n section line in
    record {
      rows = few_rows limits bytes before r kept none so_far.rows (stands_in Rows r) refl;
      columns = few_columns limits bytes before r kept none so_far.columns ((stands_in Columns r && not (is_marker r)) && not (list_any (names_column (field 0 r)) (column_records before))) refl;
      entries = few_entries limits bytes before r kept none so_far.entries (stands_in Columns r) (is_marker r) refl refl;
    }

pub rows_are : (records : List Record) → (model_of records).rows ≡ map (row_of records) (rows records)
unfolding model_of
rows_are records = refl

pub cols_are : (records : List Record) → (model_of records).cols ≡ map (column_of records) (column_names records)
unfolding model_of
cols_are records = refl

entries_weight : (records : List Record) (name : Word) → length (entries_of records name) ≤ weight name (column_records records)
entries_weight records name = length-filter_map (entry_of (row_names records)) (flat_map entry_pairs (filter (names_column name) (column_records records)))

small_sized : (records : List Record) → IsSmall deck_limits records → IsSized (model_of records)
small_sized records small = record {
  rows = omega (arith, small.rows, ap length (rows_are records), length-map (rows records) (row_of records), length-map (rows records) (λ r. r.1));
  columns = omega (arith, small.columns, ap length (cols_are records), length-map (column_names records) (column_of records));
  entries =
      let of_names = ap (sum_by (λ c. length c.entries)) (cols_are records) ∙ sum_by-map (λ c. length c.entries) (column_of records) (column_names records) in
      let few = sum_by-le-sum_by (λ name. length (entries_of records name)) (λ name. weight name (column_records records)) (column_names records) (entries_weight records) in
      let all = weights (column_names records) (are_distinct (map (field 0) (column_records records))) (column_records records) in
      omega (arith, small.entries, of_names, few, all);
}

pub decks_sized : DecksAreSized
decks_sized bytes m is =
    let found : Found (IsSmall deck_limits) m = deck_keeps (IsSmall deck_limits) deck_limits bytes (stays_small deck_limits bytes) (record { rows = omega arith; columns = omega arith; entries = omega arith }) m is in
    subst IsSized (sym found.1) (small_sized found.0 found.2)
