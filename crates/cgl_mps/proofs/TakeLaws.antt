-- One more line without a fault: what is carried stands for one more record.
use Rattle.std.proofs.Common.{◌≡◌, refl, sym, ap, ap₂, ◌∙◌, subst, ℕ, nat_lt, Bool, true, false, cond, not, ◌&&◌, ◌||◌, List, [], ◌∷◌, ◌++◌, append-nil, length, map, filter, filter_map, bytes_eq, Option, Some, None, is_none, is_some, option_map, unwrap_or, slice_get}
use Rattle.std.specs.List.{list_any, cons_option, AllByRecursion}
use Rattle.std.proofs.lemmas.List.{map-append}
use Rattle.std.proofs.lemmas.List.Elements.{filter-append, filter_map-append}
use Rattle.std.proofs.lemmas.List.Folds.{list_any-append}
use Rattle.cgl_num.specs.NumberText.{Word, number}
use Rattle.cgl_text.specs.Text.{is_one_of}
use Rattle.cgl_text.specs.Conditions.{Condition, first_kind}
use Rattle.cgl_model.specs.declared.mip.RowKind.{RowKind}
use Rattle.cgl_model.specs.Valid.{AreDistinct}
use Rattle.cgl_decode.specs.declared.kinds.Section.{Section}
use Rattle.cgl_decode.specs.declared.kinds.Section.TheVariants.{Rows, Columns, Rhs, Ranges, Bounds}
use Rattle.cgl_decode.specs.Records.{Record, field, data_in, is_kept, same_section}
use Rattle.cgl_decode.specs.Sections.{Pair, Bound, bound_in, column_names, column_records, counts_after, distinct, entry_pairs, is_marker, row_in, row_kind, row_names, rows, sense_in, senses, set_in, same_set, set_pairs}
use Rattle.cgl_decode.specs.Faults.{Limits, each_pair, is_split, names_row, no_word}
use Rattle.cgl_decode.specs.Faults as deck
use Rattle.cgl_decode.specs.Found.{is_data_of}
use Rattle.cgl_decode.specs.Models.{last_or, name_in}
use Rattle.cgl_mps.specs.Carried.{ReadColumns, ReadPairs, ReadBounds, IsCarried, counting_set, first_set, named_in, names_of, splits}
use Rattle.cgl_mps.specs.Tables.{AreBounds, AreColumns, AreKnown, ArePairs, IsKnown, IsNext, StandOnce}
use Rattle.cgl_mps.specs.State.{State, Stands, TakesHead, TakesTables, AreNextPairs, IsNextBound, IsNextRow, header_sections, maximises, next_bounds, next_columns, next_pairs, row_on, says_maximise}
use Rattle.cgl_decode.proofs.DistinctLaws.{are_distinct, distinct_push, flip_differ, not_false, or_false_parts}
use Rattle.cgl_decode.proofs.JudgedLaws.{NoneHolds, none_hold, earlier_hold, later_hold, same_sections}
use Rattle.cgl_decode.proofs.ModelLaws.{rows-append}
use Rattle.cgl_mps.proofs.CarriedLaws.{carried_on}
use Rattle.cgl_mps.proofs.PushLaws.{the_set}

-- ---- names that stand once

stays_case : (word first : Word) (names : List Word) → bytes_eq first word ≡ false → filter (λ other. not (bytes_eq other word)) names ≡ names
    → (b : Bool) → bytes_eq first word ≡ b → cond (not b) (first ∷ filter (λ other. not (bytes_eq other word)) names) (filter (λ other. not (bytes_eq other word)) names) ≡ first ∷ names
stays_case word first names differ so_far true is = let no : true ≡ false = sym is ∙ differ in cc
stays_case word first names differ so_far false is = ap (λ l. first ∷ l) so_far

none_removed : (word : Word) (names : List Word) → is_one_of names word ≡ false → filter (λ other. not (bytes_eq other word)) names ≡ names
none_removed word [] none = refl
none_removed word (first ∷ names) none =
    let parts = or_false_parts (bytes_eq word first) (is_one_of names word) none in
    stays_case word first names (flip_differ word first parts.0) (none_removed word names parts.1) (bytes_eq first word) refl

pub stand_once : (names : List Word) → AreDistinct names → StandOnce names
stand_once [] all = refl
stand_once (name ∷ names) all =
    ap (λ l. name ∷ l) (ap (filter (λ other. not (bytes_eq other name))) (stand_once names all.1) ∙ none_removed name names (not_false (is_one_of names name) all.0))

-- ---- all but the tables

headers-push : (before : List Record) (r : Record) → header_sections (before ++ r ∷ []) ≡ header_sections before ++ cond r.header (r.section ∷ []) []
headers-push before r =
    ap (map (λ q. q.section)) (filter-append (λ q. q.header) before (r ∷ []))
    ∙ map-append (λ q. q.section) (filter (λ q. q.header) before) (cond r.header (r ∷ []) [])
    ∙ ap (λ l. header_sections before ++ l) (by_header r.header)
  where
    by_header : (b : Bool) → map (λ q. q.section) (cond b (r ∷ []) []) ≡ cond b (r.section ∷ []) []
    by_header true = refl
    by_header false = refl

last-push : (xs : List Word) (d : Word) (o : Option Word) → last_or d (xs ++ cons_option o []) ≡ unwrap_or o (last_or d xs)
last-push [] d None = refl
last-push [] d (Some x) = refl
last-push (y ∷ xs) d o = last-push xs y o

given-push : (words : List Word) (o : Option Word) → not (no_word (words ++ cons_option o [])) ≡ (not (no_word words) || is_some o)
given-push [] None = refl
given-push [] (Some w) = refl
given-push (w ∷ words) o = refl

or_false : (b : Bool) → (b || false) ≡ b
or_false true = refl
or_false false = refl

maximise-push : (words : List Word) (o : Option Word) → list_any says_maximise (words ++ cons_option o []) ≡ (list_any says_maximise words || unwrap_or (option_map says_maximise o) false)
maximise-push words o = list_any-append says_maximise words (cons_option o []) ∙ ap (λ b. list_any says_maximise words || b) (own o)
  where
    own : (o : Option Word) → list_any says_maximise (cons_option o []) ≡ unwrap_or (option_map says_maximise o) false
    own None = refl
    own (Some w) = or_false (says_maximise w)

-- ---- what a line without a fault says

first_none : (b : Bool) (kind : ℕ) (rest : Option ℕ) → cond b (Some kind) rest ≡ None → (b ≡ false) × (rest ≡ None)
first_none true kind rest none = cc
first_none false kind rest none = (refl, none)

and_parts : (a b : Bool) → (a && b) ≡ true → (a ≡ true) × (b ≡ true)
and_parts true b e = (refl, e)
and_parts false b e = cc

not_true : (b : Bool) → not b ≡ true → b ≡ false
not_true true e = cc
not_true false e = refl

not_none : {X : Type 0} (o : Option X) → is_none o ≡ false → is_some o ≡ true
not_none None e = cc
not_none (Some x) e = refl

known_of : (b : Bool) → not b ≡ false → b ≡ true
known_of true e = refl
known_of false e = cc

-- a data line of the section, which has fields, is judged by the section's conditions
judged : (limits : Limits) (before : List Record) (r : Record) (section : Section) → is_kept r ≡ true → first_kind ((nat_lt 4096 r.bytes, 11) ∷ deck.conditions limits before r) ≡ None
    → is_data_of section r ≡ true → NoneHolds (deck.data_conditions section limits before r)
judged limits before r section kept none stands =
    let parts = and_parts (not r.header) (same_section section r.section) stands in
    none_hold (deck.data_conditions section limits before r)
    (ap (λ s. first_kind (deck.data_conditions s limits before r)) (same_sections section r.section parts.1)
    ∙ ap (λ h. first_kind (cond h (deck.header_conditions before r) (deck.data_conditions r.section limits before r))) (sym (not_true r.header parts.0))
    ∙ ap (λ b. first_kind (cond b (cond r.header (deck.header_conditions before r) (deck.data_conditions r.section limits before r)) [])) (sym kept)
    ∙ (first_none (nat_lt 4096 r.bytes) 11 (first_kind (deck.conditions limits before r)) none).1)

abbrev Judge : Type 0
Judge = List Pair → Pair → List Condition

-- pairs of which each is known where its judge finds no fault
all_known : (known : List Word) (judge : Judge) → ((earlier : List Pair) (pair : Pair) → NoneHolds (judge earlier pair) → IsKnown known pair)
    → (earlier pairs : List Pair) → NoneHolds (each_pair judge earlier pairs) → AreKnown known pairs
all_known known judge each earlier [] none = tt
all_known known judge each earlier (pair ∷ pairs) none = (
  each earlier pair (earlier_hold (judge earlier pair) (each_pair judge (earlier ++ pair ∷ []) pairs) none),
  all_known known judge each (earlier ++ pair ∷ []) pairs (later_hold (judge earlier pair) (each_pair judge (earlier ++ pair ∷ []) pairs) none),
)

known_entry : (limits : Limits) (before : List Record) (state : State) (name : Word) → Stands before state → (earlier : List Pair) (pair : Pair)
    → NoneHolds (deck.entry_conditions limits before name earlier pair) → IsKnown state.rows pair
known_entry limits before state name s earlier pair none =
    (ap (λ l. is_one_of l pair.0) s.carried.rows ∙ known_of _ none.0, not_none (number pair.1) none.1.1.0)

marker_case : (limits : Limits) (before : List Record) (r : Record) → is_marker r ≡ false → NoneHolds (cond (is_marker r) [] (deck.column_conditions limits before r)) → NoneHolds (deck.column_conditions limits before r)
marker_case limits before r mark none = subst (λ (b : Bool). NoneHolds (cond b [] (deck.column_conditions limits before r))) mark none

next_entries : (limits : Limits) (before : List Record) (state : State) (r : Record) (s : Stands before state)
    → NoneHolds (deck.data_conditions Columns limits before r) → is_marker r ≡ false → IsNext state.rows s.read_columns r
next_entries limits before state r s none mark =
    let own = marker_case limits before r mark none.1.1 in (
      ap (λ l. is_one_of l (field 0 r)) (sym s.carried.columns.listed) ∙ sym (s.carried.columns.split (field 0 r)) ∙ own.1.0,
      all_known state.rows (deck.entry_conditions limits before (field 0 r)) (known_entry limits before state (field 0 r) s) [] (entry_pairs r) own.1.1.1,
    )

known_pair : (section : Section) (before : List Record) (state : State) (counts : Bool) → Stands before state → counts ≡ true → (earlier : List Pair) (pair : Pair)
    → NoneHolds (deck.pair_conditions section before counts earlier pair) → IsKnown state.rows pair
known_pair section before state counts s does earlier pair none =
    (ap (λ l. is_one_of l pair.0) s.carried.rows ∙ known_of _ (ap (λ c. c && not (is_one_of (row_names before) pair.0)) (sym does) ∙ none.0), not_none (number pair.1) none.1.1.0)

next_set : (section : Section) (limits : Limits) (before : List Record) (state : State) (r : Record) (read : ReadPairs) → Stands before state → read.set ≡ first_set section (data_in section before)
    → NoneHolds (deck.set_conditions section before r) → AreNextPairs section state.rows read r
next_set section limits before state r read s first none does =
    let counts = sym (ap (λ set. same_set set (set_in section r)) (the_set section (data_in section before) read.set r first)) ∙ does in
    all_known state.rows (deck.pair_conditions section before (counts_after section before r)) (known_pair section before state (counts_after section before r) s counts) [] (set_pairs r) none.1

next_bound : (limits : Limits) (before : List Record) (state : State) (r : Record) (s : Stands before state)
    → NoneHolds (deck.data_conditions Bounds limits before r) → IsNextBound state.columns.names s.read_bounds r
next_bound limits before state r s none does bound is =
    let counts = sym (ap (λ set. same_set set (set_in Bounds r)) (the_set Bounds (data_in Bounds before) s.read_bounds.set r s.carried.bounds.set)) ∙ does in
    let own : NoneHolds (deck.value_conditions before (counts_after Bounds before r) (Some bound)) =
    subst (λ (o : Option Bound). NoneHolds (deck.value_conditions before (counts_after Bounds before r) o)) is none.1.1 in
    ap (λ l. is_one_of l bound.column) (s.columns.names ∙ s.carried.columns.names)
    ∙ known_of _ (ap (λ c. c && not (is_one_of (column_names before) bound.column)) (sym counts) ∙ own.0)

-- ---- rows

row_case : (before : List Record) (r : Record) (b : Bool) → is_data_of Rows r ≡ b → rows (r ∷ []) ≡ cond b (cons_option (row_in r.fields) []) []
row_case before r true is = ap (λ b. filter_map (λ q. row_in q.fields) (cond b (r ∷ []) [])) is
row_case before r false is = ap (λ b. filter_map (λ q. row_in q.fields) (cond b (r ∷ []) [])) is

rows-push : (before : List Record) (r : Record) → rows (before ++ r ∷ []) ≡ rows before ++ row_on r
rows-push before r = rows-append before (r ∷ []) ∙ ap (λ l. rows before ++ l) (row_case before r (is_data_of Rows r) refl)

kinds-push : (before : List Record) (r : Record) → map (λ row. row.0) (rows (before ++ r ∷ [])) ≡ map (λ row. row.0) (rows before) ++ map (λ row. row.0) (row_on r)
kinds-push before r = ap (map (λ row. row.0)) (rows-push before r) ∙ map-append (λ row. row.0) (rows before) (row_on r)

names_on : (r : Record) (b : Bool) → map (λ row. row.1) (cond b (cons_option (row_in r.fields) []) []) ≡ cond b (named_in r.fields) []
names_on r true = refl
names_on r false = refl

-- the fields of a row: a kind and a name
row_name : (fields : List Word) (row : RowKind × Word) → row_in fields ≡ Some row → row.1 ≡ unwrap_or (slice_get fields 1) []
row_name [] row is = cc
row_name (kind ∷ []) row is = cc
row_name (kind ∷ (name ∷ [])) row is = named (row_kind kind) is
  where
    named : (o : Option RowKind) → option_map (λ k. (k, name)) o ≡ Some row → row.1 ≡ name
    named None e = cc
    named (Some k) e = cc
row_name (kind ∷ (name ∷ (more ∷ fields))) row is = cc

once_case : (names : List Word) (fields : List Word) (o : Option (RowKind × Word)) → row_in fields ≡ o → AreDistinct names → is_one_of names (unwrap_or (slice_get fields 1) []) ≡ false
    → AreDistinct (names ++ map (λ row. row.1) (cons_option o []))
once_case names fields None is all new = subst AreDistinct (sym (append-nil names)) all
once_case names fields (Some row) is all new = distinct_push names row.1 all (ap (is_one_of names) (row_name fields row is) ∙ new)

rows_once : (names : List Word) (r : Record) (b : Bool) → AreDistinct names → (b ≡ true → is_one_of names (field 1 r) ≡ false)
    → AreDistinct (names ++ map (λ row. row.1) (cond b (cons_option (row_in r.fields) []) []))
rows_once names r true all new = once_case names r.fields (row_in r.fields) refl all (new refl)
rows_once names r false all new = subst AreDistinct (sym (append-nil names)) all

-- a line of a row, and of a new name
pub next_row : (limits : Limits) (before : List Record) (state : State) (r : Record) → Stands before state → is_kept r ≡ true → first_kind ((nat_lt 4096 r.bytes, 11) ∷ deck.conditions limits before r) ≡ None
    → r.header ≡ false → r.section ≡ Rows → IsNextRow state r
next_row limits before state r s kept none data_line at =
    let all = judged limits before r Rows kept none (ap₂ (λ h q. not h && same_section Rows q) data_line at) in
    record { formed = all.0; fresh = ap (λ l. is_one_of l (field 1 r)) s.carried.rows ∙ all.1.1.1.0 }

-- ---- one more record

split_case : (limits : Limits) (before : List Record) (r : Record) → is_kept r ≡ true → first_kind ((nat_lt 4096 r.bytes, 11) ∷ deck.conditions limits before r) ≡ None
    → (a b : Bool) → is_data_of Columns r ≡ a → is_marker r ≡ b → (a && (not b && is_split before (field 0 r))) ≡ false
split_case limits before r kept none false b stands mark = refl
split_case limits before r kept none true true stands mark = refl
split_case limits before r kept none true false stands mark =
    let all = judged limits before r Columns kept none stands in
    let own = marker_case limits before r mark all.1.1 in
    own.1.0

pub stands_on : (limits : Limits) (before : List Record) (r : Record) (old new : State)
    → Stands before old → is_kept r ≡ true → first_kind ((nat_lt 4096 r.bytes, 11) ∷ deck.conditions limits before r) ≡ None
    → TakesHead r old new → TakesTables r old new → Stands (before ++ r ∷ []) new
stands_on limits before r old new s kept none head tables =
    let judge : (section : Section) → is_data_of section r ≡ true → NoneHolds (deck.data_conditions section limits before r) = λ section stands. judged limits before r section kept none stands in
    let once : StandOnce old.rows = stand_once old.rows s.rows_once in
    let columns_once : StandOnce old.columns.names =
    stand_once old.columns.names (subst AreDistinct (sym (s.columns.names ∙ s.carried.columns.names)) (are_distinct (map (field 0) (column_records before)))) in
    record {
      headers = head.headers ∙ ap (λ l. l ++ cond r.header (r.section ∷ []) []) s.headers ∙ sym (headers-push before r);
      name = head.name ∙ ap (unwrap_or (name_in r)) s.name ∙ sym (ap (last_or []) (filter_map-append name_in before (r ∷ [])) ∙ last-push (filter_map name_in before) [] (name_in r));
      is_sense_given = head.is_sense_given ∙ ap (λ b. b || is_some (sense_in r)) s.is_sense_given
          ∙ sym (ap (λ l. not (no_word l)) (filter_map-append sense_in before (r ∷ [])) ∙ given-push (senses before) (sense_in r));
      maximise = head.maximise ∙ ap (λ b. b || maximises r) s.maximise
          ∙ sym (ap (list_any says_maximise) (filter_map-append sense_in before (r ∷ [])) ∙ maximise-push (senses before) (sense_in r));
      kinds = tables.kinds ∙ ap (λ l. l ++ map (λ row. row.0) (row_on r)) s.kinds ∙ sym (kinds-push before r);
      rows_once = subst AreDistinct (sym tables.rows) (rows_once old.rows r (is_data_of Rows r) s.rows_once
          (λ stands. let own = judge Rows stands in ap (λ l. is_one_of l (field 1 r)) s.carried.rows ∙ own.1.1.1.0));
      read_columns = next_columns r s.read_columns;
      read_rhs = next_pairs Rhs r s.read_rhs;
      read_ranges = next_pairs Ranges r s.read_ranges;
      read_bounds = next_bounds r s.read_bounds;
      carried = carried_on before (before ++ r ∷ []) r old.rows new.rows s.read_columns (next_columns r s.read_columns) s.read_rhs (next_pairs Rhs r s.read_rhs) s.read_ranges (next_pairs Ranges r s.read_ranges) s.read_bounds (next_bounds r s.read_bounds)
          s.carried (split_case limits before r kept none (is_data_of Columns r) (is_marker r) refl refl) refl
          (record { rows = tables.rows ∙ ap (λ l. old.rows ++ l) (names_on r (is_data_of Rows r)); columns = refl; rhs = refl; ranges = refl; bounds = refl });
      columns = tables.columns s.read_columns s.columns (λ stands mark. next_entries limits before old r s (judge Columns stands) mark);
      rhs = tables.rhs s.read_rhs once s.rhs (λ stands. next_set Rhs limits before old r s.read_rhs s s.carried.rhs.set (judge Rhs stands));
      ranges = tables.ranges s.read_ranges once s.ranges (λ stands. next_set Ranges limits before old r s.read_ranges s s.carried.ranges.set (judge Ranges stands));
      bounds = tables.bounds s.read_columns s.columns (λ stands mark. next_entries limits before old r s (judge Columns stands) mark) s.read_bounds columns_once s.bounds (λ stands. next_bound limits before old r s (judge Bounds stands));
    }
