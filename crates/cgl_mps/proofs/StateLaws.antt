-- A line is judged by what is carried as it is by the records that it stands for.
use Rattle.std.proofs.Common.{◌≡◌, refl, sym, ap, ap₂, ◌∙◌, arith, ℕ, suc, ◌+◌, ◌-◌, ◌==◌, ◌<◌, nat_lt, nat_le, Bool, true, false, cond, not, ◌&&◌, ◌||◌, List, [], ◌∷◌, ◌++◌, length, length-append, map, filter, find, flat_map, bytes_eq, codes, position, Option, Some, None, is_none, is_some, option_map, option_and_then, unwrap_or, slice_get, get_or}
use Rattle.std.specs.List.{list_any, cons_option}
use Rattle.std.proofs.Math.Seq.{get_or-append_seam}
use Rattle.std.proofs.lemmas.Option.{slice_get-get_or, slice_get-map}
use Rattle.std.proofs.lemmas.List.{map-append}
use Rattle.std.proofs.lemmas.List.Folds.{list_any-append}
use Rattle.cgl_num.specs.NumberText.{Word, number}
use Rattle.cgl_text.specs.Text.{is_one_of}
use Rattle.cgl_text.specs.Conditions.{Condition, first_kind}
use Rattle.cgl_text.proofs.NameLaws.{is_found}
use Rattle.cgl_decode.proofs.EntryLaws.{position_reads}
use Rattle.cgl_decode.specs.declared.kinds.Section.{Section}
use Rattle.cgl_decode.specs.declared.kinds.Section.TheVariants.{Start, Name, Sense, Rows, Columns, Rhs, Ranges, Bounds, End, Unsupported, Unknown}
use Rattle.cgl_decode.specs.Records.{Record, field, data_in, is_kept, same_section}
use Rattle.cgl_decode.specs.Records as records
use Rattle.cgl_decode.specs.Sections.{Pair, Bound, bound_in, column_names, column_records, counting_pairs, counts_after, distinct, entry_pairs, is_marker, marker, names_column, row_in, row_names, same_set, set_in, set_pairs}
use Rattle.cgl_decode.specs.Faults.{Limits, each_pair, is_header_form, is_long, is_marker_form, is_new_column, is_sense_form, is_split, is_value_of, names_row, pairs_of_column, rank}
use Rattle.cgl_decode.specs.Faults as deck
use Rattle.cgl_decode.specs.Models.{value_at}
use Rattle.cgl_mps.specs.Carried.{ReadColumn, ReadColumns, ReadPairs, ReadBounds, IsColumns, IsPairs, all_of, column_in, entry_lines, first_set, is_split_in, names_of, own_pairs}
use Rattle.cgl_mps.specs.Carried as read
use Rattle.cgl_mps.specs.Tables.{AreColumns, AreKnown, ArePairs, AreBounds, ColumnTable, PairTable, is_marked_row}
use Rattle.cgl_mps.specs.State.{State, Stands, header_sections}
use Rattle.cgl_mps.specs.State as carried
use Rattle.cgl_decode.proofs.DistinctLaws.{equal_words}
use Rattle.cgl_decode.proofs.NameLaws.{is_one_of-distinct}
use Rattle.cgl_mps.proofs.PushLaws.{any_line, known_by, no_pairs, the_set}

-- ---- the first condition

-- a condition before two lists that agree where it does not hold
same_first : (b b' : Bool) (kind : ℕ) (rest rest' : Option ℕ) → b ≡ b' → (b' ≡ false → rest ≡ rest') → cond b (Some kind) rest ≡ cond b' (Some kind) rest'
same_first b true kind rest rest' same later = ap (λ c. cond c (Some kind) rest) same
same_first b false kind rest rest' same later = ap (λ c. cond c (Some kind) rest) same ∙ later refl

abbrev Judge : Type 0
Judge = List Pair → Pair → List Condition

-- two judges of pairs agree on a line where they do on each pair
each_alike : (judge judge' : Judge)
    → ((earlier : List Pair) (pair : Pair) (more more' : List Condition) → first_kind more ≡ first_kind more' → first_kind (judge earlier pair ++ more) ≡ first_kind (judge' earlier pair ++ more'))
    → (earlier pairs : List Pair) → first_kind (each_pair judge earlier pairs) ≡ first_kind (each_pair judge' earlier pairs)
each_alike judge judge' alike earlier [] = refl
each_alike judge judge' alike earlier (pair ∷ pairs) =
    alike earlier pair (each_pair judge (earlier ++ pair ∷ []) pairs) (each_pair judge' (earlier ++ pair ∷ []) pairs) (each_alike judge judge' alike (earlier ++ pair ∷ []) pairs)

not_false : (b : Bool) → not b ≡ false → b ≡ true
not_false true e = refl
not_false false e = cc

-- ---- headers

headers_case : (p : Section → Bool) (r : Record) (l : List Record) (rest : Bool) → list_any p (map (λ q. q.section) l) ≡ rest → (h : Bool)
    → list_any p (map (λ q. q.section) (cond h (r ∷ l) l)) ≡ ((h && p r.section) || rest)
headers_case p r l rest so_far true = ap (λ b. p r.section || b) so_far
headers_case p r l rest so_far false = so_far

any_header : (p : Section → Bool) (before : List Record) → list_any p (header_sections before) ≡ list_any (λ r. r.header && p r.section) before
any_header p [] = refl
any_header p (r ∷ before) = headers_case p r (filter (λ q. q.header) before) (list_any (λ q. q.header && p q.section) before) (any_header p before) r.header

same_header : (before : List Record) (state : State) → state.headers ≡ header_sections before → (section : Section) → carried.has_header section state ≡ records.has_header section before
same_header before state is section = ap (list_any (same_section section)) is ∙ any_header (same_section section) before

same_needs : (before : List Record) (state : State) → state.headers ≡ header_sections before → (section : Section) → carried.needs section state ≡ deck.needs section before
same_needs before state is Start = refl
same_needs before state is Name = refl
same_needs before state is Sense = refl
same_needs before state is Rows = refl
same_needs before state is Columns = same_header before state is Rows
same_needs before state is Rhs = same_header before state is Columns
same_needs before state is Ranges = same_header before state is Columns
same_needs before state is Bounds = same_header before state is Columns
same_needs before state is End = refl
same_needs before state is Unsupported = refl
same_needs before state is Unknown = refl

three : (a a' b b' c c' : Bool) → a ≡ a' → b ≡ b' → c ≡ c' → (a || b || not c) ≡ (a' || b' || not c')
three a a' b b' c c' x y z = ap₂ (λ p q. p || not q) (ap₂ (λ p q. p || q) x y) z

same_misplaced : (before : List Record) (state : State) (r : Record) → state.headers ≡ header_sections before → carried.is_misplaced state r ≡ deck.is_misplaced before r
same_misplaced before state r is =
    three _ _ _ _ _ _
    (ap (list_any (λ other. nat_lt (rank r.section) (rank other))) is ∙ any_header (λ other. nat_lt (rank r.section) (rank other)) before)
    (same_header before state is r.section)
    (same_needs before state is r.section)

headers_alike : (before : List Record) (state : State) (r : Record) → Stands before state → first_kind (carried.header_conditions state r) ≡ first_kind (deck.header_conditions before r)
headers_alike before state r s =
    ap (λ b. first_kind
    ((same_section Unsupported r.section, 9)
    ∷ (same_section Unknown r.section, 1)
    ∷ (b, 2)
    ∷ (not (is_header_form r.section r), 3)
    ∷ (same_section Name r.section && is_long (field 1 r), 11)
    ∷ []))
    (same_misplaced before state r s.headers)

-- ---- OBJSENSE and ROWS

senses_alike : (before : List Record) (state : State) (r : Record) → Stands before state → first_kind (carried.sense_conditions state r) ≡ first_kind (deck.sense_conditions before r)
senses_alike before state r s = ap (λ b. first_kind ((b, 2) ∷ (not (is_sense_form r), 3) ∷ [])) s.is_sense_given

rows_alike : (limits : Limits) (before : List Record) (state : State) (r : Record) → Stands before state → first_kind (carried.row_conditions limits state r) ≡ first_kind (deck.row_conditions limits before r)
rows_alike limits before state r s =
    ap (λ names. first_kind
    ((is_none (row_in r.fields), 3)
    ∷ (bytes_eq (field 1 r) marker, 9)
    ∷ (is_long (field 1 r), 11)
    ∷ (is_one_of names (field 1 r), 7)
    ∷ (nat_le limits.rows (length names), 12)
    ∷ []))
    s.carried.rows

-- ---- COLUMNS

last_is : {X : Type 0} (xs : List X) (x : X) → slice_get (xs ++ x ∷ []) (length (xs ++ x ∷ []) - 1) ≡ Some x
last_is xs x =
    let size : length (xs ++ x ∷ []) ≡ length xs + 1 = length-append xs (x ∷ []) in
    ap (slice_get (xs ++ x ∷ [])) (let e : length (xs ++ x ∷ []) - 1 ≡ length xs = omega (arith, size) in e)
    ∙ slice_get-get_or (xs ++ x ∷ []) (length xs) x (omega (arith, size))
    ∙ ap Some (get_or-append_seam xs x [] x)

current_case : (names ended : List Word) (goes_on : Bool) (current : Option ReadColumn) (name : Word)
    → names ≡ ended ++ names_of (cons_option current []) → goes_on ≡ is_some current
    → (goes_on && unwrap_or (option_map (bytes_eq name) (slice_get names (length names - 1))) false) ≡ read.is_current current name
current_case names ended goes_on None name is on = ap (λ b. b && unwrap_or (option_map (bytes_eq name) (slice_get names (length names - 1))) false) on
current_case names ended goes_on (Some c) name is on =
    ap₂ (λ b l. b && unwrap_or (option_map (bytes_eq name) (slice_get l (length l - 1))) false) on is
    ∙ ap (λ o. unwrap_or (option_map (bytes_eq name) o) false) (last_is ended c.name)

names_split : (columns : ReadColumns) → names_of (all_of columns) ≡ names_of columns.ended ++ names_of (cons_option columns.current [])
names_split columns = map-append (λ c. c.name) columns.ended (cons_option columns.current [])

pub current_alike : (rows : List Word) (columns : ReadColumns) (table : ColumnTable) (name : Word) → AreColumns rows columns table → carried.is_current table name ≡ read.is_current columns.current name
current_alike rows columns table name are =
    current_case table.names (names_of columns.ended) table.goes_on columns.current name (are.names ∙ names_split columns) are.goes_on

-- whether a name is one of those that have ended, by all names and the one that goes on
ended_bools : (all ended current here : Bool) → all ≡ (ended || current) → here ≡ current → (current ≡ true → ended ≡ false) → (not here && all) ≡ ended
ended_bools all true true here is same apart = let none = apart refl in cc
ended_bools all true false here is same apart = ap₂ (λ a b. not b && a) is same
ended_bools all false true here is same apart = ap₂ (λ a b. not b && a) is same
ended_bools all false false here is same apart = ap₂ (λ a b. not b && a) is same

own_name : (current : Option ReadColumn) (name : Word) → is_one_of (names_of (cons_option current [])) name ≡ read.is_current current name
own_name None name = refl
own_name (Some c) name = or_false (bytes_eq name c.name)
  where
    or_false : (b : Bool) → (b || false) ≡ b
    or_false true = refl
    or_false false = refl

goes_on_whole : (lines : List Record) (columns : ReadColumns) (name : Word) → IsColumns lines columns → read.is_current columns.current name ≡ true → is_split_in lines name ≡ false
goes_on_whole lines columns name is here = by_current columns.current refl here
  where
    by_current : (o : Option ReadColumn) → columns.current ≡ o → read.is_current o name ≡ true → is_split_in lines name ≡ false
    by_current None at none = cc
    by_current (Some c) at own = ap (is_split_in lines) (equal_words name c.name own) ∙ is.goes_on c at

ended_alike : (rows : List Word) (lines : List Record) (columns : ReadColumns) (table : ColumnTable) (name : Word) → IsColumns lines columns → AreColumns rows columns table
    → carried.has_ended table name ≡ is_split_in lines name
ended_alike rows lines columns table name is are =
    ended_bools (is_one_of table.names name) (is_one_of (names_of columns.ended) name) (read.is_current columns.current name) (carried.is_current table name)
    (ap (λ l. is_one_of l name) (are.names ∙ names_split columns)
    ∙ list_any-append (bytes_eq name) (names_of columns.ended) (names_of (cons_option columns.current []))
    ∙ ap (λ b. is_one_of (names_of columns.ended) name || b) (own_name columns.current name))
    (current_alike rows columns table name are)
    (λ here. ap (λ l. is_one_of l name) (sym is.listed) ∙ sym (is.split name) ∙ goes_on_whole lines columns name is here)
    ∙ ap (λ l. is_one_of l name) (sym is.listed)
    ∙ sym (is.split name)

-- a column that is not split is new where it does not go on
new_alike : (before : List Record) (columns : ReadColumns) (name : Word) → IsColumns (data_in Columns before) columns → is_split before name ≡ false
    → is_new_column before name ≡ not (read.is_current columns.current name)
new_alike before columns name is whole =
    ap not
    (any_line before name
    ∙ known_by (data_in Columns before) columns name is
    ∙ ap (λ b. b || read.is_current columns.current name) (ap (λ l. is_one_of l name) (sym is.listed) ∙ sym (is.split name) ∙ whole))

-- the pairs of the column of this name, which is not split
own_case : (lines : List Record) (current : Option ReadColumn) (name : Word) → current ≡ option_map (λ c. column_in lines c.name) current → read.is_current current name ≡ true
    → own_pairs current ≡ flat_map entry_pairs (filter (names_column name) (entry_lines lines))
own_case lines None name is here = cc
own_case lines (Some c) name is here = ap own_pairs is ∙ ap (λ n. flat_map entry_pairs (filter (names_column n) (entry_lines lines))) (sym (equal_words name c.name here))

-- the place of a row has that row
row_at : (rows : List Word) (row : Word) (place : ℕ) → position (bytes_eq row) rows ≡ Some place → slice_get rows place ≡ Some row
row_at rows row place at =
    let here = position_reads (bytes_eq row) rows place at in
    slice_get-get_or rows place [] here.0 ∙ ap Some (sym (equal_words row (get_or rows place []) here.1))

marked_case : (rows : List Word) (columns : ReadColumns) (table : ColumnTable) (row : Word) (found : Option ℕ) → AreColumns rows columns table → position (bytes_eq row) rows ≡ found
    → is_some found ≡ true
    → unwrap_or (option_map (is_marked_row table) found) false ≡ names_row (own_pairs columns.current) row
marked_case rows columns table row None are at known = cc
marked_case rows columns table row (Some place) are at known = are.marks place row at

entry_case : (lines : List Record) (rows : List Word) (columns : ReadColumns) (table : ColumnTable) (name row : Word)
    → IsColumns lines columns → AreColumns rows columns table → is_split_in lines name ≡ false → is_one_of rows row ≡ true → (here : Bool) → read.is_current columns.current name ≡ here
    → (here && unwrap_or (option_map (is_marked_row table) (position (bytes_eq row) rows)) false) ≡ names_row (flat_map entry_pairs (filter (names_column name) (entry_lines lines))) row
entry_case lines rows columns table name row is are whole known true at =
    marked_case rows columns table row (position (bytes_eq row) rows) are refl (is_found (bytes_eq row) rows ∙ known)
    ∙ ap (λ pairs. names_row pairs row) (own_case lines columns.current name is.current at)
entry_case lines rows columns table name row is are whole known false at = sym (ap (λ pairs. names_row pairs row) (no_pairs lines columns name is at whole))

entry_alike : (before : List Record) (state : State) (name row : Word) (s : Stands before state) → is_split before name ≡ false → is_one_of state.rows row ≡ true
    → carried.has_entry state name row ≡ names_row (pairs_of_column before name) row
entry_alike before state name row s whole known =
    ap (λ b. b && unwrap_or (option_map (is_marked_row state.columns) (position (bytes_eq row) state.rows)) false) (current_alike state.rows s.read_columns state.columns name s.columns)
    ∙ entry_case (data_in Columns before) state.rows s.read_columns state.columns name row s.carried.columns s.columns whole known (read.is_current s.read_columns.current name) refl

entries_counted : (before : List Record) (state : State) (earlier : List Pair) (s : Stands before state)
    → state.columns.count + length earlier ≡ length (flat_map entry_pairs (column_records before) ++ earlier)
entries_counted before state earlier s =
    ap (λ n. n + length earlier) (s.columns.count ∙ s.carried.columns.count) ∙ sym (length-append (flat_map entry_pairs (column_records before)) earlier)

-- a pair of a column that is not split
pair_alike : (limits : Limits) (before : List Record) (state : State) (name : Word) (s : Stands before state) → is_split before name ≡ false → (earlier : List Pair) (pair : Pair) (more more' : List Condition)
    → first_kind more ≡ first_kind more'
    → first_kind (carried.entry_conditions limits state name earlier pair ++ more) ≡ first_kind (deck.entry_conditions limits before name earlier pair ++ more')
pair_alike limits before state name s whole earlier pair more more' later =
    same_first (not (is_one_of state.rows pair.0)) (not (is_one_of (row_names before) pair.0)) 5 _ _ (ap (λ l. not (is_one_of l pair.0)) s.carried.rows)
    (λ there.
    let known : is_one_of state.rows pair.0 ≡ true = ap (λ l. is_one_of l pair.0) s.carried.rows ∙ not_false (is_one_of (row_names before) pair.0) there in
    same_first (carried.has_entry state name pair.0 || names_row earlier pair.0) (names_row (pairs_of_column before name ++ earlier) pair.0) 7 _ _
    (ap (λ b. b || names_row earlier pair.0) (entry_alike before state name pair.0 s whole known) ∙ sym (list_any-append (λ p. bytes_eq pair.0 p.0) (pairs_of_column before name) earlier))
    (λ none.
    same_first (is_none (number pair.1)) (is_none (number pair.1)) 4 _ _ refl
    (λ some. same_first (nat_le limits.entries (state.columns.count + length earlier)) (nat_le limits.entries (length (flat_map entry_pairs (column_records before) ++ earlier))) 12 _ _ (ap (nat_le limits.entries) (entries_counted before state earlier s)) (λ room. later))))

column_alike : (limits : Limits) (before : List Record) (state : State) (r : Record) → Stands before state → first_kind (carried.column_conditions limits state r) ≡ first_kind (deck.column_conditions limits before r)
column_alike limits before state r s =
    let name = field 0 r in
    same_first (is_long name) (is_long name) 11 _ _ refl
    (λ short.
    same_first (carried.has_ended state.columns name) (is_split before name) 8 _ _ (ended_alike state.rows (data_in Columns before) s.read_columns state.columns name s.carried.columns s.columns)
    (λ whole.
    same_first (not (carried.is_current state.columns name) && nat_le limits.columns (length state.columns.names)) (is_new_column before name && nat_le limits.columns (length (column_names before))) 12 _ _
    (ap₂ (λ b l. b && nat_le limits.columns (length l))
    (ap not (current_alike state.rows s.read_columns state.columns name s.columns) ∙ sym (new_alike before s.read_columns name s.carried.columns whole))
    (s.columns.names ∙ s.carried.columns.names))
    (λ room. each_alike (carried.entry_conditions limits state name) (deck.entry_conditions limits before name) (pair_alike limits before state name s whole) [] (entry_pairs r))))

columns_alike : (limits : Limits) (before : List Record) (state : State) (r : Record) → Stands before state → first_kind (carried.columns_conditions limits state r) ≡ first_kind (deck.columns_conditions limits before r)
columns_alike limits before state r s =
    same_first (not (length r.fields == 3 || length r.fields == 5)) (not (length r.fields == 3 || length r.fields == 5)) 3 _ _ refl
    (λ form.
    same_first (is_marker r && not (is_marker_form r)) (is_marker r && not (is_marker_form r)) 9 _ _ refl
    (λ known. by_marker (is_marker r)))
  where
    by_marker : (b : Bool) → first_kind (cond b [] (carried.column_conditions limits state r)) ≡ first_kind (cond b [] (deck.column_conditions limits before r))
    by_marker true = refl
    by_marker false = column_alike limits before state r s

-- ---- RHS and RANGES

named_case : (pair : Pair) (pairs : List Pair) (row : Word) → is_some (number pair.1) ≡ true → is_some (value_at pairs row) ≡ names_row pairs row → (b : Bool)
    → is_some (option_and_then (λ p. number p.1) (cond b (Some pair) (find (λ p. bytes_eq row p.0) pairs))) ≡ (b || names_row pairs row)
named_case pair pairs row valued so_far true = valued
named_case pair pairs row valued so_far false = so_far

named_value : (rows : List Word) (pairs : List Pair) (row : Word) → AreKnown rows pairs → is_some (value_at pairs row) ≡ names_row pairs row
named_value rows [] row known = refl
named_value rows (pair ∷ pairs) row known = named_case pair pairs row known.0.1 (named_value rows pairs row known.1) (bytes_eq row pair.0)

value_case : (rows : List Word) (pairs : ReadPairs) (table : PairTable) (row : Word) (found : Option ℕ) → ArePairs rows pairs table → position (bytes_eq row) rows ≡ found → is_some found ≡ true
    → option_and_then (λ place. unwrap_or (slice_get table.values place) None) found ≡ value_at pairs.pairs row
value_case rows pairs table row None are at known = cc
value_case rows pairs table row (Some place) are at known =
    ap (λ l. unwrap_or (slice_get l place) None) are.values
    ∙ ap (λ o. unwrap_or o None) (slice_get-map (value_at pairs.pairs) rows place ∙ ap (option_map (value_at pairs.pairs)) (row_at rows row place at))

pub value_alike : (rows : List Word) (pairs : ReadPairs) (table : PairTable) (row : Word) → ArePairs rows pairs table → is_one_of rows row ≡ true → carried.value_of rows table row ≡ value_at pairs.pairs row
value_alike rows pairs table row are known = value_case rows pairs table row (position (bytes_eq row) rows) are refl (is_found (bytes_eq row) rows ∙ known)

-- a row that counts, and is known
filled_case : (counts : Bool) (names rows : List Word) (pairs : ReadPairs) (table : PairTable) (earlier : List Pair) (row : Word) → ArePairs rows pairs table → rows ≡ names
    → (counts && not (is_one_of names row)) ≡ false
    → (counts && (is_some (carried.value_of rows table row) || names_row earlier row)) ≡ (counts && names_row (pairs.pairs ++ earlier) row)
filled_case false names rows pairs table earlier row are same there = refl
filled_case true names rows pairs table earlier row are same there =
    let known : is_one_of rows row ≡ true = ap (λ l. is_one_of l row) same ∙ not_false (is_one_of names row) there in
    ap (λ b. b || names_row earlier row) (ap is_some (value_alike rows pairs table row are known) ∙ named_value rows pairs.pairs row are.known)
    ∙ sym (list_any-append (λ p. bytes_eq row p.0) pairs.pairs earlier)

abbrev SetJudge : List Word → PairTable → Bool → Judge
SetJudge rows table counts earlier pair =
    (counts && not (is_one_of rows pair.0), 5) ∷ (counts && (is_some (carried.value_of rows table pair.0) || names_row earlier pair.0), 7) ∷ (is_none (number pair.1), 4) ∷ []

-- what counts of a section of pairs
set_pair_alike : (section : Section) (before : List Record) (rows : List Word) (pairs : ReadPairs) (table : PairTable) (counts : Bool)
    → rows ≡ row_names before → ArePairs rows pairs table → pairs.pairs ≡ counting_pairs section before
    → (earlier : List Pair) (pair : Pair) (more more' : List Condition) → first_kind more ≡ first_kind more'
    → first_kind (SetJudge rows table counts earlier pair ++ more)
    ≡ first_kind (deck.pair_conditions section before counts earlier pair ++ more')
set_pair_alike section before rows pairs table counts same are is earlier pair more more' later =
    same_first (counts && not (is_one_of rows pair.0)) (counts && not (is_one_of (row_names before) pair.0)) 5 _ _ (ap (λ l. counts && not (is_one_of l pair.0)) same)
    (λ there.
    same_first (counts && (is_some (carried.value_of rows table pair.0) || names_row earlier pair.0)) (counts && names_row (counting_pairs section before ++ earlier) pair.0) 7 _ _
    (filled_case counts (row_names before) rows pairs table earlier pair.0 are same there ∙ ap (λ l. counts && names_row (l ++ earlier) pair.0) is)
    (λ none. same_first (is_none (number pair.1)) (is_none (number pair.1)) 4 _ _ refl (λ some. later)))

-- whether a line counts
counts_alike : (section : Section) (before : List Record) (first first' : Option (Option Word)) (r : Record) → first' ≡ first → first ≡ first_set section (data_in section before)
    → carried.counts_in first' section r ≡ counts_after section before r
counts_alike section before first first' r same is =
    ap (λ f. carried.counts_in f section r) same ∙ ap (λ set. same_set set (set_in section r)) (the_set section (data_in section before) first r is)

abbrev SetConditions : Section → List Word → PairTable → Record → List Condition
SetConditions section rows table r =
    (nat_lt (length r.fields) 2 || nat_lt 5 (length r.fields), 3) ∷ each_pair (SetJudge rows table (carried.counts_in table.set section r)) [] (set_pairs r)

set_alike : (section : Section) (before : List Record) (rows : List Word) (pairs : ReadPairs) (table : PairTable) (r : Record)
    → rows ≡ row_names before → IsPairs section (data_in section before) pairs → ArePairs rows pairs table
    → first_kind (SetConditions section rows table r) ≡ first_kind (deck.set_conditions section before r)
set_alike section before rows pairs table r same is are =
    same_first (nat_lt (length r.fields) 2 || nat_lt 5 (length r.fields)) (nat_lt (length r.fields) 2 || nat_lt 5 (length r.fields)) 3 _ _ refl
    (λ form.
    let counts = counts_alike section before pairs.set table.set r are.set is.set in
    each_alike (SetJudge rows table (carried.counts_in table.set section r)) (deck.pair_conditions section before (carried.counts_in table.set section r)) (set_pair_alike section before rows pairs table (carried.counts_in table.set section r) same are is.pairs) [] (set_pairs r)
    ∙ ap (λ c. first_kind (each_pair (deck.pair_conditions section before c) [] (set_pairs r))) counts)

-- ---- BOUNDS

bound_case : (before : List Record) (names : List Word) (counts counts' : Bool) (found : Option Bound) (state : State) → state.columns.names ≡ column_names before → counts ≡ counts'
    → first_kind (carried.value_conditions state counts found) ≡ first_kind (deck.value_conditions before counts' found)
bound_case before names counts counts' None state same is = refl
bound_case before names counts counts' (Some bound) state same is =
    ap₂ (λ c l. first_kind ((c && not (is_one_of l bound.column), 6) ∷ (not (is_value_of bound.kind bound.value), 4) ∷ [])) is same

bounds_alike : (before : List Record) (state : State) (r : Record) → Stands before state → first_kind (carried.bound_conditions state r) ≡ first_kind (deck.bound_conditions before r)
bounds_alike before state r s =
    same_first (is_one_of (codes "SC" ∷ codes "SI" ∷ []) (field 0 r)) (is_one_of (codes "SC" ∷ codes "SI" ∷ []) (field 0 r)) 9 _ _ refl
    (λ continuous.
    same_first (is_none (bound_in r.fields)) (is_none (bound_in r.fields)) 3 _ _ refl
    (λ form.
    bound_case before state.columns.names (carried.counts_in state.bounds.set Bounds r) (counts_after Bounds before r) (bound_in r.fields) state
    (s.columns.names ∙ s.carried.columns.names)
    (counts_alike Bounds before s.read_bounds.set state.bounds.set r s.bounds.set s.carried.bounds.set)))

-- ---- a line

data_alike : (section : Section) (limits : Limits) (before : List Record) (state : State) (r : Record) → Stands before state
    → first_kind (carried.data_conditions section limits state r) ≡ first_kind (deck.data_conditions section limits before r)
data_alike Start limits before state r s = refl
data_alike Name limits before state r s = refl
data_alike Sense limits before state r s = senses_alike before state r s
data_alike Rows limits before state r s = rows_alike limits before state r s
data_alike Columns limits before state r s = columns_alike limits before state r s
data_alike Rhs limits before state r s = set_alike Rhs before state.rows s.read_rhs state.rhs r s.carried.rows s.carried.rhs s.rhs
data_alike Ranges limits before state r s = set_alike Ranges before state.rows s.read_ranges state.ranges r s.carried.rows s.carried.ranges s.ranges
data_alike Bounds limits before state r s = bounds_alike before state r s
data_alike End limits before state r s = refl
data_alike Unsupported limits before state r s = refl
data_alike Unknown limits before state r s = refl

kept_case : (limits : Limits) (before : List Record) (state : State) (r : Record) → Stands before state → (kept header : Bool)
    → first_kind (cond kept (cond header (carried.header_conditions state r) (carried.data_conditions r.section limits state r)) [])
    ≡ first_kind (cond kept (cond header (deck.header_conditions before r) (deck.data_conditions r.section limits before r)) [])
kept_case limits before state r s true true = headers_alike before state r s
kept_case limits before state r s true false = data_alike r.section limits before state r s
kept_case limits before state r s false header = refl

pub judged_alike : (limits : Limits) (before : List Record) (state : State) (r : Record) → Stands before state
    → first_kind (carried.line_conditions limits state r) ≡ first_kind ((nat_lt 4096 r.bytes, 11) ∷ deck.conditions limits before r)
judged_alike limits before state r s = same_first (nat_lt 4096 r.bytes) (nat_lt 4096 r.bytes) 11 _ _ refl (λ short. kept_case limits before state r s (is_kept r) r.header)
