-- What the words of COLUMNS, RHS, RANGES and BOUNDS become when one data line more is read.
use Rattle.std.proofs.Common.{◌≡◌, refl, sym, ap, ap₂, ◌∙◌, arith, ℕ, suc, ◌+◌, Bool, true, false, cond, not, ◌&&◌, ◌||◌, true≢false, List, [], ◌∷◌, ◌++◌, append-nil, length, length-append, drop, map, filter, filter_map, flat_map, bytes_eq, codes, Option, Some, None, unwrap_or, option_map}
use Rattle.std.specs.List.{list_any, after_first, before_first, cons_option, position_or_len}
use Rattle.std.proofs.lemmas.List.Elements.{filter-append, filter_map-append}
use Rattle.std.proofs.lemmas.List.{map-append}
use Rattle.std.proofs.lemmas.List.Folds.{list_any-append}
use Rattle.std.proofs.lemmas.Grind.{flat_map-append}
use Rattle.cgl_num.specs.NumberText.{Word}
use Rattle.cgl_text.specs.Text.{is_one_of}
use Rattle.cgl_decode.specs.declared.kinds.Section.{Section}
use Rattle.cgl_decode.specs.declared.kinds.Section.TheVariants.{Bounds, Columns}
use Rattle.cgl_decode.specs.Records.{Record, field, data_in}
use Rattle.cgl_decode.specs.Sections.{Pair, bound_in, set_pairs, entry_pairs, is_marker, names_column, distinct, set_in, same_set, first_or, column_records}
use Rattle.cgl_decode.specs.Found.{is_data_of}
use Rattle.cgl_decode.specs.Models.{last_or}
use Rattle.cgl_mps.specs.Carried.{ReadColumn, ReadColumns, names_of, all_of, is_current, after_marker, with_pairs, after_more, after_new, after_line, entry_lines, column_in, is_split_in, IsColumns, ReadPairs, ReadBounds, first_set, counting_set, counting_in, after_pairs, after_bound, IsPairs, IsBounds}
use Rattle.cgl_decode.proofs.CountLaws.{distinct-push}
use Rattle.cgl_decode.proofs.NameLaws.{is_one_of-distinct, any_column, any-filter}
use Rattle.cgl_decode.proofs.DistinctLaws.{equal_words, same_word}
use Rattle.cgl_decode.proofs.ModelLaws.{before_first-first}

-- bools

or_false : (b : Bool) → (b || false) ≡ b
or_false true = refl
or_false false = refl

-- the last of a list

last_or-push : {X : Type 0} (d : X) (xs : List X) (x : X) → last_or d (xs ++ x ∷ []) ≡ x
last_or-push d [] x = refl
last_or-push d (y ∷ xs) x = last_or-push y xs x

-- whether one that fails p stands behind one that passes

after_first-first : {X : Type 0} (p : X → Bool) (x : X) (xs : List X) → after_first p (x ∷ xs) ≡ cond (p x) xs (after_first p xs)
after_first-first p x xs = dropped (p x) (position_or_len p xs)
  where
    dropped : (b : Bool) (k : ℕ) → drop (cond (not b) (1 + k) 0 + 1) (x ∷ xs) ≡ cond b xs (drop (k + 1) xs)
    dropped true k = refl
    dropped false k = let e : 1 + k + 1 ≡ suc (k + 1) = omega arith in ap (λ n. drop n (x ∷ xs)) e

abbrev is_parted : {X : Type 0} → (X → Bool) → List X → Bool
is_parted p xs = list_any (λ x. not (p x)) (after_first p xs)

none_parted : {X : Type 0} (p q : X → Bool) (b : Bool) → list_any q (cond b [] (after_first p [])) ≡ false
none_parted p q true = refl
none_parted p q false = refl

parted_case : {X : Type 0} (p : X → Bool) (xs : List X) (x : X) → is_parted p (xs ++ x ∷ []) ≡ (is_parted p xs || (list_any p xs && not (p x))) → (b : Bool)
    → list_any (λ y. not (p y)) (cond b (xs ++ x ∷ []) (after_first p (xs ++ x ∷ []))) ≡ (list_any (λ y. not (p y)) (cond b xs (after_first p xs)) || ((b || list_any p xs) && not (p x)))
parted_case p xs x so_far true = list_any-append (λ y. not (p y)) xs (x ∷ []) ∙ ap (λ c. list_any (λ y. not (p y)) xs || c) (or_false (not (p x)))
parted_case p xs x so_far false = so_far

is_parted-push : {X : Type 0} (p : X → Bool) (xs : List X) (x : X) → is_parted p (xs ++ x ∷ []) ≡ (is_parted p xs || (list_any p xs && not (p x)))
is_parted-push p [] x = ap (list_any (λ y. not (p y))) (after_first-first p x []) ∙ none_parted p (λ y. not (p y)) (p x)
is_parted-push p (y ∷ xs) x =
    ap (list_any (λ z. not (p z))) (after_first-first p y (xs ++ x ∷ []))
    ∙ parted_case p xs x (is_parted-push p xs x) (p y)
    ∙ sym (ap (λ l. list_any (λ z. not (p z)) l || ((p y || list_any p xs) && not (p x))) (after_first-first p y xs))

-- the lines before the first one that passes

first_cases : {X : Type 0} (p : X → Bool) (x y : X) (xs : List X) → before_first p (xs ++ x ∷ []) ≡ cond (list_any p xs) (before_first p xs) (xs ++ cond (p x) [] (x ∷ [])) → (b : Bool)
    → cond b [] (y ∷ before_first p (xs ++ x ∷ [])) ≡ cond (b || list_any p xs) (cond b [] (y ∷ before_first p xs)) (y ∷ (xs ++ cond (p x) [] (x ∷ [])))
first_cases p x y xs so_far true = refl
first_cases p x y xs so_far false = ap (λ l. y ∷ l) so_far ∙ inside (list_any p xs)
  where
    inside : (b : Bool) → (y ∷ cond b (before_first p xs) (xs ++ cond (p x) [] (x ∷ []))) ≡ cond b (y ∷ before_first p xs) (y ∷ (xs ++ cond (p x) [] (x ∷ [])))
    inside true = refl
    inside false = refl

before_first-push : {X : Type 0} (p : X → Bool) (xs : List X) (x : X) → before_first p (xs ++ x ∷ []) ≡ cond (list_any p xs) (before_first p xs) (xs ++ cond (p x) [] (x ∷ []))
before_first-push p [] x = before_first-first p x []
before_first-push p (y ∷ xs) x =
    before_first-first p y (xs ++ x ∷ [])
    ∙ first_cases p x y xs (before_first-push p xs x) (p y)
    ∙ sym (ap (λ l. cond (p y || list_any p xs) l (y ∷ (xs ++ cond (p x) [] (x ∷ [])))) (before_first-first p y xs))

-- a name is known where a line names it

abbrev pub known : List Record → Word → Bool
known lines name = list_any (names_column name) lines

abbrev line_names : List Record → List Word
line_names lines = map (field 0) (entry_lines lines)

known_case : (name : Word) (r : Record) (l : List Record) (rest : Bool) → rest ≡ is_one_of (map (field 0) l) name → (m : Bool)
    → ((not m && bytes_eq name (field 0 r)) || rest) ≡ is_one_of (map (field 0) (cond (not m) (r ∷ l) l)) name
known_case name r l rest e true = e
known_case name r l rest e false = ap (λ b. bytes_eq name (field 0 r) || b) e

known_by_names : (name : Word) (lines : List Record) → known lines name ≡ is_one_of (line_names lines) name
known_by_names name [] = refl
known_by_names name (r ∷ lines) = known_case name r (entry_lines lines) (known lines name) (known_by_names name lines) (is_marker r)

pub known_among : (name : Word) (lines : List Record) (names : List Word) → names ≡ distinct (line_names lines) → known lines name ≡ is_one_of names name
known_among name lines names is = known_by_names name lines ∙ sym (is_one_of-distinct (line_names lines) name) ∙ ap (λ l. is_one_of l name) (sym is)

-- a list of columns, seen through their names

abbrev ColumnOf : Type 0
ColumnOf = Word → ReadColumn

same_columns : (f g : ColumnOf) (names : List Word) → ((name : Word) → is_one_of names name ≡ true → f name ≡ g name) → map f names ≡ map g names
same_columns f g [] same = refl
same_columns f g (name ∷ names) same =
    ap₂ (λ c cs. c ∷ cs) (same name (first_found (bytes_eq name name) (is_one_of names name) (same_word name name refl)))
    (same_columns f g names (λ n found. same n (later_found (bytes_eq n name) (is_one_of names n) found)))
  where
    first_found : (a b : Bool) → a ≡ true → (a || b) ≡ true
    first_found a b e = ap (λ c. c || b) e

    later_found : (a b : Bool) → b ≡ true → (a || b) ≡ true
    later_found true b e = refl
    later_found false b e = e

names-append : (some more : List ReadColumn) → names_of (some ++ more) ≡ names_of some ++ names_of more
names-append some more = map-append (λ c. c.name) some more

names_added_behind : (columns : ReadColumns) → columns.names ≡ names_of columns.ended → columns.names ++ names_of (cons_option columns.current []) ≡ names_of (all_of columns)
names_added_behind columns is = ap (λ l. l ++ names_of (cons_option columns.current [])) is ∙ sym (names-append columns.ended (cons_option columns.current []))

split_by : (lines : List Record) (columns : ReadColumns) → IsColumns lines columns → (name : Word) → is_split_in lines name ≡ is_one_of (names_of columns.ended) name
split_by lines columns is name = is.split name ∙ ap (λ l. is_one_of l name) is.listed

-- each of these is the column of its name
abbrev Are : ColumnOf → List ReadColumn → Type 0
Are f columns = columns ≡ map f (names_of columns)

are-append : (f : ColumnOf) (some more : List ReadColumn) → Are f some → Are f more → Are f (some ++ more)
are-append f some more these those =
    ap₂ (λ a b. a ++ b) these those ∙ sym (map-append f (names_of some) (names_of more)) ∙ ap (map f) (sym (names-append some more))

are-option : (f : ColumnOf) (o : Option ReadColumn) → o ≡ option_map (λ c. f c.name) o → Are f (cons_option o [])
are-option f None is = refl
are-option f (Some c) is = ap (λ o. cons_option o []) is

pub are_all : (lines : List Record) (columns : ReadColumns) → IsColumns lines columns → all_of columns ≡ map (column_in lines) (names_of (all_of columns))
are_all lines columns is = are-append (column_in lines) columns.ended (cons_option columns.current []) is.ended (are-option (column_in lines) columns.current is.current)

-- a line that names another column, or none, changes nothing of a column that is known

entries-push : (lines : List Record) (r : Record) → entry_lines (lines ++ r ∷ []) ≡ entry_lines lines ++ cond (not (is_marker r)) (r ∷ []) []
entries-push lines r = filter-append (λ q. not (is_marker q)) lines (r ∷ [])

named_none : (name : Word) (r : Record) (m : Bool) → is_marker r ≡ m → (not m && bytes_eq name (field 0 r)) ≡ false → filter (names_column name) (cond (not m) (r ∷ []) []) ≡ []
named_none name r true is other = refl
named_none name r false is other = ap (λ b. cond b (r ∷ []) []) (ap (λ m. not m && bytes_eq name (field 0 r)) is ∙ other)

pairs_stay : (lines : List Record) (r : Record) (name : Word) → names_column name r ≡ false → filter (names_column name) (entry_lines (lines ++ r ∷ [])) ≡ filter (names_column name) (entry_lines lines)
pairs_stay lines r name other =
    ap (filter (names_column name)) (entries-push lines r)
    ∙ filter-append (names_column name) (entry_lines lines) (cond (not (is_marker r)) (r ∷ []) [])
    ∙ ap (λ l. filter (names_column name) (entry_lines lines) ++ l) (named_none name r (is_marker r) refl other)
    ∙ append-nil (filter (names_column name) (entry_lines lines))

before_stays : (lines : List Record) (r : Record) (name : Word) → known lines name ≡ true → before_first (names_column name) (lines ++ r ∷ []) ≡ before_first (names_column name) lines
before_stays lines r name is =
    before_first-push (names_column name) lines r
    ∙ ap (λ b. cond b (before_first (names_column name) lines) (lines ++ cond (names_column name r) [] (r ∷ []))) is

abbrev made : Word → List Record → List Record → ReadColumn
made name before own = record { name = name; marked = bytes_eq (last_or [] (map (field 2) (filter is_marker before))) (codes "'INTORG'"); pairs = flat_map entry_pairs own }

column_stays : (lines : List Record) (r : Record) (name : Word) → known lines name ≡ true → names_column name r ≡ false → column_in lines name ≡ column_in (lines ++ r ∷ []) name
column_stays lines r name is other = sym (ap₂ (made name) (before_stays lines r name is) (pairs_stay lines r name other))

-- of columns that are known and that the line does not name
all_stay : (lines : List Record) (r : Record) (columns : List ReadColumn)
    → ((name : Word) → is_one_of (names_of columns) name ≡ true → (known lines name ≡ true) × (names_column name r ≡ false))
    → Are (column_in lines) columns → Are (column_in (lines ++ r ∷ [])) columns
all_stay lines r columns others are =
    are ∙ same_columns (column_in lines) (column_in (lines ++ r ∷ [])) (names_of columns) (λ name found. let here = others name found in column_stays lines r name here.0 here.1)

-- a marker

abbrev AfterMarker : List Record → ReadColumns → Record → Type 0
AfterMarker lines columns r = IsColumns (lines ++ r ∷ []) (after_marker columns (field 2 r))

marker_names : (lines : List Record) (r : Record) → is_marker r ≡ true → entry_lines (lines ++ r ∷ []) ≡ entry_lines lines
marker_names lines r is = entries-push lines r ∙ ap (λ b. entry_lines lines ++ cond (not b) (r ∷ []) []) is ∙ append-nil (entry_lines lines)

names_no_column : (r : Record) (name : Word) → is_marker r ≡ true → names_column name r ≡ false
names_no_column r name is = ap (λ b. not b && bytes_eq name (field 0 r)) is

and_true : (b : Bool) → (b && true) ≡ b
and_true true = refl
and_true false = refl

split_bools : (split known ended later : Bool) → split ≡ ended → known ≡ (ended || later) → (split || (known && true)) ≡ (ended || later)
split_bools split known true later e k = ap (λ b. b || (known && true)) e
split_bools split known false later e k = ap (λ b. b || (known && true)) e ∙ and_true known ∙ k

after_marker_is : (lines : List Record) (columns : ReadColumns) (r : Record) → IsColumns lines columns → is_marker r ≡ true → AfterMarker lines columns r
after_marker_is lines columns r is mark =
    let lines' = lines ++ r ∷ [] in
    let all = all_of columns in
    let known_all : (name : Word) → known lines name ≡ is_one_of (names_of all) name = λ name. known_among name lines (names_of all) is.names in
    let same_entries = marker_names lines r mark in
    record {
      listed = names_added_behind columns is.listed;
      ended = all_stay lines r all (λ name found. (known_all name ∙ found, names_no_column r name mark)) (are_all lines columns is);
      current = refl;
      names = ap names_of (append-nil all) ∙ is.names ∙ ap (λ l. distinct (map (field 0) l)) (sym same_entries);
      split = λ name.
          is_parted-push (names_column name) lines r
          ∙ ap (λ b. is_split_in lines name || (known lines name && not b)) (names_no_column r name mark)
          ∙ split_bools (is_split_in lines name) (known lines name) (is_one_of (names_of columns.ended) name) (is_one_of (names_of (cons_option columns.current [])) name) (split_by lines columns is name)
          (known_all name ∙ ap (λ l. is_one_of l name) (names-append columns.ended (cons_option columns.current [])) ∙ list_any-append (bytes_eq name) (names_of columns.ended) (names_of (cons_option columns.current [])))
          ∙ sym (ap (λ l. is_one_of l name) (names_added_behind columns is.listed ∙ names-append columns.ended (cons_option columns.current [])) ∙ list_any-append (bytes_eq name) (names_of columns.ended) (names_of (cons_option columns.current [])));
      goes_on = λ c some. cc;
      word = sym (ap (λ l. last_or [] (map (field 2) l)) (filter-append is_marker lines (r ∷ []) ∙ ap (λ b. filter is_marker lines ++ cond b (r ∷ []) []) mark)
          ∙ ap (last_or []) (map-append (field 2) (filter is_marker lines) (r ∷ [])) ∙ last_or-push [] (map (field 2) (filter is_marker lines)) (field 2 r));
      count = is.count ∙ ap (λ l. length (flat_map entry_pairs l)) (sym same_entries);
    }

-- a line of a column

abbrev state : List Word → List ReadColumn → Option ReadColumn → Word → ℕ → ReadColumns
state names ended current word count = record { names = names; ended = ended; current = current; word = word; count = count }

names_like : (r : Record) (word name : Word) → is_marker r ≡ false → field 0 r ≡ word → names_column name r ≡ bytes_eq name word
names_like r word name mark same = ap₂ (λ m w. not m && bytes_eq name w) mark same

in_all : (ended : List ReadColumn) (current : Option ReadColumn) (name : Word)
    → is_one_of (names_of (ended ++ cons_option current [])) name ≡ (is_one_of (names_of ended) name || is_one_of (names_of (cons_option current [])) name)
in_all ended current name = ap (λ l. is_one_of l name) (names-append ended (cons_option current [])) ∙ list_any-append (bytes_eq name) (names_of ended) (names_of (cons_option current []))

-- a name that passes is no name that does not
apart : (test : Word → Bool) (name other : Word) → test name ≡ true → test other ≡ false → (b : Bool) → bytes_eq name other ≡ b → bytes_eq name other ≡ false
apart test name other passes fails true is = absurd (true≢false (sym passes ∙ ap test (equal_words name other is) ∙ fails))
apart test name other passes fails false is = is

entry_added : (lines : List Record) (r : Record) → is_marker r ≡ false → entry_lines (lines ++ r ∷ []) ≡ entry_lines lines ++ r ∷ []
entry_added lines r mark = entries-push lines r ∙ ap (λ b. entry_lines lines ++ cond (not b) (r ∷ []) []) mark

names_added : (lines : List Record) (r : Record) → is_marker r ≡ false → distinct (line_names (lines ++ r ∷ [])) ≡ distinct (line_names lines) ++ cond (known lines (field 0 r)) [] (field 0 r ∷ [])
names_added lines r mark =
    ap (λ l. distinct (map (field 0) l)) (entry_added lines r mark)
    ∙ ap distinct (map-append (field 0) (entry_lines lines) (r ∷ []))
    ∙ distinct-push (line_names lines) (field 0 r)
    ∙ ap (λ b. distinct (line_names lines) ++ cond b [] (field 0 r ∷ [])) (sym (known_by_names (field 0 r) lines))

no_marker_added : (lines : List Record) (r : Record) → is_marker r ≡ false → filter is_marker (lines ++ r ∷ []) ≡ filter is_marker lines
no_marker_added lines r mark = filter-append is_marker lines (r ∷ []) ∙ ap (λ b. filter is_marker lines ++ cond b (r ∷ []) []) mark ∙ append-nil (filter is_marker lines)

count_added : (lines : List Record) (r : Record) (count : ℕ) → is_marker r ≡ false → count ≡ length (flat_map entry_pairs (entry_lines lines))
    → count + length (entry_pairs r) ≡ length (flat_map entry_pairs (entry_lines (lines ++ r ∷ [])))
count_added lines r count mark is =
    ap (λ n. n + length (entry_pairs r)) is
    ∙ sym (ap (λ l. length (flat_map entry_pairs l)) (entry_added lines r mark)
    ∙ ap length (flat_map-append entry_pairs (entry_lines lines) (r ∷ []))
    ∙ length-append (flat_map entry_pairs (entry_lines lines)) (entry_pairs r ++ [])
    ∙ ap (λ l. length (flat_map entry_pairs (entry_lines lines)) + length l) (append-nil (entry_pairs r)))

own_pairs_added : (lines : List Record) (r : Record) (name : Word) → is_marker r ≡ false → names_column name r ≡ true
    → flat_map entry_pairs (filter (names_column name) (entry_lines (lines ++ r ∷ []))) ≡ flat_map entry_pairs (filter (names_column name) (entry_lines lines)) ++ entry_pairs r
own_pairs_added lines r name mark own =
    ap (λ l. flat_map entry_pairs (filter (names_column name) l)) (entry_added lines r mark)
    ∙ ap (flat_map entry_pairs) (filter-append (names_column name) (entry_lines lines) (r ∷ []))
    ∙ ap (λ b. flat_map entry_pairs (filter (names_column name) (entry_lines lines) ++ cond b (r ∷ []) [])) own
    ∙ flat_map-append entry_pairs (filter (names_column name) (entry_lines lines)) (r ∷ [])
    ∙ ap (λ l. flat_map entry_pairs (filter (names_column name) (entry_lines lines)) ++ l) (append-nil (entry_pairs r))

goes_on_bools : (split known ended own : Bool) → split ≡ ended → known ≡ (ended || (own || false)) → (split || (known && not own)) ≡ ended
goes_on_bools split known true own e k = ap (λ b. b || (known && not own)) e
goes_on_bools split known false true e k = ap₂ (λ a b. a || (b && false)) e k
goes_on_bools split known false false e k = ap₂ (λ a b. a || (b && true)) e k

never : (b : Bool) → (b && false) ≡ false
never true = refl
never false = refl

some_inside : (a b : ReadColumn) → Some a ≡ Some b → a ≡ b
some_inside a b e = ap (λ o. unwrap_or o a) e

abbrev column_by : Word → Word → List Pair → ReadColumn
column_by name word pairs = record { name = name; marked = bytes_eq word (codes "'INTORG'"); pairs = pairs }

more_is : (lines : List Record) (names : List Word) (ended : List ReadColumn) (c : ReadColumn) (word : Word) (count : ℕ) (r : Record)
    → IsColumns lines (state names ended (Some c) word count) → is_marker r ≡ false → bytes_eq (field 0 r) c.name ≡ true
    → IsColumns (lines ++ r ∷ []) (state names ended (Some (with_pairs (entry_pairs r) c)) word (count + length (entry_pairs r)))
more_is lines names ended c word count r is mark here =
    let same : field 0 r ≡ c.name = equal_words (field 0 r) c.name here in
    let like : (name : Word) → names_column name r ≡ bytes_eq name c.name = λ name. names_like r c.name name mark same in
    let own : names_column c.name r ≡ true = like c.name ∙ same_word c.name c.name refl in
    let knowns : (name : Word) → known lines name ≡ (is_one_of (names_of ended) name || (bytes_eq name c.name || false)) =
    λ name. known_among name lines (names_of (ended ++ c ∷ [])) is.names ∙ in_all ended (Some c) name in
    let whole : is_split_in lines c.name ≡ false = is.goes_on c refl in
    let stands : known lines c.name ≡ true = knowns c.name ∙ ap₂ (λ a b. a || (b || false)) (sym (split_by lines (state names ended (Some c) word count) is c.name) ∙ whole) (same_word c.name c.name refl) in
    let whole_after : is_split_in (lines ++ r ∷ []) c.name ≡ false =
    is_parted-push (names_column c.name) lines r ∙ ap₂ (λ a b. a || (known lines c.name && not b)) whole own ∙ never (known lines c.name) in
    record {
      listed = is.listed;
      ended = all_stay lines r ended
          (λ name found. (knowns name ∙ ap (λ b. b || (bytes_eq name c.name || false)) found, like name ∙ apart (is_split_in lines) name c.name (split_by lines (state names ended (Some c) word count) is name ∙ found) whole (bytes_eq name c.name) refl)) is.ended;
      current = ap Some
          (ap (with_pairs (entry_pairs r)) (some_inside c (column_in lines c.name) is.current)
          ∙ ap₂ (λ before pairs. column_by c.name (last_or [] (map (field 2) (filter is_marker before))) pairs) (sym (before_stays lines r c.name stands)) (sym (own_pairs_added lines r c.name mark own)));
      names = names-append ended (with_pairs (entry_pairs r) c ∷ []) ∙ sym (names-append ended (c ∷ [])) ∙ is.names
          ∙ sym (names_added lines r mark ∙ ap (λ b. distinct (line_names lines) ++ cond b [] (field 0 r ∷ [])) (ap (known lines) same ∙ stands) ∙ append-nil (distinct (line_names lines)));
      split = λ name.
          is_parted-push (names_column name) lines r
          ∙ ap (λ b. is_split_in lines name || (known lines name && not b)) (like name)
          ∙ goes_on_bools (is_split_in lines name) (known lines name) (is_one_of (names_of ended) name) (bytes_eq name c.name) (split_by lines (state names ended (Some c) word count) is name) (knowns name)
          ∙ ap (λ l. is_one_of l name) (sym is.listed);
      goes_on = λ d some. ap (λ x. is_split_in (lines ++ r ∷ []) x.name) (sym (some_inside (with_pairs (entry_pairs r) c) d some)) ∙ whole_after;
      word = is.word ∙ ap (λ l. last_or [] (map (field 2) l)) (sym (no_marker_added lines r mark));
      count = count_added lines r count mark is.count;
    }

-- a line of a new column

none_of_two : (a b : Bool) → (a || b) ≡ false → (a ≡ false) × (b ≡ false)
none_of_two true b e = absurd (true≢false e)
none_of_two false b e = (refl, e)

left_case : {X : Type 0} (p : X → Bool) (x : X) (l : List X) → p x ≡ false → filter p l ≡ [] → (c : Bool) → filter p (cond c (x ∷ l) l) ≡ []
left_case p x l fails none true = ap (λ k. cond k (x ∷ filter p l) (filter p l)) fails ∙ none
left_case p x l fails none false = none

none_left : {X : Type 0} (p q : X → Bool) (xs : List X) → list_any p xs ≡ false → filter p (filter q xs) ≡ []
none_left p q [] none = refl
none_left p q (x ∷ xs) none = let parts = none_of_two (p x) (list_any p xs) none in left_case p x (filter q xs) parts.0 (none_left p q xs parts.1) (q x)

not_among : (current : Option ReadColumn) (name : Word) → is_current current name ≡ false → is_one_of (names_of (cons_option current [])) name ≡ false
not_among None name other = refl
not_among (Some c) name other = ap (λ b. b || false) other

new_bools : (split known ended later own : Bool) → split ≡ ended → known ≡ (ended || later) → (own ≡ true → (split ≡ false) × (known ≡ false)) → (split || (known && not own)) ≡ known
new_bools split known ended later true e k new = let parts = new refl in ap₂ (λ a b. a || (b && false)) parts.0 parts.1 ∙ sym parts.1
new_bools split known true later false e k new = ap (λ a. a || (known && true)) e ∙ sym k
new_bools split known false later false e k new = ap (λ a. a || (known && true)) e ∙ and_true known

new_is : (lines : List Record) (columns : ReadColumns) (r : Record)
    → IsColumns lines columns → is_marker r ≡ false → is_current columns.current (field 0 r) ≡ false → is_split_in lines (field 0 r) ≡ false
    → IsColumns (lines ++ r ∷ []) (after_new columns (field 0 r) (entry_pairs r))
new_is lines columns r is mark other whole =
    let new = field 0 r in
    let all = all_of columns in
    let like : (name : Word) → names_column name r ≡ bytes_eq name new = λ name. names_like r new name mark refl in
    let own : names_column new r ≡ true = like new ∙ same_word new new refl in
    let known_all : (name : Word) → known lines name ≡ is_one_of (names_of all) name = λ name. known_among name lines (names_of all) is.names in
    let knowns : (name : Word) → known lines name ≡ (is_one_of (names_of columns.ended) name || is_one_of (names_of (cons_option columns.current [])) name) =
    λ name. known_all name ∙ in_all columns.ended columns.current name in
    let unknown : known lines new ≡ false = knowns new ∙ ap₂ (λ a b. a || b) (sym (split_by lines columns is new) ∙ whole) (not_among columns.current new other) in
    let whole_after : is_split_in (lines ++ r ∷ []) new ≡ false =
    is_parted-push (names_column new) lines r ∙ ap₂ (λ a b. a || (b && not (names_column new r))) whole unknown in
    record {
      listed = names_added_behind columns is.listed;
      ended = all_stay lines r all (λ name found. (known_all name ∙ found, like name ∙ apart (known lines) name new (known_all name ∙ found) unknown (bytes_eq name new) refl)) (are_all lines columns is);
      current = ap Some
          (ap₂ (column_by new)
          (is.word ∙ sym (ap (λ l. last_or [] (map (field 2) (filter is_marker l))) (before_first-push (names_column new) lines r
          ∙ ap₂ (λ a b. cond a (before_first (names_column new) lines) (lines ++ cond b [] (r ∷ []))) unknown own ∙ append-nil lines)))
          (sym (own_pairs_added lines r new mark own ∙ ap (λ l. flat_map entry_pairs l ++ entry_pairs r) (none_left (names_column new) (λ q. not (is_marker q)) lines unknown))));
      names = names-append all (column_by new columns.word (entry_pairs r) ∷ [])
          ∙ ap (λ l. l ++ new ∷ []) is.names
          ∙ sym (names_added lines r mark ∙ ap (λ b. distinct (line_names lines) ++ cond b [] (new ∷ [])) unknown);
      split = λ name.
          is_parted-push (names_column name) lines r
          ∙ ap (λ b. is_split_in lines name || (known lines name && not b)) (like name)
          ∙ new_bools (is_split_in lines name) (known lines name) (is_one_of (names_of columns.ended) name) (is_one_of (names_of (cons_option columns.current [])) name) (bytes_eq name new) (split_by lines columns is name) (knowns name)
          (λ e. let same = equal_words name new e in (ap (is_split_in lines) same ∙ whole, ap (known lines) same ∙ unknown))
          ∙ known_all name
          ∙ ap (λ l. is_one_of l name) (sym (names_added_behind columns is.listed));
      goes_on = λ d some. ap (λ x. is_split_in (lines ++ r ∷ []) x.name) (sym (some_inside (column_by new columns.word (entry_pairs r)) d some)) ∙ whole_after;
      word = is.word ∙ ap (λ l. last_or [] (map (field 2) l)) (sym (no_marker_added lines r mark));
      count = count_added lines r columns.count mark is.count;
    }

abbrev Next : List Record → Record → ReadColumns → Type 0
Next lines r columns = IsColumns (lines ++ r ∷ []) columns

going_on : (lines : List Record) (names : List Word) (ended : List ReadColumn) (current : Option ReadColumn) (word : Word) (count : ℕ) (r : Record)
    → IsColumns lines (state names ended current word count) → is_marker r ≡ false → is_split_in lines (field 0 r) ≡ false → (b : Bool) → is_current current (field 0 r) ≡ b
    → Next lines r (cond b (after_more (state names ended current word count) (entry_pairs r)) (after_new (state names ended current word count) (field 0 r) (entry_pairs r)))
going_on lines names ended current word count r is mark whole false here = new_is lines (state names ended current word count) r is mark here whole
going_on lines names ended None word count r is mark whole true here = absurd (true≢false (sym here))
going_on lines names ended (Some c) word count r is mark whole true here = more_is lines names ended c word count r is mark here

line_case : (lines : List Record) (columns : ReadColumns) (r : Record) → IsColumns lines columns → (b : Bool) → is_marker r ≡ b → (not b && is_split_in lines (field 0 r)) ≡ false
    → Next lines r (cond b (after_marker columns (field 2 r)) (cond (is_current columns.current (field 0 r)) (after_more columns (entry_pairs r)) (after_new columns (field 0 r) (entry_pairs r))))
line_case lines columns r is true mark good = after_marker_is lines columns r is mark
line_case lines columns r is false mark good = going_on lines columns.names columns.ended columns.current columns.word columns.count r is mark good (is_current columns.current (field 0 r)) refl

pub columns_in_order : (lines : List Record) (columns : ReadColumns) (r : Record) → IsColumns lines columns → (not (is_marker r) && is_split_in lines (field 0 r)) ≡ false → IsColumns (lines ++ r ∷ []) (after_line columns r)
columns_in_order lines columns r is good = line_case lines columns r is (is_marker r) refl good

-- RHS, RANGES and BOUNDS

pub the_set : (section : Section) (lines : List Record) (set : Option (Option Word)) (r : Record) → set ≡ first_set section lines → counting_set set (set_in section r) ≡ set_in section (first_or r lines)
the_set section [] set r is = ap (λ s. unwrap_or s (set_in section r)) is
the_set section (first ∷ lines) set r is = ap (λ s. unwrap_or s (set_in section r)) is

set_stays : (section : Section) (lines : List Record) (r : Record) → Some (set_in section (first_or r lines)) ≡ first_set section (lines ++ r ∷ [])
set_stays section [] r = refl
set_stays section (first ∷ lines) r = refl

counting-push : (section : Section) (lines : List Record) (r : Record)
    → counting_in section (lines ++ r ∷ []) ≡ counting_in section lines ++ cond (same_set (set_in section (first_or r lines)) (set_in section r)) (r ∷ []) []
counting-push section [] r = refl
counting-push section (first ∷ lines) r = filter-append (λ q. same_set (set_in section first) (set_in section q)) (first ∷ lines) (r ∷ [])

one_more : (b : Bool) (r : Record) → cond b (set_pairs r) [] ≡ flat_map set_pairs (cond b (r ∷ []) [])
one_more true r = sym (append-nil (set_pairs r))
one_more false r = refl

pub pairs_in_order : (section : Section) (lines : List Record) (read : ReadPairs) (r : Record) → IsPairs section lines read → IsPairs section (lines ++ r ∷ []) (after_pairs section read r)
pairs_in_order section lines read r is =
    let here = the_set section lines read.set r is.set in
    record {
      set = ap Some here ∙ set_stays section lines r;
      pairs = ap₂ (λ pairs set. pairs ++ cond (same_set set (set_in section r)) (set_pairs r) []) is.pairs here
          ∙ ap (λ l. flat_map set_pairs (counting_in section lines) ++ l) (one_more (same_set (set_in section (first_or r lines)) (set_in section r)) r)
          ∙ sym (ap (flat_map set_pairs) (counting-push section lines r)
          ∙ flat_map-append set_pairs (counting_in section lines) (cond (same_set (set_in section (first_or r lines)) (set_in section r)) (r ∷ []) []));
    }

one_bound : (b : Bool) (r : Record) → cond b (cons_option (bound_in r.fields) []) [] ≡ filter_map (λ q. bound_in q.fields) (cond b (r ∷ []) [])
one_bound true r = refl
one_bound false r = refl

pub bounds_in_order : (lines : List Record) (read : ReadBounds) (r : Record) → IsBounds lines read → IsBounds (lines ++ r ∷ []) (after_bound read r)
bounds_in_order lines read r is =
    let here = the_set Bounds lines read.set r is.set in
    record {
      set = ap Some here ∙ set_stays Bounds lines r;
      bounds = ap₂ (λ bounds set. bounds ++ cond (same_set set (set_in Bounds r)) (cons_option (bound_in r.fields) []) []) is.bounds here
          ∙ ap (λ l. filter_map (λ q. bound_in q.fields) (counting_in Bounds lines) ++ l) (one_bound (same_set (set_in Bounds (first_or r lines)) (set_in Bounds r)) r)
          ∙ sym (ap (filter_map (λ q. bound_in q.fields)) (counting-push Bounds lines r)
          ∙ filter_map-append (λ q. bound_in q.fields) (counting_in Bounds lines) (cond (same_set (set_in Bounds (first_or r lines)) (set_in Bounds r)) (r ∷ []) []));
    }

-- a name is found where it is one of them

pub any_line : (records : List Record) (name : Word) → list_any (names_column name) (column_records records) ≡ known (data_in Columns records) name
any_line records name = sym (any_column records name) ∙ any-filter (is_data_of Columns) (names_column name) records

-- names of columns, looked for among those that have ended and the one that goes on

own_name : (current : Option ReadColumn) (name : Word) → is_one_of (names_of (cons_option current [])) name ≡ is_current current name
own_name None name = refl
own_name (Some c) name = or_false (bytes_eq name c.name)

pub known_by : (lines : List Record) (columns : ReadColumns) (name : Word) → IsColumns lines columns → known lines name ≡ (is_one_of (names_of columns.ended) name || is_current columns.current name)
known_by lines columns name is =
    known_among name lines (names_of (all_of columns)) is.names
    ∙ in_all columns.ended columns.current name
    ∙ ap (λ b. is_one_of (names_of columns.ended) name || b) (own_name columns.current name)

pub no_pairs : (lines : List Record) (columns : ReadColumns) (name : Word) → IsColumns lines columns → is_current columns.current name ≡ false → is_split_in lines name ≡ false
    → flat_map entry_pairs (filter (names_column name) (entry_lines lines)) ≡ []
no_pairs lines columns name is other whole =
    let unknown : known lines name ≡ false = known_by lines columns name is ∙ ap₂ (λ a b. a || b) (sym (split_by lines columns is name) ∙ whole) other in
    ap (flat_map entry_pairs) (none_left (names_column name) (λ q. not (is_marker q)) lines unknown)

or_true : (b : Bool) → (b || true) ≡ true
or_true true = refl
or_true false = refl

pub known_if_current : (lines : List Record) (columns : ReadColumns) (name : Word) → IsColumns lines columns → is_current columns.current name ≡ true → known lines name ≡ true
known_if_current lines columns name is here =
    known_by lines columns name is ∙ ap (λ b. is_one_of (names_of columns.ended) name || b) here ∙ or_true (is_one_of (names_of columns.ended) name)

pub known_if_ended : (lines : List Record) (columns : ReadColumns) (name : Word) → IsColumns lines columns → is_current columns.current name ≡ false
    → known lines name ≡ is_one_of columns.names name
known_if_ended lines columns name is other =
    known_by lines columns name is ∙ ap (λ b. is_one_of (names_of columns.ended) name || b) other ∙ or_false (is_one_of (names_of columns.ended) name)
    ∙ ap (λ l. is_one_of l name) (sym is.listed)
