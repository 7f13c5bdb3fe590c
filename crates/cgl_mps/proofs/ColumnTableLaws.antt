-- What a table of columns says after a row, a column or an entry more.
use Rattle.std.proofs.Common.{◌≡◌, refl, sym, ap, ap₂, ◌∙◌, subst, arith, ℕ, zero, suc, ◌+◌, ◌-◌, ◌<◌, ◌≤◌, ◌≢◌, Bool, true, false, cond, eqb, ltb, ◌&&◌, ◌||◌, true≢false, List, [], ◌∷◌, ◌++◌, append-nil, append_assoc, length, length-append, set, get_or, take, drop, map, filter_map, position, bytes_eq, codes, Option, Some, None, is_some, unwrap_or, option_map, option_and_then, slice_get, ◌⊎◌, inl, inr}
use denote.Ref.{Bor}
use Rattle.std.specs.List.{list_any, cons_option, position_from, AllByRecursion}
use Rattle.std.proofs.lemmas.Bool.{and_left, and_right, and_from, eq-eqb, ne_eqb, or_left, or_right, or_from, or_parts, lt-ltb, le-ltb}
use Rattle.std.proofs.lemmas.Iterator.Adapters.{position_from-zero}
use Rattle.std.proofs.lemmas.List.{map-append, get_or_push, get_or-set_same, get_or-set_other, length-set, set_at, take_rest}
use Rattle.std.proofs.lemmas.List.Elements.{filter_map-append, All-from_recursion, recursion_from_All, All-set, All-push, All-append, All-weaker}
use Rattle.std.proofs.lemmas.List.Folds.{list_any-append}
use Rattle.std.proofs.lemmas.List.Quantifiers.{position-Some}
use Rattle.std.proofs.lemmas.Option.{unwrap_or-slice_get, same_Some, slice_get_past}
use Rattle.cgl_num.specs.Decimal.{Decimal}
use Rattle.cgl_num.specs.NumberText.{Word, number}
use Rattle.cgl_text.specs.Text.{is_one_of}
use Rattle.cgl_text.specs.Seen.{words}
use Rattle.cgl_text.proofs.NameLaws.{is_found}
use Rattle.cgl_decode.specs.Records.{Record, field}
use Rattle.cgl_decode.specs.Sections.{Pair, entry_pairs, is_marker, pairs_of}
use Rattle.cgl_decode.specs.Faults.{names_row}
use Rattle.cgl_decode.specs.Models.{entry_of}
use Rattle.cgl_decode.proofs.DistinctLaws.{equal_words, same_word}
use Rattle.cgl_mps.specs.Carried.{ReadColumn, ReadColumns, names_of, all_of, is_current, own_pairs, with_pairs, after_marker, after_more, begun, after_new, after_line}
use Rattle.cgl_mps.specs.Tables.{ColumnTable, is_marked_row, AreColumns, AreKnown, IsKnown, IsNext}

-- the first place of a name, where a name comes in behind

abbrev or_behind : Option ℕ → Bool → ℕ → Option ℕ
or_behind (Some i) here n = Some i
or_behind None here n = cond here (Some n) None

behind_case : (b : Bool) (m : ℕ) (later : Option ℕ) (here : Bool) (n : ℕ) → cond b (Some m) (or_behind later here n) ≡ or_behind (cond b (Some m) later) here n
behind_case true m later here n = refl
behind_case false m later here n = refl

last_case : (b : Bool) (n m : ℕ) → n ≡ m → cond b (Some n) None ≡ or_behind None b m
last_case true n m e = ap Some e
last_case false n m e = refl

push_from : {X : Type 0} (p : X → Bool) (n : ℕ) (xs : List X) (x : X) → position_from p n (xs ++ x ∷ []) ≡ or_behind (position_from p n xs) (p x) (n + length xs)
push_from p n [] x = last_case (p x) n (n + 0) (omega arith)
push_from p n (y ∷ ys) x =
    let e : (n + 1) + length ys ≡ n + length (y ∷ ys) = omega arith in
    ap (λ r. cond (p y) (Some n) r) (push_from p (n + 1) ys x ∙ ap (λ m. or_behind (position_from p (n + 1) ys) (p x) m) e)
    ∙ behind_case (p y) n (position_from p (n + 1) ys) (p x) (n + length (y ∷ ys))

position-push : {X : Type 0} (p : X → Bool) (xs : List X) (x : X) → position p (xs ++ x ∷ []) ≡ or_behind (position p xs) (p x) (length xs)
position-push p xs x =
    let e : 0 + length xs ≡ length xs = omega arith in
    position_from-zero p (xs ++ x ∷ []) ∙ push_from p 0 xs x ∙ ap (λ m. or_behind (position_from p 0 xs) (p x) m) e ∙ ap (λ r. or_behind r (p x) (length xs)) (sym (position_from-zero p xs))

-- either it is found before, or it is this name
found_case : (old : Option ℕ) (here : Bool) (n place : ℕ) → or_behind old here n ≡ Some place → (old ≡ Some place) ⊎ ((old ≡ None) × (here ≡ true) × (n ≡ place))
found_case (Some i) here n place found = inl found
found_case None true n place found = inr (refl, refl, same_Some n place found)
found_case None false n place found = cc

position_stays : (rows : List Word) (name row : Word) → is_one_of rows row ≡ true → position (bytes_eq row) (rows ++ name ∷ []) ≡ position (bytes_eq row) rows
position_stays rows name row there = position-push (bytes_eq row) rows name ∙ by (position (bytes_eq row) rows) (is_found (bytes_eq row) rows ∙ there)
  where
    by : (found : Option ℕ) → is_some found ≡ true → or_behind found (bytes_eq row name) (length rows) ≡ found
    by (Some i) is = refl
    by None is = cc

-- pairs that are known stay so where a row comes in behind

pair_known : (rows : List Word) (name : Word) (pair : Pair) → IsKnown rows pair → IsKnown (rows ++ name ∷ []) pair
pair_known rows name pair known = (list_any-append (bytes_eq pair.0) rows (name ∷ []) ∙ or_left (is_one_of rows pair.0) (is_one_of (name ∷ []) pair.0) known.0, known.1)

pairs_known : (rows : List Word) (name : Word) (pairs : List Pair) → AreKnown rows pairs → AreKnown (rows ++ name ∷ []) pairs
pairs_known rows name [] known = tt
pairs_known rows name (pair ∷ pairs) known = (pair_known rows name pair known.0, pairs_known rows name pairs known.1)

abbrev AllKnown : List Word → List ReadColumn → Type 0
AllKnown rows columns = AllByRecursion (λ c. AreKnown rows c.pairs) columns

columns_known : (rows : List Word) (name : Word) (columns : List ReadColumn) → AllKnown rows columns → AllKnown (rows ++ name ∷ []) columns
columns_known rows name [] known = tt
columns_known rows name (c ∷ columns) known = (pairs_known rows name c.pairs known.0, columns_known rows name columns known.1)

entries_stay : (rows : List Word) (name : Word) (pairs : List Pair) → AreKnown rows pairs → filter_map (entry_of rows) pairs ≡ filter_map (entry_of (rows ++ name ∷ [])) pairs
entries_stay rows name [] known = refl
entries_stay rows name (pair ∷ pairs) known =
    ap₂ (λ e l. cons_option e l) (sym (ap (λ found. option_and_then (λ i. option_map (λ d. (i, d)) (number pair.1)) found) (position_stays rows name pair.0 known.0.0))) (entries_stay rows name pairs known.1)

abbrev numbered : List Word → ReadColumn → Bool × List (ℕ × Decimal)
numbered rows c = (c.marked, filter_map (entry_of rows) c.pairs)

columns_stay : (rows : List Word) (name : Word) (columns : List ReadColumn) → AllKnown rows columns → map (numbered rows) columns ≡ map (numbered (rows ++ name ∷ [])) columns
columns_stay rows name [] known = refl
columns_stay rows name (c ∷ columns) known = ap₂ (λ e l. (c.marked, e) ∷ l) (entries_stay rows name c.pairs known.0) (columns_stay rows name columns known.1)

-- a mark behind the others that names no column

mark-push : (marks : List ℕ) (place : ℕ) → unwrap_or (slice_get (marks ++ 0 ∷ []) place) 0 ≡ unwrap_or (slice_get marks place) 0
mark-push [] zero = refl
mark-push [] (suc place) = refl
mark-push (m ∷ marks) zero = refl
mark-push (m ∷ marks) (suc place) = mark-push marks place

-- where a column goes on, there is one
none_marked : (ended : List ReadColumn) (current : Option ReadColumn) (n : ℕ) → n ≡ length (names_of (ended ++ cons_option current [])) → (is_some current && eqb 0 n) ≡ false
none_marked ended None n is = refl
none_marked ended (Some c) n is = ne_eqb 0 n (λ none. let e : length (names_of (ended ++ c ∷ [])) ≡ length (names_of ended) + 1 = ap length (map-append (λ x. x.name) ended (c ∷ [])) ∙ length-append (names_of ended) (c.name ∷ []) in omega arith)

-- no pair that is known names a row that is not there
not_named : (rows : List Word) (row : Word) (pairs : List Pair) → is_one_of rows row ≡ false → AreKnown rows pairs → names_row pairs row ≡ false
not_named rows row [] absent known = refl
not_named rows row (pair ∷ pairs) absent known = or_from (bytes_eq row pair.0) (names_row pairs row) (differ (bytes_eq row pair.0) refl) (not_named rows row pairs absent known.1)
  where
    differ : (b : Bool) → bytes_eq row pair.0 ≡ b → b ≡ false
    differ true same = sym (ap (is_one_of rows) (equal_words row pair.0 same) ∙ known.0.0) ∙ absent
    differ false same = refl

last_known : (rows : List Word) (ended : List ReadColumn) (current : Option ReadColumn) → AllKnown rows (ended ++ cons_option current []) → AreKnown rows (own_pairs current)
last_known rows ended None known = tt
last_known rows [] (Some c) known = known.0
last_known rows (d ∷ ended) (Some c) known = last_known rows ended (Some c) known.1

pub row_added : (rows : List Word) (read : ReadColumns) (t : ColumnTable) (name : Word) (marks : List ℕ) → AreColumns rows read t → marks ≡ t.marks ++ 0 ∷ []
    → AreColumns (rows ++ name ∷ []) read (record { names = t.names; columns = t.columns; goes_on = t.goes_on; marked = t.marked; count = t.count; marks = marks })
row_added rows read t name marks is more =
    record {
      names = is.names;
      columns = is.columns ∙ columns_stay rows name (all_of read) is.known;
      goes_on = is.goes_on;
      marked = is.marked;
      count = is.count;
      known = columns_known rows name (all_of read) is.known;
      all_marked = ap length more ∙ length-append t.marks (0 ∷ []) ∙ ap (λ n. n + 1) is.all_marked ∙ sym (length-append rows (name ∷ []));
      no_later = subst (λ (l : List ℕ). AllByRecursion (λ mark. mark ≤ length t.names) l) (sym more)
          (recursion_from_All (λ mark. mark ≤ length t.names) (t.marks ++ 0 ∷ []) (All-push (λ mark. mark ≤ length t.names) t.marks 0 (All-from_recursion (λ mark. mark ≤ length t.names) t.marks is.no_later) (omega arith)));
      marks = λ place row found.
          ap (λ l. t.goes_on && eqb (unwrap_or (slice_get l place) 0) (length t.names)) more
          ∙ ap (λ mark. t.goes_on && eqb mark (length t.names)) (mark-push t.marks place)
          ∙ same place row (found_case (position (bytes_eq row) rows) (bytes_eq row name) (length rows) place (sym (position-push (bytes_eq row) rows name) ∙ found));
    }
  where
    same : (place : ℕ) (row : Word) → (position (bytes_eq row) rows ≡ Some place) ⊎ ((position (bytes_eq row) rows ≡ None) × (bytes_eq row name ≡ true) × (length rows ≡ place)) → is_marked_row t place ≡ names_row (own_pairs read.current) row
    same place row (inl before) = is.marks place row before
    same place row (inr here) =
        let absent : is_one_of rows row ≡ false = sym (is_found (bytes_eq row) rows) ∙ ap is_some here.0 in
        let none : unwrap_or (slice_get t.marks place) 0 ≡ 0 = ap (λ o. unwrap_or o 0) (slice_get_past t.marks place (omega (arith, is.all_marked, here.2))) in
        ap₂ (λ goes mark. goes && eqb mark (length t.names)) is.goes_on none
        ∙ none_marked read.ended read.current (length t.names) (ap length is.names)
        ∙ sym (not_named rows row (own_pairs read.current) absent (last_known rows read.ended read.current is.known))

-- a marker ends the column that goes on

pub column_ended : (rows : List Word) (read : ReadColumns) (t : ColumnTable) (word : Word) (marked : Bool) → AreColumns rows read t → marked ≡ bytes_eq word (codes "'INTORG'")
    → AreColumns rows (after_marker read word) (record { names = t.names; columns = t.columns; goes_on = false; marked = marked; count = t.count; marks = t.marks })
column_ended rows read t word marked is says =
    let all : all_of read ≡ all_of (after_marker read word) = sym (append-nil (all_of read)) in
    record {
      names = is.names ∙ ap names_of all;
      columns = is.columns ∙ ap (map (numbered rows)) all;
      goes_on = refl;
      marked = says;
      count = is.count;
      known = subst (λ (columns : List ReadColumn). AllKnown rows columns) all is.known;
      all_marked = is.all_marked;
      no_later = is.no_later;
      marks = λ place row found. refl;
    }

-- a column more

all-push : {X : Type 0} (P : X → Type 0) (xs : List X) (x : X) → AllByRecursion P xs → P x → AllByRecursion P (xs ++ x ∷ [])
all-push P [] x all here = (here, tt)
all-push P (y ∷ xs) x all here = (all.0, all-push P xs x all.1 here)

all_at_most : (n m : ℕ) (marks : List ℕ) → n ≤ m → AllByRecursion (λ mark. mark ≤ n) marks → AllByRecursion (λ mark. mark ≤ m) marks
all_at_most n m [] le all = tt
all_at_most n m (mark ∷ marks) le all = (let here = all.0 in omega (arith, here), all_at_most n m marks le all.1)

at_most : (n : ℕ) (marks : List ℕ) (place : ℕ) → AllByRecursion (λ mark. mark ≤ n) marks → unwrap_or (slice_get marks place) 0 ≤ n
at_most n [] place all = omega arith
at_most n (mark ∷ marks) zero all = all.0
at_most n (mark ∷ marks) (suc place) all = at_most n marks place all.1

pub column_begun : (rows : List Word) (read : ReadColumns) (t : ColumnTable) (name : Word) (names : List Word) (columns : List (Bool × List (ℕ × Decimal)))
    → AreColumns rows read t → is_one_of (names_of (all_of read)) name ≡ false
    → names ≡ cond (is_one_of t.names name) t.names (t.names ++ name ∷ [])
    → columns ≡ t.columns ++ (t.marked, []) ∷ []
    → AreColumns rows (begun read name) (record { names = names; columns = columns; goes_on = true; marked = t.marked; count = t.count; marks = t.marks })
column_begun rows read t name names columns is absent named made =
    let column : ReadColumn = record { name = name; marked = bytes_eq read.word (codes "'INTORG'"); pairs = [] } in
    let new : names ≡ t.names ++ name ∷ [] = named ∙ ap (λ b. cond b t.names (t.names ++ name ∷ [])) (ap (λ l. is_one_of l name) is.names ∙ absent) in
    let longer : length names ≡ length t.names + 1 = ap length new ∙ length-append t.names (name ∷ []) in
    record {
      names = new ∙ ap (λ l. l ++ name ∷ []) is.names ∙ sym (map-append (λ c. c.name) (all_of read) (column ∷ []));
      columns = made ∙ ap₂ (λ l marked. l ++ (marked, []) ∷ []) is.columns is.marked ∙ sym (map-append (numbered rows) (all_of read) (column ∷ []));
      goes_on = refl;
      marked = is.marked;
      count = is.count;
      known = all-push (λ c. AreKnown rows c.pairs) (all_of read) column is.known tt;
      all_marked = is.all_marked;
      no_later = all_at_most (length t.names) (length names) t.marks (omega arith) is.no_later;
      marks = λ place row found.
          let le = at_most (length t.names) t.marks place is.no_later in
          ne_eqb (unwrap_or (slice_get t.marks place) 0) (length names) (λ same. omega arith);
    }

-- an entry more

marked_at : (marks : List ℕ) (place n : ℕ) → place < length marks → unwrap_or (slice_get (set marks place n) place) 0 ≡ n
marked_at marks place n within = unwrap_or-slice_get (set marks place n) place 0 ∙ get_or-set_same marks place n 0 within

marked_beside : (marks : List ℕ) (place other n : ℕ) → other ≢ place → unwrap_or (slice_get (set marks place n) other) 0 ≡ unwrap_or (slice_get marks other) 0
marked_beside marks place other n apart =
    unwrap_or-slice_get (set marks place n) other 0 ∙ get_or-set_other marks place other n 0 apart ∙ sym (unwrap_or-slice_get marks other 0)

same_place : (rows : List Word) (a b : Word) (i j : ℕ) → position (bytes_eq a) rows ≡ Some i → position (bytes_eq b) rows ≡ Some j → i ≡ j → bytes_eq a b ≡ true
same_place rows a b i j at_a at_b same =
    let first = position-Some (bytes_eq a) rows i [] at_a in
    let second = position-Some (bytes_eq b) rows j [] at_b in
    same_word a b (equal_words a (get_or rows i []) first.1 ∙ ap (λ k. get_or rows k []) same ∙ sym (equal_words b (get_or rows j []) second.1))

entry_is : (rows : List Word) (pair : Pair) (place : ℕ) (value : Decimal) → position (bytes_eq pair.0) rows ≡ Some place → number pair.1 ≡ Some value → entry_of rows pair ≡ Some (place, value)
entry_is rows pair place value at says = ap₂ (λ i d. option_and_then (λ i. option_map (λ d. (i, d)) d) i) at says

abbrev state : List Word → List ReadColumn → Option ReadColumn → Word → ℕ → ReadColumns
state names ended current word count = record { names = names; ended = ended; current = current; word = word; count = count }

known_more : (rows : List Word) (ended : List ReadColumn) (c : ReadColumn) (pair : Pair) → IsKnown rows pair → AllKnown rows (ended ++ c ∷ []) → AllKnown rows (ended ++ with_pairs (pair ∷ []) c ∷ [])
known_more rows [] c pair here known = (all-push (IsKnown rows) c.pairs pair known.0 here, tt)
known_more rows (d ∷ ended) c pair here known = (known.0, known_more rows ended c pair here known.1)

or_last : (a b c : Bool) → b ≡ c → (a || (b || false)) ≡ (a || c)
or_last a true c e = ap (λ d. a || d) e
or_last a false c e = ap (λ d. a || d) e

or_false : (a : Bool) → (a || false) ≡ a
or_false true = refl
or_false false = refl

named_more : (pairs : List Pair) (pair : Pair) (row : Word) (b : Bool) → bytes_eq row pair.0 ≡ b → names_row (pairs ++ pair ∷ []) row ≡ (names_row pairs row || b)
named_more pairs pair row b is = list_any-append (λ p. bytes_eq row p.0) pairs (pair ∷ []) ∙ or_last (names_row pairs row) (bytes_eq row pair.0) b is

abbrev Columns : Type 0
Columns = List (Bool × List (ℕ × Decimal))

-- the last of these columns gets the entry
abbrev GetsEntry : Columns → Columns → ℕ × Decimal → Type 0
GetsEntry old new entry = (before : Columns) (marked : Bool) (entries : List (ℕ × Decimal)) → old ≡ before ++ (marked, entries) ∷ [] → new ≡ before ++ (marked, entries ++ entry ∷ []) ∷ []

pub last_gets : (columns : Columns) (last : ℕ) (old now : Bool × List (ℕ × Decimal)) (entries : List (ℕ × Decimal)) (entry : ℕ × Decimal)
    → last + 1 ≡ length columns → old ≡ now → now ≡ get_or columns last now → entries ≡ old.1 ++ entry ∷ [] → GetsEntry columns (set columns last (old.0, entries)) entry
last_gets columns last old now entries entry is seen read more = λ before marked was split.
    let at : length before ≡ last = omega (arith, ap length split, length-append before ((marked, was) ∷ [])) in
    let found : old ≡ (marked, was) = seen ∙ read ∙ ap (λ l. get_or l last now) split ∙ get_or_push before (marked, was) now last at in
    ap (λ l. set l last (old.0, entries)) split
    ∙ set_at before (marked, was) [] (old.0, entries) last at
    ∙ ap (λ l. before ++ (old.0, l) ∷ []) more
    ∙ ap (λ (column : Bool × List (ℕ × Decimal)). before ++ (column.0, column.1 ++ entry ∷ []) ∷ []) found

entered : (rows names : List Word) (ended : List ReadColumn) (c : ReadColumn) (word : Word) (count : ℕ) (t : ColumnTable) (pair : Pair) (place : ℕ) (value : Decimal) (columns : Columns) (marks : List ℕ)
    → AreColumns rows (state names ended (Some c) word count) t
    → position (bytes_eq pair.0) rows ≡ Some place → number pair.1 ≡ Some value
    → GetsEntry t.columns columns (place, value)
    → marks ≡ set t.marks place (length t.names)
    → AreColumns rows (after_more (state names ended (Some c) word count) (pair ∷ [])) (record { names = t.names; columns = columns; goes_on = t.goes_on; marked = t.marked; count = t.count + 1; marks = marks })
entered rows names ended c word count t pair place value columns marks is at says pushed noted =
    let new : ReadColumn = with_pairs (pair ∷ []) c in
    let entries : List Pair → List (ℕ × Decimal) = filter_map (entry_of rows) in
    let known : IsKnown rows pair = (sym (is_found (bytes_eq pair.0) rows) ∙ ap is_some at, ap is_some says) in
    let one_more : entries (c.pairs ++ pair ∷ []) ≡ entries c.pairs ++ (place, value) ∷ [] =
    filter_map-append (entry_of rows) c.pairs (pair ∷ []) ∙ ap (λ e. entries c.pairs ++ cons_option e []) (entry_is rows pair place value at says) in
    let within = (position-Some (bytes_eq pair.0) rows place [] at).0 in
    record {
      names = is.names ∙ map-append (λ x. x.name) ended (c ∷ []) ∙ sym (map-append (λ x. x.name) ended (new ∷ []));
      columns = pushed (map (numbered rows) ended) c.marked (entries c.pairs) (is.columns ∙ map-append (numbered rows) ended (c ∷ []))
          ∙ ap (λ l. map (numbered rows) ended ++ (c.marked, l) ∷ []) (sym one_more)
          ∙ sym (map-append (numbered rows) ended (new ∷ []));
      goes_on = is.goes_on;
      marked = is.marked;
      count = ap (λ n. n + 1) is.count;
      known = known_more rows ended c pair known is.known;
      all_marked = ap length noted ∙ length-set t.marks place (length t.names) ∙ is.all_marked;
      no_later = subst (λ (l : List ℕ). AllByRecursion (λ mark. mark ≤ length t.names) l) (sym noted)
          (recursion_from_All (λ mark. mark ≤ length t.names) (set t.marks place (length t.names))
          (All-set (λ mark. mark ≤ length t.names) t.marks place (length t.names) (omega arith) (All-from_recursion (λ mark. mark ≤ length t.names) t.marks is.no_later)));
      marks = λ other row found.
          ap (λ l. t.goes_on && eqb (unwrap_or (slice_get l other) 0) (length t.names)) noted
          ∙ marked_by other row found (omega (arith, within, is.all_marked)) (bytes_eq row pair.0) refl;
    }
  where
    marked_by : (other : ℕ) (row : Word) → position (bytes_eq row) rows ≡ Some other → place < length t.marks → (b : Bool) → bytes_eq row pair.0 ≡ b
        → (t.goes_on && eqb (unwrap_or (slice_get (set t.marks place (length t.names)) other) 0) (length t.names)) ≡ names_row (c.pairs ++ pair ∷ []) row
    marked_by other row found within true same =
        let here : other ≡ place = same_Some other place (sym found ∙ ap (λ w. position (bytes_eq w) rows) (equal_words row pair.0 same) ∙ at) in
        and_from t.goes_on (eqb (unwrap_or (slice_get (set t.marks place (length t.names)) other) 0) (length t.names)) is.goes_on
        (eq-eqb (unwrap_or (slice_get (set t.marks place (length t.names)) other) 0) (length t.names)
        (ap (λ k. unwrap_or (slice_get (set t.marks place (length t.names)) k) 0) here ∙ marked_at t.marks place (length t.names) within))
        ∙ sym (named_more c.pairs pair row true same ∙ or_right (names_row c.pairs row) true refl)
    marked_by other row found within false differ =
        ap (λ mark. t.goes_on && eqb mark (length t.names)) (marked_beside t.marks place other (length t.names) (λ same. true≢false (sym (same_place rows row pair.0 other place found at same) ∙ differ)))
        ∙ is.marks other row found
        ∙ sym (named_more c.pairs pair row false differ ∙ or_false (names_row c.pairs row))

entered_in : (rows names : List Word) (ended : List ReadColumn) (current : Option ReadColumn) (word : Word) (count : ℕ) (t : ColumnTable) (pair : Pair) (place : ℕ) (value : Decimal) (columns : Columns) (marks : List ℕ)
    → AreColumns rows (state names ended current word count) t → is_some current ≡ true
    → position (bytes_eq pair.0) rows ≡ Some place → number pair.1 ≡ Some value
    → GetsEntry t.columns columns (place, value)
    → marks ≡ set t.marks place (length t.names)
    → AreColumns rows (after_more (state names ended current word count) (pair ∷ [])) (record { names = t.names; columns = columns; goes_on = t.goes_on; marked = t.marked; count = t.count + 1; marks = marks })
entered_in rows names ended None word count t pair place value columns marks is some at says pushed noted = cc
entered_in rows names ended (Some c) word count t pair place value columns marks is some at says pushed noted =
    entered rows names ended c word count t pair place value columns marks is at says pushed noted

pub entry_added : (rows : List Word) (read : ReadColumns) (t : ColumnTable) (pair : Pair) (place : ℕ) (value : Decimal) (columns : Columns) (marks : List ℕ) (count : ℕ)
    → AreColumns rows read t → is_some read.current ≡ true
    → position (bytes_eq pair.0) rows ≡ Some place → number pair.1 ≡ Some value
    → GetsEntry t.columns columns (place, value)
    → marks ≡ set t.marks place (length t.names)
    → count ≡ t.count + 1
    → AreColumns rows (after_more read (pair ∷ [])) (record { names = t.names; columns = columns; goes_on = t.goes_on; marked = t.marked; count = count; marks = marks })
entry_added rows read t pair place value columns marks count is some at says pushed noted counted =
    subst (λ (n : ℕ). AreColumns rows (after_more read (pair ∷ [])) (record { names = t.names; columns = columns; goes_on = t.goes_on; marked = t.marked; count = n; marks = marks })) (sym counted)
    (entered_in rows read.names read.ended read.current read.word read.count t pair place value columns marks is some at says pushed noted)

-- the pairs of a line, one after another

with_none : (current : Option ReadColumn) → option_map (with_pairs []) current ≡ current
with_none None = refl
with_none (Some c) = ap (λ l. Some (record { name = c.name; marked = c.marked; pairs = l })) (append-nil c.pairs)

with_both : (current : Option ReadColumn) (some more : List Pair) → option_map (with_pairs more) (option_map (with_pairs some) current) ≡ option_map (with_pairs (some ++ more)) current
with_both None some more = refl
with_both (Some c) some more = ap (λ l. Some (record { name = c.name; marked = c.marked; pairs = l })) (append_assoc c.pairs some more)

pub more_none : (read : ReadColumns) → read ≡ after_more read []
more_none read =
    let same : read.count ≡ read.count + 0 = omega arith in
    ap₂ (λ current count. state read.names read.ended current read.word count) (sym (with_none read.current)) same

pub more_both : (read : ReadColumns) (some more : List Pair) → after_more (after_more read some) more ≡ after_more read (some ++ more)
more_both read some more =
    let same : (read.count + length some) + length more ≡ read.count + length (some ++ more) = omega (arith, length-append some more) in
    ap₂ (λ current count. state read.names read.ended current read.word count) (with_both read.current some more) same

some_with : (pairs : List Pair) (current : Option ReadColumn) → is_some current ≡ true → is_some (option_map (with_pairs pairs) current) ≡ true
some_with pairs None is = is
some_with pairs (Some c) is = refl

pub goes_on_with : (read : ReadColumns) (pairs : List Pair) → is_some read.current ≡ true → is_some (after_more read pairs).current ≡ true
goes_on_with read pairs is = some_with pairs read.current is

pub pairs_added : (rows : List Word) (old mid new : ColumnTable) (first : Pair) (others pairs : List Pair) → pairs ≡ first ∷ others
    → ((read : ReadColumns) → AreColumns rows read old → is_some read.current ≡ true → IsKnown rows first → AreColumns rows (after_more read (first ∷ [])) mid)
    → ((read : ReadColumns) → AreColumns rows read mid → is_some read.current ≡ true → AreKnown rows others → AreColumns rows (after_more read others) new)
    → (read : ReadColumns) → AreColumns rows read old → is_some read.current ≡ true → AreKnown rows pairs → AreColumns rows (after_more read pairs) new
pairs_added rows old mid new first others pairs split one rest read is some known =
    let parts : AreKnown rows (first ∷ others) = subst (λ (l : List Pair). AreKnown rows l) split known in
    subst (λ (after : ReadColumns). AreColumns rows after new) (more_both read (first ∷ []) others ∙ ap (after_more read) (sym split))
    (rest (after_more read (first ∷ [])) (one read is some parts.0) (some_with (first ∷ []) read.current some) parts.1)

pub no_pairs : (rows : List Word) (t : ColumnTable) (pairs : List Pair) → pairs ≡ [] → (read : ReadColumns) → AreColumns rows read t → AreColumns rows (after_more read pairs) t
no_pairs rows t pairs none read is = subst (λ (after : ReadColumns). AreColumns rows after t) (more_none read ∙ ap (after_more read) (sym none)) is

pub first_pair : (fields : List (Bor (List ℕ))) (d : Bor (List ℕ)) → 2 ≤ length fields
    → pairs_of (words fields) ≡ ((get_or fields 0 d).now, (get_or fields 1 d).now) ∷ pairs_of (words (take (length fields - 2) (drop 2 fields)))
first_pair [] d le = absurd (omega arith)
first_pair (a ∷ []) d le = absurd (omega arith)
first_pair (a ∷ b ∷ fields) d le = ap (λ l. (a.now, b.now) ∷ pairs_of (words l)) (sym (take_rest (a ∷ b ∷ fields) 2))

pub no_pair : (fields : List (Bor (List ℕ))) → length fields < 2 → pairs_of (words fields) ≡ []
no_pair [] lt = refl
no_pair (a ∷ []) lt = refl
no_pair (a ∷ b ∷ fields) lt = absurd (omega arith)

-- a line

pub some_current : (current : Option ReadColumn) (name : Word) → is_current current name ≡ true → is_some current ≡ true
some_current None name is = is
some_current (Some c) name is = refl

not_last : (current : Option ReadColumn) (name : Word) → is_current current name ≡ false → is_one_of (names_of (cons_option current [])) name ≡ false
not_last None name other = refl
not_last (Some c) name other = ap (λ b. b || false) other

among : (ended : List ReadColumn) (current : Option ReadColumn) (name : Word)
    → is_one_of (names_of (ended ++ cons_option current [])) name ≡ (is_one_of (names_of ended) name || is_one_of (names_of (cons_option current [])) name)
among ended current name = ap (λ l. is_one_of l name) (map-append (λ c. c.name) ended (cons_option current [])) ∙ list_any-append (bytes_eq name) (names_of ended) (names_of (cons_option current []))

pub not_yet : (read : ReadColumns) (name : Word) → is_one_of (names_of read.ended) name ≡ false → is_current read.current name ≡ false → is_one_of (names_of (all_of read)) name ≡ false
not_yet read name whole other = among read.ended read.current name ∙ or_from (is_one_of (names_of read.ended) name) (is_one_of (names_of (cons_option read.current [])) name) whole (not_last read.current name other)

abbrev line_by : ReadColumns → Record → Bool → Bool → ReadColumns
line_by read r marks goes = cond marks (after_marker read (field 2 r)) (cond goes (after_more read (entry_pairs r)) (after_new read (field 0 r) (entry_pairs r)))

pub marker_line : (read : ReadColumns) (r : Record) → is_marker r ≡ true → after_marker read (field 2 r) ≡ after_line read r
marker_line read r marks = sym (ap (λ m. line_by read r m (is_current read.current (field 0 r))) marks)

pub same_line : (read : ReadColumns) (r : Record) → is_marker r ≡ false → is_current read.current (field 0 r) ≡ true → after_more read (entry_pairs r) ≡ after_line read r
same_line read r plain goes = sym (ap₂ (line_by read r) plain goes)

pub new_line : (read : ReadColumns) (r : Record) → is_marker r ≡ false → is_current read.current (field 0 r) ≡ false → after_more (begun read (field 0 r)) (entry_pairs r) ≡ after_line read r
new_line read r plain other = sym (ap₂ (line_by read r) plain other)

pub line_goes_on : (rows : List Word) (read : ReadColumns) (r : Record) (old new : ColumnTable) (name : Word) (pairs : List Pair)
    → is_marker r ≡ false → name ≡ field 0 r → pairs ≡ entry_pairs r → is_current read.current name ≡ true
    → ((next : ReadColumns) → AreColumns rows next old → is_some next.current ≡ true → AreKnown rows pairs → AreColumns rows (after_more next pairs) new)
    → AreColumns rows read old → IsNext rows read r → AreColumns rows (after_line read r) new
line_goes_on rows read r old new name pairs plain named paired goes pushed is next =
    subst (λ (after : ReadColumns). AreColumns rows after new) (ap (after_more read) paired ∙ same_line read r plain (ap (is_current read.current) (sym named) ∙ goes))
    (pushed read is (some_current read.current name goes) (subst (λ (l : List Pair). AreKnown rows l) (sym paired) next.1))

pub line_begins : (rows : List Word) (read : ReadColumns) (r : Record) (old mid new : ColumnTable) (name : Word) (pairs : List Pair)
    → is_marker r ≡ false → name ≡ field 0 r → pairs ≡ entry_pairs r → is_current read.current name ≡ false
    → (AreColumns rows read old → is_one_of (names_of (all_of read)) name ≡ false → AreColumns rows (begun read name) mid)
    → ((next : ReadColumns) → AreColumns rows next mid → is_some next.current ≡ true → AreKnown rows pairs → AreColumns rows (after_more next pairs) new)
    → AreColumns rows read old → IsNext rows read r → AreColumns rows (after_line read r) new
line_begins rows read r old mid new name pairs plain named paired other begins pushed is next =
    subst (λ (after : ReadColumns). AreColumns rows after new)
    (ap₂ (λ n l. after_more (begun read n) l) named paired ∙ new_line read r plain (ap (is_current read.current) (sym named) ∙ other))
    (pushed (begun read name) (begins is (not_yet read name (ap (is_one_of (names_of read.ended)) named ∙ next.0) other)) refl (subst (λ (l : List Pair). AreKnown rows l) (sym paired) next.1))

-- what is found in a table

pub found_entry : (rows : List Word) (read : ReadColumns) (t : ColumnTable) (row : Word) (place : ℕ) (found : Bool) → AreColumns rows read t → position (bytes_eq row) rows ≡ Some place
    → found ≡ is_marked_row t place → found ≡ names_row (own_pairs read.current) row
found_entry rows read t row place found is at says = says ∙ is.marks place row at

-- a name is that of a column that has ended where its first place is not that of the column that goes on

pub not_found : (rows : List Word) (read : ReadColumns) (t : ColumnTable) (name : Word) → AreColumns rows read t → position (bytes_eq name) t.names ≡ None → false ≡ is_one_of (names_of read.ended) name
not_found rows read t name is none =
    let absent : is_one_of (names_of (all_of read)) name ≡ false = ap (λ l. is_one_of l name) (sym is.names) ∙ sym (is_found (bytes_eq name) t.names) ∙ ap is_some none in
    sym (or_parts (is_one_of (names_of read.ended) name) (is_one_of (names_of (cons_option read.current [])) name) (sym (among read.ended read.current name) ∙ absent)).0

all_ended : (ended : List ReadColumn) (current : Option ReadColumn) (name : Word) (place : ℕ) → position (bytes_eq name) (names_of (ended ++ cons_option current [])) ≡ Some place → is_some current ≡ false
    → true ≡ is_one_of (names_of ended) name
all_ended ended None name place found none =
    sym (ap (λ l. is_one_of (names_of l) name) (sym (append-nil ended)) ∙ sym (is_found (bytes_eq name) (names_of (ended ++ []))) ∙ ap is_some found)
all_ended ended (Some c) name place found none = cc

pub found_ended : (rows : List Word) (read : ReadColumns) (t : ColumnTable) (name : Word) (place : ℕ) → AreColumns rows read t → position (bytes_eq name) t.names ≡ Some place → t.goes_on ≡ false
    → true ≡ is_one_of (names_of read.ended) name
found_ended rows read t name place is found none = all_ended read.ended read.current name place (ap (position (bytes_eq name)) (sym is.names) ∙ found) (sym is.goes_on ∙ none)

before_last : (ended : List ReadColumn) (current : Option ReadColumn) (name : Word) (place : ℕ) → position (bytes_eq name) (names_of (ended ++ cons_option current [])) ≡ Some place → is_some current ≡ true
    → ltb (place + 1) (length (names_of (ended ++ cons_option current []))) ≡ is_one_of (names_of ended) name
before_last ended None name place found some = cc
before_last ended (Some c) name place found some =
    ap (λ l. ltb (place + 1) (length l)) split ∙ by (found_case (position (bytes_eq name) (names_of ended)) (bytes_eq name c.name) (length (names_of ended)) place (sym (position-push (bytes_eq name) (names_of ended) c.name) ∙ ap (position (bytes_eq name)) (sym split) ∙ found))
  where
    split : names_of (ended ++ c ∷ []) ≡ names_of ended ++ c.name ∷ []
    split = map-append (λ x. x.name) ended (c ∷ [])

    by : (position (bytes_eq name) (names_of ended) ≡ Some place) ⊎ ((position (bytes_eq name) (names_of ended) ≡ None) × (bytes_eq name c.name ≡ true) × (length (names_of ended) ≡ place)) → ltb (place + 1) (length (names_of ended ++ c.name ∷ [])) ≡ is_one_of (names_of ended) name
    by (inl before) =
        let within = (position-Some (bytes_eq name) (names_of ended) place [] before).0 in
        lt-ltb (place + 1) (length (names_of ended ++ c.name ∷ [])) (omega (arith, within, length-append (names_of ended) (c.name ∷ [])))
        ∙ sym (sym (is_found (bytes_eq name) (names_of ended)) ∙ ap is_some before)
    by (inr last) =
        le-ltb (place + 1) (length (names_of ended ++ c.name ∷ [])) (omega (arith, last.2, length-append (names_of ended) (c.name ∷ [])))
        ∙ sym (sym (is_found (bytes_eq name) (names_of ended)) ∙ ap is_some last.0)

pub found_before : (rows : List Word) (read : ReadColumns) (t : ColumnTable) (name : Word) (place : ℕ) → AreColumns rows read t → position (bytes_eq name) t.names ≡ Some place → t.goes_on ≡ true
    → ltb (place + 1) (length t.names) ≡ is_one_of (names_of read.ended) name
found_before rows read t name place is found goes =
    ap (λ l. ltb (place + 1) (length l)) is.names ∙ before_last read.ended read.current name place (ap (position (bytes_eq name)) (sym is.names) ∙ found) (sym is.goes_on ∙ goes)
