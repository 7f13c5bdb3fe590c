-- What holds of the records of a deck without a fault: their names, their pairs.
use Rattle.std.proofs.Common.{◌≡◌, refl, sym, ap, ap₂, ◌∙◌, subst, arith, ℕ, ◌<◌, ◌≤◌, ◌==◌, nat_le, Bool, true, false, cond, not, ◌&&◌, ◌||◌, List, [], ◌∷◌, ◌++◌, append-nil, append_assoc, length, map, filter, filter_map, flat_map, bytes_eq, Option, Some, None, is_none, unwrap_or, option_map, slice_get, zero, suc, true≢false}
use Rattle.std.specs.List.{AllByRecursion, list_all, cons_option, onto_first}
use Rattle.std.proofs.lemmas.Bool.{and_parts, ltb-false, le-leb, lt-ltb}
use Rattle.std.proofs.lemmas.Bool.Decides.{nat_tests}
use Rattle.std.proofs.lemmas.Grind.{flat_map-append}
use Rattle.std.proofs.lemmas.List.{map-append}
use Rattle.std.proofs.lemmas.List.Folds.{list_any-append}
use Rattle.std.proofs.lemmas.List.Elements.{filter-append, filter_map-append}
use Rattle.cgl_num.specs.NumberText.{Word, number}
use Rattle.cgl_text.specs.Text.{is_blank, is_one_of, begins_blank, fields_of, kept_fields}
use Rattle.cgl_model.specs.declared.mip.RowKind.{RowKind}
use Rattle.cgl_model.specs.Valid.{AreDistinct, IsName, IsModelName, IsRowName, is_name_byte}
use Rattle.cgl_decode.specs.declared.kinds.Section.TheVariants.{Name, Rows, Columns}
use Rattle.cgl_decode.specs.Records.{Record, record_of, field, same_section, is_kept}
use Rattle.cgl_decode.specs.Sections.{Pair, row_in, row_kind, row_names, is_marker, names_column, column_records, entry_pairs, pairs_of, rest}
use Rattle.cgl_decode.specs.Faults.{Limits, fault_after, is_long, row_conditions, column_conditions, columns_conditions, header_conditions, each_pair, entry_conditions, names_row, pairs_of_column}
use Rattle.cgl_decode.specs.Models.{name_in}
use Rattle.cgl_decode.proofs.ModelLaws.{row_names-append, column_records-append}
use Rattle.cgl_decode.proofs.DistinctLaws.{distinct_push, equal_words}
use Rattle.cgl_decode.proofs.JudgedLaws.{NoneHolds, earlier_hold, later_hold, judged_data, judged_header, not_true, IsLine, Stays}
use Rattle.cgl_decode.proofs.SizeLaws.{stands_in, judged_column, all_pairs, all_pairs-append, pairs_on, row_names_of}

-- all of a list

pub all_append : {X : Type 0} (P : X → Type 0) (xs ys : List X) → AllByRecursion P xs → AllByRecursion P ys → AllByRecursion P (xs ++ ys)
all_append P [] ys all more = more
all_append P (x ∷ xs) ys all more = (all.0, all_append P xs ys all.1 more)

pub all_weaker : {X : Type 0} (P Q : X → Type 0) → ((x : X) → P x → Q x) → (xs : List X) → AllByRecursion P xs → AllByRecursion Q xs
all_weaker P Q weaker [] all = tt
all_weaker P Q weaker (x ∷ xs) all = (weaker x all.0, all_weaker P Q weaker xs all.1)

filtered_case : {X : Type 0} (P : X → Type 0) (x : X) (xs : List X) → P x → AllByRecursion P xs → (b : Bool) → AllByRecursion P (cond b (x ∷ xs) xs)
filtered_case P x xs here all true = (here, all)
filtered_case P x xs here all false = all

pub all_filter : {X : Type 0} (P : X → Type 0) (p : X → Bool) (xs : List X) → AllByRecursion P xs → AllByRecursion P (filter p xs)
all_filter P p [] all = tt
all_filter P p (x ∷ xs) all = filtered_case P x (filter p xs) all.0 (all_filter P p xs all.1) (p x)

pub all_map : {X Y : Type 0} (P : Y → Type 0) (f : X → Y) (xs : List X) → AllByRecursion (λ x. P (f x)) xs → AllByRecursion P (map f xs)
all_map P f [] all = tt
all_map P f (x ∷ xs) all = (all.0, all_map P f xs all.1)

pub all_unmap : {X Y : Type 0} (P : Y → Type 0) (f : X → Y) (xs : List X) → AllByRecursion P (map f xs) → AllByRecursion (λ x. P (f x)) xs
all_unmap P f [] all = tt
all_unmap P f (x ∷ xs) all = (all.0, all_unmap P f xs all.1)

-- fields

pub record IsField (word : Word) : Type 0 where
  pub some : 0 < length word
  pub bytes : list_all is_name_byte word ≡ true

byte_case : (b : ℕ) → (b == 10) ≡ false → is_blank b ≡ false → is_name_byte b ≡ true
byte_case b line blank = ap₂ (λ x y. not (x || y)) blank line

onto_case : (b : ℕ) (fields : List Word) → is_name_byte b ≡ true → AllByRecursion IsField fields → AllByRecursion IsField (onto_first b fields)
onto_case b [] good all = (record { some = omega arith; bytes = ap (λ c. c && true) good }, tt)
onto_case b (word ∷ fields) good all = (record { some = omega arith; bytes = ap₂ (λ c d. c && d) good all.0.bytes }, all.1)

field_case : (b : ℕ) (fields : List Word) → (b == 10) ≡ false → AllByRecursion IsField fields → (blank : Bool) → is_blank b ≡ blank → (begins : Bool)
    → AllByRecursion IsField (cond blank fields (cond begins ((b ∷ []) ∷ fields) (onto_first b fields)))
field_case b fields line all true is begins = all
field_case b fields line all false is true = (record { some = omega arith; bytes = ap (λ c. c && true) (byte_case b line is) }, all)
field_case b fields line all false is false = onto_case b fields (byte_case b line is) all

are_fields : (line : List ℕ) → IsLine line → AllByRecursion IsField (fields_of line)
are_fields [] is = tt
are_fields (b ∷ line) is =
    let parts = and_parts (not (b == 10)) (list_all (λ b. not (b == 10)) line) is in
    field_case b (fields_of line) (not_true (b == 10) parts.0) (are_fields line parts.1) (is_blank b) refl (begins_blank line)

comment_case : (fields : List Word) → AllByRecursion IsField fields → (b : Bool) → AllByRecursion IsField (cond b [] fields)
comment_case fields all true = tt
comment_case fields all false = all

pub record_fields : (line : List ℕ) → IsLine line → AllByRecursion IsField (kept_fields line)
record_fields [] is = tt
record_fields (b ∷ line) is = comment_case (fields_of (b ∷ line)) (are_fields (b ∷ line) is) (b == 42)

-- names

pub short_name : (name : Word) → is_long name ≡ false → nat_le (length name) 255 ≡ true
short_name name short = le-leb (length name) 255 (ltb-false 255 (length name) short)

pub is_name : (name : Word) → IsField name → is_long name ≡ false → IsName name
is_name name here short =
    ap₂ (λ a b. (a && b) && nat_le (length name) 255) (lt-ltb 0 (length name) here.some) here.bytes ∙ short_name name short

not_is_false : (a : Bool) → not a ≡ false → a ≡ true
not_is_false true e = refl
not_is_false false e = cc

-- what stands at place k of the fields is one of them
at_place : (fields : List Word) (k : ℕ) (word : Word) → AllByRecursion IsField fields → slice_get fields k ≡ Some word → (word ≡ unwrap_or (slice_get fields k) []) × IsField word
at_place fields k word all is = (ap (λ o. unwrap_or o []) (sym is), is_there fields k all is)
  where
    is_there : (words : List Word) (n : ℕ) → AllByRecursion IsField words → slice_get words n ≡ Some word → IsField word
    is_there [] n all is = cc
    is_there (first ∷ words) zero all is = let same : first ≡ word = cc in subst IsField same all.0
    is_there (first ∷ words) (suc n) all is = is_there words n all.1 is

-- rows

second_case : (o : Option RowKind) (name : Word) (p : RowKind × Word) → option_map (λ k. (k, name)) o ≡ Some p → p.1 ≡ name
second_case (Some k) name p is = cc
second_case None name p is = cc

row_second : (fields : List Word) (p : RowKind × Word) → AllByRecursion IsField fields → row_in fields ≡ Some p → (p.1 ≡ unwrap_or (slice_get fields 1) []) × IsField p.1
row_second [] p all is = cc
row_second (kind ∷ []) p all is = cc
row_second (kind ∷ name ∷ []) p all is = let same = second_case (row_kind kind) name p is in (same, subst IsField (sym same) all.1.0)
row_second (kind ∷ name ∷ other ∷ fields) p all is = cc

pub record AreRowNames (names : List Word) : Type 0 where
  pub good : AllByRecursion IsRowName names
  pub distinct : AreDistinct names

name_added : (names : List Word) (name : Word) → AreRowNames names → IsRowName name → is_one_of names name ≡ false → AreRowNames (names ++ name ∷ [])
name_added names name so_far good new = record { good = all_append IsRowName names (name ∷ []) so_far.good (good, tt); distinct = distinct_push names name so_far.distinct new }

row_added : (names : List Word) (o : Option (RowKind × Word)) → AreRowNames names → ((p : RowKind × Word) → o ≡ Some p → IsRowName p.1 × (is_one_of names p.1 ≡ false))
    → AreRowNames (names ++ map (λ (r : RowKind × Word). r.1) (cons_option o []))
row_added names None so_far good = subst AreRowNames (sym (append-nil names)) so_far
row_added names (Some p) so_far good = let here = good p refl in name_added names p.1 so_far here.0 here.1

sound_rows : (limits : Limits) (bytes : List ℕ) (before : List Record) (r : Record) → is_kept r ≡ true → fault_after limits bytes before r ≡ None → AllByRecursion IsField r.fields
    → AreRowNames (row_names before) → (b : Bool) → stands_in Rows r ≡ b → AreRowNames (row_names (before ++ r ∷ []))
sound_rows limits bytes before r kept none fields so_far true is =
    let passed : NoneHolds (row_conditions limits before r) = judged_data Rows limits bytes before r kept none is in
    let own : AreRowNames (row_names before ++ map (λ (p : RowKind × Word). p.1) (cons_option (row_in r.fields) [])) =
    row_added (row_names before) (row_in r.fields) so_far
    (λ p some.
    let at = row_second r.fields p fields some in
    let good : IsRowName (field 1 r) = (is_name (field 1 r) (subst IsField at.0 at.1) passed.1.1.0, ap not passed.1.0) in
    (subst IsRowName (sym at.0) good, ap (is_one_of (row_names before)) at.0 ∙ passed.1.1.1.0)) in
    subst AreRowNames (sym (row_names-append before (r ∷ []) ∙ ap (λ l. row_names before ++ l) (row_names_of r true is))) own
sound_rows limits bytes before r kept none fields so_far false is =
    subst AreRowNames (sym (row_names-append before (r ∷ []) ∙ ap (λ l. row_names before ++ l) (row_names_of r false is) ∙ append-nil (row_names before))) so_far

-- pairs of columns

-- its row stands among the names, and its value is a number
pub record IsKnown (names : List Word) (p : Pair) : Type 0 where
  pub row : is_one_of names p.0 ≡ true
  pub value : is_none (number p.1) ≡ false

or_more : (a b : Bool) → a ≡ true → (a || b) ≡ true
or_more true b e = refl
or_more false b e = cc

one_of-append : (names more : List Word) (word : Word) → is_one_of names word ≡ true → is_one_of (names ++ more) word ≡ true
one_of-append names more word is = list_any-append (bytes_eq word) names more ∙ or_more (is_one_of names word) (is_one_of more word) is

still_known : (names more : List Word) (pairs : List Pair) → AllByRecursion (IsKnown names) pairs → AllByRecursion (IsKnown (names ++ more)) pairs
still_known names more pairs all = all_weaker (IsKnown names) (IsKnown (names ++ more)) (λ p known. record { row = one_of-append names more p.0 known.row; value = known.value }) pairs all

known_pairs : (limits : Limits) (before : List Record) (name : Word) (pairs earlier : List Pair) → NoneHolds (each_pair (entry_conditions limits before name) earlier pairs) → AllByRecursion (IsKnown (row_names before)) pairs
known_pairs limits before name [] earlier none = tt
known_pairs limits before name (pair ∷ pairs) earlier none =
    let others = each_pair (entry_conditions limits before name) (earlier ++ pair ∷ []) pairs in
    let here : NoneHolds (entry_conditions limits before name earlier pair) = earlier_hold (entry_conditions limits before name earlier pair) others none in (
      record { row = not_is_false (is_one_of (row_names before) pair.0) here.0; value = here.1.1.0 },
      known_pairs limits before name pairs (earlier ++ pair ∷ []) (later_hold (entry_conditions limits before name earlier pair) others none),
    )

abbrev pub PairsKnown : List Record → Type 0
PairsKnown records = AllByRecursion (IsKnown (row_names records)) (all_pairs records)

pairs_case : (limits : Limits) (bytes : List ℕ) (before : List Record) (r : Record) → is_kept r ≡ true → fault_after limits bytes before r ≡ None
    → (a b : Bool) → stands_in Columns r ≡ a → is_marker r ≡ b → AllByRecursion (IsKnown (row_names before)) (cond (a && not b) (entry_pairs r) [])
pairs_case limits bytes before r kept none true false is mark =
    let passed : NoneHolds (column_conditions limits before r) = judged_column limits bytes before r kept none is mark in
    known_pairs limits before (field 0 r) (entry_pairs r) [] passed.1.1.1
pairs_case limits bytes before r kept none true true is mark = tt
pairs_case limits bytes before r kept none false b is mark = tt

sound_pairs : (limits : Limits) (bytes : List ℕ) (before : List Record) (r : Record) → is_kept r ≡ true → fault_after limits bytes before r ≡ None → PairsKnown before → PairsKnown (before ++ r ∷ [])
sound_pairs limits bytes before r kept none so_far =
    let known = IsKnown (row_names before ++ row_names (r ∷ [])) in
    let own : AllByRecursion (IsKnown (row_names before)) (all_pairs (r ∷ [])) =
    subst (AllByRecursion (IsKnown (row_names before))) (sym (pairs_on r (stands_in Columns r) (is_marker r) refl refl)) (pairs_case limits bytes before r kept none (stands_in Columns r) (is_marker r) refl refl) in
    let all : AllByRecursion known (all_pairs before ++ all_pairs (r ∷ [])) =
    all_append known (all_pairs before) (all_pairs (r ∷ [])) (still_known (row_names before) (row_names (r ∷ [])) (all_pairs before) so_far) (still_known (row_names before) (row_names (r ∷ [])) (all_pairs (r ∷ [])) own) in
    let Known : List Word → Type 0 = λ names. AllByRecursion (IsKnown names) (all_pairs (before ++ r ∷ [])) in
    subst Known (sym (row_names-append before (r ∷ []))) (subst (AllByRecursion known) (sym (all_pairs-append before (r ∷ []))) all)

-- each row once in a column

abbrev pub firsts : List Pair → List Word
firsts pairs = map (λ (p : Pair). p.0) pairs

names_row_is : (pairs : List Pair) (row : Word) → names_row pairs row ≡ is_one_of (firsts pairs) row
names_row_is [] row = refl
names_row_is (pair ∷ pairs) row = ap (λ b. bytes_eq row pair.0 || b) (names_row_is pairs row)

distinct_pairs : (limits : Limits) (before : List Record) (name : Word) (pairs earlier : List Pair) → NoneHolds (each_pair (entry_conditions limits before name) earlier pairs)
    → AreDistinct (firsts (pairs_of_column before name ++ earlier)) → AreDistinct (firsts (pairs_of_column before name ++ (earlier ++ pairs)))
distinct_pairs limits before name [] earlier none so_far = subst (λ (l : List Pair). AreDistinct (firsts (pairs_of_column before name ++ l))) (sym (append-nil earlier)) so_far
distinct_pairs limits before name (pair ∷ pairs) earlier none so_far =
    let own = pairs_of_column before name in
    let others = each_pair (entry_conditions limits before name) (earlier ++ pair ∷ []) pairs in
    let here : NoneHolds (entry_conditions limits before name earlier pair) = earlier_hold (entry_conditions limits before name earlier pair) others none in
    let pushed : AreDistinct (firsts (own ++ earlier) ++ pair.0 ∷ []) = distinct_push (firsts (own ++ earlier)) pair.0 so_far (sym (names_row_is (own ++ earlier) pair.0) ∙ here.1.0) in
    let now : AreDistinct (firsts (own ++ (earlier ++ pair ∷ []))) =
    subst AreDistinct (sym (ap firsts (sym (append_assoc own earlier (pair ∷ []))) ∙ map-append (λ (p : Pair). p.0) (own ++ earlier) (pair ∷ []))) pushed in
    let next = distinct_pairs limits before name pairs (earlier ++ pair ∷ []) (later_hold (entry_conditions limits before name earlier pair) others none) now in
    subst (λ (l : List Pair). AreDistinct (firsts (own ++ l))) (append_assoc earlier (pair ∷ []) pairs) next

pairs_of_column-append : (records others : List Record) (name : Word) → pairs_of_column (records ++ others) name ≡ pairs_of_column records name ++ pairs_of_column others name
pairs_of_column-append records others name =
    ap (λ l. flat_map entry_pairs (filter (names_column name) l)) (column_records-append records others)
    ∙ ap (flat_map entry_pairs) (filter-append (names_column name) (column_records records) (column_records others))
    ∙ flat_map-append entry_pairs (filter (names_column name) (column_records records)) (filter (names_column name) (column_records others))

abbrev pub RowsOnce : List Record → Type 0
RowsOnce records = (name : Word) → AreDistinct (firsts (pairs_of_column records name))

-- the pairs of a line that a column's name stands on
own_case : (r : Record) (name : Word) (a b c : Bool) → stands_in Columns r ≡ a → is_marker r ≡ b → bytes_eq name (field 0 r) ≡ c
    → pairs_of_column (r ∷ []) name ≡ cond ((a && not b) && c) (entry_pairs r) []
own_case r name true true c is mark named =
    ap (λ a. flat_map entry_pairs (filter (names_column name) (filter (λ x. not (is_marker x)) (cond a (r ∷ []) [])))) is
    ∙ ap (λ b. flat_map entry_pairs (filter (names_column name) (cond (not b) (r ∷ []) []))) mark
own_case r name true false c is mark named =
    ap (λ a. flat_map entry_pairs (filter (names_column name) (filter (λ x. not (is_marker x)) (cond a (r ∷ []) [])))) is
    ∙ ap (λ b. flat_map entry_pairs (filter (names_column name) (cond (not b) (r ∷ []) []))) mark
    ∙ ap₂ (λ b d. flat_map entry_pairs (cond (not b && d) (r ∷ []) [])) mark named
    ∙ ended c
  where
    ended : (d : Bool) → flat_map entry_pairs (cond (not false && d) (r ∷ []) []) ≡ cond d (entry_pairs r) []
    ended true = append-nil (entry_pairs r)
    ended false = refl
own_case r name false b c is mark named =
    ap (λ a. flat_map entry_pairs (filter (names_column name) (filter (λ x. not (is_marker x)) (cond a (r ∷ []) [])))) is

once_case : (limits : Limits) (bytes : List ℕ) (before : List Record) (r : Record) → is_kept r ≡ true → fault_after limits bytes before r ≡ None → (name : Word)
    → AreDistinct (firsts (pairs_of_column before name))
    → (a b c : Bool) → stands_in Columns r ≡ a → is_marker r ≡ b → bytes_eq name (field 0 r) ≡ c
    → AreDistinct (firsts (pairs_of_column before name ++ cond ((a && not b) && c) (entry_pairs r) []))
once_case limits bytes before r kept none name so_far true false true is mark named =
    let passed : NoneHolds (column_conditions limits before r) = judged_column limits bytes before r kept none is mark in
    let same : name ≡ field 0 r = equal_words name (field 0 r) named in
    let Judged : Word → Type 0 = λ n. NoneHolds (each_pair (entry_conditions limits before n) [] (entry_pairs r)) in
    distinct_pairs limits before name (entry_pairs r) [] (subst Judged (sym same) passed.1.1.1) (subst (λ (l : List Pair). AreDistinct (firsts l)) (sym (append-nil (pairs_of_column before name))) so_far)
once_case limits bytes before r kept none name so_far true false false is mark named = subst (λ (l : List Pair). AreDistinct (firsts l)) (sym (append-nil (pairs_of_column before name))) so_far
once_case limits bytes before r kept none name so_far true true c is mark named = subst (λ (l : List Pair). AreDistinct (firsts l)) (sym (append-nil (pairs_of_column before name))) so_far
once_case limits bytes before r kept none name so_far false b c is mark named = subst (λ (l : List Pair). AreDistinct (firsts l)) (sym (append-nil (pairs_of_column before name))) so_far

sound_once : (limits : Limits) (bytes : List ℕ) (before : List Record) (r : Record) → is_kept r ≡ true → fault_after limits bytes before r ≡ None → RowsOnce before → RowsOnce (before ++ r ∷ [])
sound_once limits bytes before r kept none so_far name =
    let own = own_case r name (stands_in Columns r) (is_marker r) (bytes_eq name (field 0 r)) refl refl refl in
    let e = pairs_of_column-append before (r ∷ []) name ∙ ap (λ l. pairs_of_column before name ++ l) own in
    subst (λ (l : List Pair). AreDistinct (firsts l)) (sym e) (once_case limits bytes before r kept none name (so_far name) (stands_in Columns r) (is_marker r) (bytes_eq name (field 0 r)) refl refl refl)

-- records of columns

pub record IsColumnLine (r : Record) : Type 0 where
  pub name : IsName (field 0 r)
  pub some : 0 < length (entry_pairs r)
  pub entries : is_marker r ≡ false

three_fields : (n : ℕ) → not (n == 3 || n == 5) ≡ false → 3 ≤ n
three_fields n is = grind (arith, nat_tests)

first_field : (fields : List Word) → 3 ≤ length fields → AllByRecursion IsField fields → IsField (unwrap_or (slice_get fields 0) [])
first_field [] some all = absurd (omega (arith, some))
first_field (word ∷ fields) some all = all.0

some_pairs : (fields : List Word) → 3 ≤ length fields → 0 < length (pairs_of (rest fields))
some_pairs [] some = absurd (omega (arith, some))
some_pairs (a ∷ []) some = absurd (omega (arith, some))
some_pairs (a ∷ b ∷ []) some = absurd (omega (arith, some))
some_pairs (a ∷ b ∷ c ∷ fields) some = omega arith

column_line : (limits : Limits) (bytes : List ℕ) (before : List Record) (r : Record) → is_kept r ≡ true → fault_after limits bytes before r ≡ None → AllByRecursion IsField r.fields
    → stands_in Columns r ≡ true → is_marker r ≡ false → IsColumnLine r
column_line limits bytes before r kept none fields is mark =
    let whole : NoneHolds (columns_conditions limits before r) = judged_data Columns limits bytes before r kept none is in
    let passed : NoneHolds (column_conditions limits before r) = judged_column limits bytes before r kept none is mark in
    let three : 3 ≤ length r.fields = three_fields (length r.fields) whole.0 in
    record { name = is_name (field 0 r) (first_field r.fields three fields) passed.0; some = some_pairs r.fields three; entries = mark }

line_case : (limits : Limits) (bytes : List ℕ) (before : List Record) (r : Record) → is_kept r ≡ true → fault_after limits bytes before r ≡ None → AllByRecursion IsField r.fields
    → (a b : Bool) → stands_in Columns r ≡ a → is_marker r ≡ b → AllByRecursion IsColumnLine (filter (λ x. not (is_marker x)) (cond a (r ∷ []) []))
line_case limits bytes before r kept none fields true true is mark = subst (λ (b : Bool). AllByRecursion IsColumnLine (cond (not b) (r ∷ []) [])) (sym mark) tt
line_case limits bytes before r kept none fields true false is mark = subst (λ (b : Bool). AllByRecursion IsColumnLine (cond (not b) (r ∷ []) [])) (sym mark) (column_line limits bytes before r kept none fields is mark, tt)
line_case limits bytes before r kept none fields false b is mark = tt

sound_columns : (limits : Limits) (bytes : List ℕ) (before : List Record) (r : Record) → is_kept r ≡ true → fault_after limits bytes before r ≡ None → AllByRecursion IsField r.fields
    → AllByRecursion IsColumnLine (column_records before) → AllByRecursion IsColumnLine (column_records (before ++ r ∷ []))
sound_columns limits bytes before r kept none fields so_far =
    subst (AllByRecursion IsColumnLine) (sym (column_records-append before (r ∷ [])))
    (all_append IsColumnLine (column_records before) (column_records (r ∷ [])) so_far (line_case limits bytes before r kept none fields (stands_in Columns r) (is_marker r) refl refl))

-- the model's name

name_case : (fields : List Word) (o : Option Word) → AllByRecursion IsField fields → slice_get fields 1 ≡ o → is_long (unwrap_or (slice_get fields 1) []) ≡ false → AllByRecursion IsModelName (cons_option o [])
name_case fields None all is short = tt
name_case fields (Some word) all is short =
    let at = at_place fields 1 word all is in
    (subst IsModelName (sym at.0) (ap (λ b. b && nat_le (length (unwrap_or (slice_get fields 1) [])) 255) (subst (λ (w : Word). list_all is_name_byte w ≡ true) at.0 at.1.bytes) ∙ short_name (unwrap_or (slice_get fields 1) []) short), tt)

header_case : (limits : Limits) (bytes : List ℕ) (before : List Record) (r : Record) → is_kept r ≡ true → fault_after limits bytes before r ≡ None → AllByRecursion IsField r.fields
    → (h s : Bool) → r.header ≡ h → same_section Name r.section ≡ s → AllByRecursion IsModelName (cons_option (cond s (slice_get r.fields 1) None) [])
header_case limits bytes before r kept none fields true true header is =
    let passed : NoneHolds (header_conditions before r) = judged_header limits bytes before r kept none header in
    let short : is_long (field 1 r) ≡ false = ap (λ b. b && is_long (field 1 r)) (sym is) ∙ passed.1.1.1.1.0 in
    name_case r.fields (slice_get r.fields 1) fields refl short
header_case limits bytes before r kept none fields false true header is =
    let passed = judged_data Name limits bytes before r kept none (ap₂ (λ a b. not a && b) header is) in
    absurd (true≢false passed.0)
header_case limits bytes before r kept none fields h false header is = tt

abbrev pub ModelNames : List Record → Type 0
ModelNames records = AllByRecursion IsModelName (filter_map name_in records)

sound_name : (limits : Limits) (bytes : List ℕ) (before : List Record) (r : Record) → is_kept r ≡ true → fault_after limits bytes before r ≡ None → AllByRecursion IsField r.fields → ModelNames before → ModelNames (before ++ r ∷ [])
sound_name limits bytes before r kept none fields so_far =
    subst (AllByRecursion IsModelName) (sym (filter_map-append name_in before (r ∷ [])))
    (all_append IsModelName (filter_map name_in before) (filter_map name_in (r ∷ [])) so_far (header_case limits bytes before r kept none fields r.header (same_section Name r.section) refl refl))

-- all of it

pub record IsSound (records : List Record) : Type 0 where
  pub name : ModelNames records
  pub rows : AreRowNames (row_names records)
  pub columns : AllByRecursion IsColumnLine (column_records records)
  pub known : PairsKnown records
  pub once : RowsOnce records

pub stays_sound : (limits : Limits) (bytes : List ℕ) → Stays IsSound limits bytes
stays_sound limits bytes before n section line is_line kept none so_far =
    let r = record_of n section line in
    let fields = record_fields line is_line in
    record {
      name = sound_name limits bytes before r kept none fields so_far.name;
      rows = sound_rows limits bytes before r kept none fields so_far.rows (stands_in Rows r) refl;
      columns = sound_columns limits bytes before r kept none fields so_far.columns;
      known = sound_pairs limits bytes before r kept none so_far.known;
      once = sound_once limits bytes before r kept none so_far.once;
    }

pub none_sound : IsSound []
none_sound = record { name = tt; rows = record { good = tt; distinct = tt }; columns = tt; known = tt; once = λ name. tt }
