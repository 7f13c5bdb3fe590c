-- What the words of the model become when one record more is taken.
use Rattle.std.proofs.Common.{◌≡◌, refl, sym, ap, ◌∙◌, arith, ℕ, suc, ◌+◌, Bool, true, false, cond, not, ◌&&◌, ◌||◌, List, [], ◌∷◌, ◌++◌, append-nil, map, filter, filter_map, find, bytes_eq, Option, Some, None, option_map, option_and_then, is_some, take}
use Rattle.std.specs.List.{list_any, before_first, position_or_len}
use Rattle.std.proofs.lemmas.List.{map-append}
use Rattle.std.proofs.lemmas.List.Elements.{filter-append, filter_map-append}
use Rattle.cgl_num.specs.NumberText.{Word, number}
use Rattle.cgl_text.specs.Text.{is_one_of}
use Rattle.cgl_decode.specs.declared.kinds.Section.TheVariants.{Columns, Rows}
use Rattle.cgl_decode.specs.Records.{Record, field, same_section, data_in}
use Rattle.cgl_decode.specs.Sections.{Pair, is_marker, names_column, column_records, column_names, distinct, row_in, rows, row_names}
use Rattle.cgl_decode.specs.Faults.{names_row}
use Rattle.cgl_decode.specs.Models.{value_at, value_for}
use Rattle.cgl_decode.proofs.CountLaws.{distinct-push}

-- values of rows

value_case : (o : Option Pair) → option_and_then (λ (p : Pair). number p.1) o ≡ option_and_then number (option_map (λ (p : Pair). p.1) o)
value_case None = refl
value_case (Some p) = refl

pub value_read : (pairs : List Pair) (row : Word) → value_at pairs row ≡ option_and_then number (value_for pairs row)
value_read pairs row = value_case (find (λ (p : Pair). bytes_eq row p.0) pairs)

named_case : (pair : Pair) (b : Bool) (others : Option Pair) (named : Bool) → named ≡ is_some (option_map (λ (p : Pair). p.1) others) → (b || named) ≡ is_some (option_map (λ (p : Pair). p.1) (cond b (Some pair) others))
named_case pair true others named so_far = refl
named_case pair false others named so_far = so_far

pub row_named : (pairs : List Pair) (row : Word) → names_row pairs row ≡ is_some (value_for pairs row)
row_named [] row = refl
row_named (pair ∷ pairs) row = named_case pair (bytes_eq row pair.0) (find (λ (p : Pair). bytes_eq row p.0) pairs) (names_row pairs row) (row_named pairs row)

-- markers before a column's first record

pub before_first-first : {X : Type 0} (p : X → Bool) (x : X) (xs : List X) → before_first p (x ∷ xs) ≡ cond (p x) [] (x ∷ before_first p xs)
before_first-first p x xs = taken (p x) (position_or_len p xs)
  where
    taken : (b : Bool) (k : ℕ) → take (cond (not b) (1 + k) 0) (x ∷ xs) ≡ cond b [] (x ∷ take k xs)
    taken true k = refl
    taken false k = let e : 1 + k ≡ suc k = omega arith in ap (λ n. take n (x ∷ xs)) e

-- column names

passed : {X : Type 0} (q p : X → Bool) (x : X) (l : List X) → list_any (λ y. q y && p y) l ≡ list_any p l → (b : Bool) → q x ≡ b → list_any (λ y. q y && p y) (cond b (x ∷ l) l) ≡ list_any p (cond b (x ∷ l) l)
passed q p x l so_far true e = ap (λ c. (c && p x) || list_any (λ y. q y && p y) l) e ∙ ap (λ c. p x || c) so_far
passed q p x l so_far false e = so_far

any_passed : {X : Type 0} (q p : X → Bool) (xs : List X) → list_any (λ x. q x && p x) (filter q xs) ≡ list_any p (filter q xs)
any_passed q p [] = refl
any_passed q p (x ∷ xs) = passed q p x (filter q xs) (any_passed q p xs) (q x) refl

any_field : (name : Word) (rs : List Record) → list_any (λ r. bytes_eq name (field 0 r)) rs ≡ is_one_of (map (field 0) rs) name
any_field name [] = refl
any_field name (r ∷ rs) = ap (λ b. bytes_eq name (field 0 r) || b) (any_field name rs)

-- a column is named by some record where its name is one of theirs
pub any_named : (name : Word) (rs : List Record) → list_any (names_column name) (column_records rs) ≡ is_one_of (map (field 0) (column_records rs)) name
any_named name rs = any_passed (λ r. not (is_marker r)) (λ r. bytes_eq name (field 0 r)) (data_in Columns rs) ∙ any_field name (column_records rs)

column_case : (records : List Record) (r : Record) (a b : Bool) → (not (is_marker r)) ≡ b
    → distinct (map (field 0) (column_records records ++ filter (λ x. not (is_marker x)) (cond a (r ∷ []) [])))
    ≡ column_names records ++ cond ((a && b) && not (is_one_of (map (field 0) (column_records records)) (field 0 r))) (field 0 r ∷ []) []
column_case records r true true e =
    ap (λ c. distinct (map (field 0) (column_records records ++ cond c (r ∷ []) []))) e
    ∙ ap distinct (map-append (field 0) (column_records records) (r ∷ []))
    ∙ distinct-push (map (field 0) (column_records records)) (field 0 r)
    ∙ ap (λ l. column_names records ++ l) (turned (is_one_of (map (field 0) (column_records records)) (field 0 r)))
  where
    turned : (c : Bool) → cond c [] (field 0 r ∷ []) ≡ cond (not c) (field 0 r ∷ []) []
    turned true = refl
    turned false = refl
column_case records r true false e =
    ap (λ c. distinct (map (field 0) (column_records records ++ cond c (r ∷ []) []))) e
    ∙ ap (λ l. distinct (map (field 0) l)) (append-nil (column_records records))
    ∙ sym (append-nil (column_names records))
column_case records r false b e = ap (λ l. distinct (map (field 0) l)) (append-nil (column_records records)) ∙ sym (append-nil (column_names records))

pub column_names-push : (records : List Record) (r : Record)
    → column_names (records ++ r ∷ [])
    ≡ column_names records ++ cond (((not r.header && same_section Columns r.section) && not (is_marker r)) && not (list_any (names_column (field 0 r)) (column_records records))) (field 0 r ∷ []) []
column_names-push records r =
    let stands : Record → Bool = λ x. not x.header && same_section Columns x.section in
    let entries : Record → Bool = λ x. not (is_marker x) in
    ap (λ l. distinct (map (field 0) l)) (ap (filter entries) (filter-append stands records (r ∷ [])) ∙ filter-append entries (filter stands records) (filter stands (r ∷ [])))
    ∙ column_case records r (not r.header && same_section Columns r.section) (not (is_marker r)) refl
    ∙ sym (ap (λ c. column_names records ++ cond (((not r.header && same_section Columns r.section) && not (is_marker r)) && not c) (field 0 r ∷ []) []) (any_named (field 0 r) records))

-- records that are added at the end

pub column_records-append : (records others : List Record) → column_records (records ++ others) ≡ column_records records ++ column_records others
column_records-append records others =
    let stands : Record → Bool = λ x. not x.header && same_section Columns x.section in
    let entries : Record → Bool = λ x. not (is_marker x) in
    ap (filter entries) (filter-append stands records others) ∙ filter-append entries (filter stands records) (filter stands others)

pub rows-append : (records others : List Record) → rows (records ++ others) ≡ rows records ++ rows others
rows-append records others =
    ap (filter_map (λ r. row_in r.fields)) (filter-append (λ r. not r.header && same_section Rows r.section) records others)
    ∙ filter_map-append (λ r. row_in r.fields) (data_in Rows records) (data_in Rows others)

pub row_names-append : (records others : List Record) → row_names (records ++ others) ≡ row_names records ++ row_names others
row_names-append records others = ap (map (λ r. r.1)) (rows-append records others) ∙ map-append (λ r. r.1) (rows records) (rows others)
