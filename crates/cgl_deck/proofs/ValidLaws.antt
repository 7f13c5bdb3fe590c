-- The extension of a valid model is valid.
use Rattle.std.proofs.Common.{◌≡◌, ◌≢◌, List, ℕ, zero, suc, ◌+◌, ◌%◌, ◌^◌, ◌<◌, ◌≤◌, [], ◌∷◌, ◌++◌, length, filter, map, take, ap, refl, sym, ◌∙◌, Bool, true, false, ◌||◌, ◌&&◌, inl, inr, arith, decimal, subst, length-append, nat_lt, nat_le, eqb, Option, None, Some, lit<}
use Rattle.std.specs.List.{list_all, list_any, AllByRecursion, zip}
use Rattle.std.specs.Str.{bytes_eq}
use Rattle.std.proofs.lemmas.Bool.{and_from, both_ways, cases_Bool, le-leb, lt-ltb, ne_eqb, not-true, not_from_false, or_from, or_parts}
use Rattle.std.proofs.lemmas.Fmt.{decimal_by_steps, length-decimal-le}
use Rattle.std.proofs.lemmas.List.{length-map}
use Rattle.std.proofs.lemmas.List.Folds.{list_all-append, list_any-append}
use Rattle.std.proofs.lemmas.Slice.Eq.{bytes_eq-Decides}
use Rattle.cgl_num.specs.Decimal.{Decimal}
use Rattle.cgl_num.specs.NumberText.{Word}
use Rattle.cgl_text.specs.Text.{is_one_of}
use Rattle.cgl_model.specs.declared.linear.Ineq.{Ineq}
use Rattle.cgl_model.specs.declared.mip.Column.{Column}
use Rattle.cgl_model.specs.declared.mip.Model.{Model}
use Rattle.cgl_model.specs.RowEntries.{onto_entries}
use Rattle.cgl_model.specs.Valid.{AreDistinct, AreDistinctRows, IsColumn, IsRowName, IsSized, IsValid, is_name_byte}
use Rattle.cgl_deck.specs.CutNames.{cut_name, cut_names, is_unused, numbers_from}
use Rattle.cgl_deck.specs.Extended.{coefficient_at, cut_entries, cut_row, extended, extended_column, extended_columns_from, with_rows}
use Rattle.cgl_deck.proofs.CountLaws.{IsSpread, names_enough, names_spread, other_bytes}
use Rattle.cgl_deck.proofs.ExtensionLaws.{extension_of, with_rows_few, with_rows_sized}

-- ---- lists of names

pub all_append : {X : Type 0} (P : X → Type 0) (a b : List X) → AllByRecursion P a → AllByRecursion P b → AllByRecursion P (a ++ b)
all_append P [] b h k = k
all_append P (x ∷ a) b h k = (h.0, all_append P a b h.1 k)

all_filter : {X : Type 0} (P : X → Type 0) (p : X → Bool) (xs : List X) → AllByRecursion P xs → AllByRecursion P (filter p xs)
all_filter P p [] h = tt
all_filter P p (x ∷ xs) h =
    elim (cases_Bool (p x)) [
      | inl e ↦ rw e (h.0, all_filter P p xs h.1)
      | inr e ↦ rw e (all_filter P p xs h.1)
    ]

all_pass : {X : Type 0} (p : X → Bool) (xs : List X) → AllByRecursion (λ x. p x ≡ true) (filter p xs)
all_pass p [] = tt
all_pass p (x ∷ xs) =
    elim (cases_Bool (p x)) [
      | inl e ↦ rw e (e, all_pass p xs)
      | inr e ↦ rw e (all_pass p xs)
    ]

all_take : {X : Type 0} (P : X → Type 0) (n : ℕ) (xs : List X) → AllByRecursion P xs → AllByRecursion P (take n xs)
all_take P zero xs h = tt
all_take P (suc n) [] h = tt
all_take P (suc n) (x ∷ xs) h = (h.0, all_take P n xs h.1)

spread_filter : (p : Word → Bool) (ws : List Word) → IsSpread ws → IsSpread (filter p ws)
spread_filter p [] h = tt
spread_filter p (w ∷ ws) h =
    elim (cases_Bool (p w)) [
      | inl e ↦ rw e (all_filter (λ u. w ≢ u) p ws h.0, spread_filter p ws h.1)
      | inr e ↦ rw e (spread_filter p ws h.1)
    ]

spread_take : (n : ℕ) (ws : List Word) → IsSpread ws → IsSpread (take n ws)
spread_take zero ws h = tt
spread_take (suc n) [] h = tt
spread_take (suc n) (w ∷ ws) h = (all_take (λ u. w ≢ u) n ws h.0, spread_take n ws h.1)

none_same : (w : Word) (ws : List Word) → AllByRecursion (λ u. w ≢ u) ws → is_one_of ws w ≡ false
none_same w [] h = refl
none_same w (u ∷ ws) h = or_from (bytes_eq w u) (is_one_of ws w) (other_bytes w u h.0) (none_same w ws h.1)

spread_distinct : (ws : List Word) → IsSpread ws → AreDistinct ws
spread_distinct [] h = tt
spread_distinct (w ∷ ws) h = (not_from_false (is_one_of ws w) (none_same w ws h.0), spread_distinct ws h.1)

different : (u v : Word) → bytes_eq u v ≡ false → u ≡ v → ⊥
different u v unlike e = both_ways (bytes_eq u v) unlike ((bytes_eq-Decides u v).1 e)

others_of : (x : Word) (a b : List Word) → AllByRecursion (λ w. is_one_of (x ∷ a) w ≡ false) b → AllByRecursion (λ u. x ≢ u) b
others_of x a [] h = tt
others_of x a (w ∷ b) h =
    let ne : x ≢ w = λ e. let unlike = (or_parts (bytes_eq w x) (is_one_of a w) h.0).0 in different w x unlike (sym e) in
    (ne, others_of x a b h.1)

further_of : (x : Word) (a b : List Word) → AllByRecursion (λ w. is_one_of (x ∷ a) w ≡ false) b → AllByRecursion (λ w. is_one_of a w ≡ false) b
further_of x a [] h = tt
further_of x a (w ∷ b) h = ((or_parts (bytes_eq w x) (is_one_of a w) h.0).1, further_of x a b h.1)

distinct_append : (a b : List Word) → AreDistinct a → AreDistinct b → AllByRecursion (λ w. is_one_of a w ≡ false) b → AreDistinct (a ++ b)
distinct_append [] b h k unlike = k
distinct_append (x ∷ a) b h k unlike =
    let here : is_one_of a x ≡ false = not-true (is_one_of a x) h.0 in
    let both : is_one_of (a ++ b) x ≡ false = list_any-append (bytes_eq x) a b ∙ or_from (is_one_of a x) (is_one_of b x) here (none_same x b (others_of x a b unlike)) in
    (not_from_false (is_one_of (a ++ b) x) both, distinct_append a b h.1 k (further_of x a b unlike))

-- ---- a cut's name

name_byte : (b : ℕ) → 48 ≤ b → is_name_byte b ≡ true
name_byte b le =
    let blank = or_from (eqb b 32 || eqb b 9) (eqb b 13) (or_from (eqb b 32) (eqb b 9) (ne_eqb b 32 (λ e. omega arith)) (ne_eqb b 9 (λ e. omega arith))) (ne_eqb b 13 (λ e. omega arith)) in
    not_from_false _ (or_from _ (eqb b 10) blank (ne_eqb b 10 (λ e. omega arith)))

name_digits : (k : ℕ) → k < 2 ^ 64 → list_all is_name_byte (decimal k) ≡ true
name_digits k small =
    decimal_by_steps (λ n ds. list_all is_name_byte ds ≡ true)
    (λ n lt. and_from (is_name_byte (48 + n)) true (name_byte (48 + n) (omega arith)) refl)
    (λ n ds le h. list_all-append is_name_byte ds ((48 + n % 10) ∷ [])
    ∙ and_from (list_all is_name_byte ds) (is_name_byte (48 + n % 10) && true) h (and_from (is_name_byte (48 + n % 10)) true (name_byte (48 + n % 10) (omega arith)) refl))
    k small

row_name_of_cut : (k : ℕ) → k < 2 ^ 64 → IsRowName (cut_name k)
row_name_of_cut k small =
    let short : length (decimal k) ≤ 20 = length-decimal-le 20 k (lit< tt) (omega arith) small in
    let some : nat_lt 0 (length (cut_name k)) ≡ true = lt-ltb 0 (length (cut_name k)) (omega arith) in
    let few : nat_le (length (cut_name k)) 255 ≡ true = le-leb (length (cut_name k)) 255 (omega arith) in
    (and_from _ _ (and_from _ _ some (name_digits k small)) few, refl)

names_of_cuts : (k n : ℕ) → k + n ≤ 2 ^ 64 → AllByRecursion IsRowName (map cut_name (numbers_from k n))
names_of_cuts k zero le = tt
names_of_cuts k (suc n) le = (row_name_of_cut k (omega arith), names_of_cuts (k + 1) n (omega arith))

-- ---- names of rows and columns

abbrev row_names : Model → List Word
row_names m = map (λ r. r.name) m.rows

map_append : {X Y : Type 0} (f : X → Y) (a b : List X) → map f (a ++ b) ≡ map f a ++ map f b
map_append f [] b = refl
map_append f (x ∷ a) b = ap (λ l. f x ∷ l) (map_append f a b)

names_of_rows : (names : List Word) (cuts : List Ineq) → length names ≡ length cuts → map (λ r. r.name) (map cut_row (zip names cuts)) ≡ names
names_of_rows [] cuts e = refl
names_of_rows (w ∷ names) [] e = absurd (omega arith)
names_of_rows (w ∷ names) (c ∷ cuts) e = ap (λ l. w ∷ l) (names_of_rows names cuts (omega arith))

column_names : (first j : ℕ) (cuts : List Ineq) (cols : List Column) → map (λ c. c.name) (extended_columns_from first j cuts cols) ≡ map (λ c. c.name) cols
column_names first j cuts [] = refl
column_names first j cuts (c ∷ cols) = ap (λ l. c.name ∷ l) (column_names first (j + 1) cuts cols)

all_named : {X : Type 0} (P : Word → Type 0) (name : X → Word) (xs : List X) → AllByRecursion P (map name xs) → AllByRecursion (λ x. P (name x)) xs
all_named P name [] h = tt
all_named P name (x ∷ xs) h = (h.0, all_named P name xs h.1)

-- ---- entries

abbrev Entry : Type 0
Entry = ℕ × Decimal

all_onto : (P : Entry → Type 0) (r : ℕ) (o : Option Decimal) (es : List Entry) → ((d : Decimal) → P (r, d)) → AllByRecursion P es → AllByRecursion P (onto_entries r o es)
all_onto P r None es here h = h
all_onto P r (Some d) es here h = (here d, h)

entries_below : (j r last : ℕ) (cuts : List Ineq) → r + length cuts ≤ last → AllByRecursion (λ e. e.0 < last) (cut_entries j r cuts)
entries_below j r last [] le = tt
entries_below j r last (c ∷ cuts) le =
    all_onto (λ e. e.0 < last) r (coefficient_at j c.terms) (cut_entries j (r + 1) cuts) (λ d. omega arith) (entries_below j (r + 1) last cuts (omega arith))

entries_from : (j r first : ℕ) (cuts : List Ineq) → first ≤ r → AllByRecursion (λ e. first ≤ e.0) (cut_entries j r cuts)
entries_from j r first [] le = tt
entries_from j r first (c ∷ cuts) le =
    all_onto (λ e. first ≤ e.0) r (coefficient_at j c.terms) (cut_entries j (r + 1) cuts) (λ d. le) (entries_from j (r + 1) first cuts (omega arith))

not_among : (r : ℕ) (es : List Entry) → AllByRecursion (λ e. r + 1 ≤ e.0) es → list_any (λ other. eqb r other.0) es ≡ false
not_among r [] h = refl
not_among r (e ∷ es) h =
    let le : r + 1 ≤ e.0 = h.0 in
    or_from (eqb r e.0) (list_any (λ other. eqb r other.0) es) (ne_eqb r e.0 (λ same. omega arith)) (not_among r es h.1)

distinct_onto : (r : ℕ) (o : Option Decimal) (es : List Entry) → AllByRecursion (λ e. r + 1 ≤ e.0) es → AreDistinctRows es → AreDistinctRows (onto_entries r o es)
distinct_onto r None es above h = h
distinct_onto r (Some d) es above h = (not_from_false (list_any (λ other. eqb r other.0) es) (not_among r es above), h)

new_entries_distinct : (j r : ℕ) (cuts : List Ineq) → AreDistinctRows (cut_entries j r cuts)
new_entries_distinct j r [] = tt
new_entries_distinct j r (c ∷ cuts) =
    distinct_onto r (coefficient_at j c.terms) (cut_entries j (r + 1) cuts) (entries_from j (r + 1) (r + 1) cuts (omega arith)) (new_entries_distinct j (r + 1) cuts)

raised : (r first : ℕ) (es : List Entry) → r < first → AllByRecursion (λ e. first ≤ e.0) es → AllByRecursion (λ e. r + 1 ≤ e.0) es
raised r first [] lt h = tt
raised r first (e ∷ es) lt h = let le : first ≤ e.0 = h.0 in (omega arith, raised r first es lt h.1)

distinct_entries : (first : ℕ) (a b : List Entry) → AreDistinctRows a → AreDistinctRows b → AllByRecursion (λ e. e.0 < first) a → AllByRecursion (λ e. first ≤ e.0) b → AreDistinctRows (a ++ b)
distinct_entries first [] b h k below above = k
distinct_entries first (e ∷ a) b h k below above =
    let here : list_any (λ other. eqb e.0 other.0) a ≡ false = not-true (list_any (λ other. eqb e.0 other.0) a) h.0 in
    let there : list_any (λ other. eqb e.0 other.0) b ≡ false = not_among e.0 b (raised e.0 first b below.0 above) in
    let both : list_any (λ other. eqb e.0 other.0) (a ++ b) ≡ false =
    list_any-append (λ other. eqb e.0 other.0) a b ∙ or_from (list_any (λ other. eqb e.0 other.0) a) (list_any (λ other. eqb e.0 other.0) b) here there in
    (not_from_false (list_any (λ other. eqb e.0 other.0) (a ++ b)) both, distinct_entries first a b h.1 k below.1 above)

weaker : (first last : ℕ) (es : List Entry) → first ≤ last → AllByRecursion (λ e. e.0 < first) es → AllByRecursion (λ e. e.0 < last) es
weaker first last [] le h = tt
weaker first last (e ∷ es) le h = let lt : e.0 < first = h.0 in (omega arith, weaker first last es le h.1)

more : (a b : List Entry) → 0 < length a → 0 < length (a ++ b)
more a b lt = omega (arith, length-append a b)

column_valid : (first last j : ℕ) (cuts : List Ineq) (c : Column) → first + length cuts ≤ last → IsColumn first c → IsColumn last (extended_column first j cuts c)
column_valid first last j cuts c le valid = record {
  name = valid.name;
  some = more (c.entries) (cut_entries j first cuts) valid.some;
  known = all_append (λ e. e.0 < last) c.entries (cut_entries j first cuts) (weaker first last c.entries (omega arith) valid.known) (entries_below j first last cuts le);
  distinct = distinct_entries first c.entries (cut_entries j first cuts) valid.distinct (new_entries_distinct j first cuts) valid.known (entries_from j first first cuts (omega arith));
  lower = valid.lower;
  upper = valid.upper;
}

columns_valid : (first last j : ℕ) (cuts : List Ineq) (cols : List Column) → first + length cuts ≤ last → AllByRecursion (IsColumn first) cols → AllByRecursion (IsColumn last) (extended_columns_from first j cuts cols)
columns_valid first last j cuts [] le h = tt
columns_valid first last j cuts (c ∷ cols) le h = (column_valid first last j cuts c le h.0, columns_valid first last (j + 1) cuts cols le h.1)

-- ---- all

record HasNames (m : Model) (names : List Word) : Type 0 where
  spread : IsSpread names
  unused : AllByRecursion (λ w. is_one_of (row_names m) w ≡ false) names
  valid : AllByRecursion IsRowName names

unused_means : (m : Model) (ws : List Word) → AllByRecursion (λ w. is_unused m w ≡ true) ws → AllByRecursion (λ w. is_one_of (row_names m) w ≡ false) ws
unused_means m [] h = tt
unused_means m (w ∷ ws) h = (not-true (is_one_of (row_names m) w) h.0, unused_means m ws h.1)

has_names : (m : Model) (n : ℕ) → length m.rows + n < 2 ^ 64 → HasNames m (cut_names m n)
unfolding cut_names
has_names m n small =
    let tries = length m.rows + n in
    let ws : List Word = map cut_name (numbers_from 1 tries) in
    record {
      spread = spread_take n (filter (is_unused m) ws) (spread_filter (is_unused m) ws (names_spread 1 tries (omega arith)));
      unused = unused_means m (take n (filter (is_unused m) ws)) (all_take (λ w. is_unused m w ≡ true) n (filter (is_unused m) ws) (all_pass (is_unused m) ws));
      valid = all_take IsRowName n (filter (is_unused m) ws) (all_filter IsRowName (is_unused m) ws (names_of_cuts 1 tries (omega arith)));
    }

extension_valid_names : (m : Model) (cuts : List Ineq) → length m.rows + length cuts ≤ 2 ^ 20 → IsValid m → IsSized (with_rows m cuts) → IsValid (with_rows m cuts)
extension_valid_names m cuts few valid sized =
    let small : length m.rows + length cuts < 2 ^ 64 = omega arith in
    let names = cut_names m (length cuts) in
    let enough : length names ≡ length cuts = names_enough m (length cuts) small in
    let has = has_names m (length cuts) small in
    let added = map cut_row (zip names cuts) in
    let added_names : map (λ r. r.name) added ≡ names = names_of_rows names cuts enough in
    let all_names : map (λ r. r.name) (m.rows ++ added) ≡ row_names m ++ names = map_append (λ r. r.name) m.rows added ∙ ap (λ l. row_names m ++ l) added_names in
    let added_length : length added ≡ length cuts = sym (length-map added (λ r. r.name)) ∙ ap (λ (l : List Word). length l) added_names ∙ enough in
    let last : length (m.rows ++ added) ≡ length m.rows + length added = length-append m.rows added in
    record {
      sized = sized;
      name = valid.name;
      row_names = all_append (λ r. IsRowName r.name) m.rows added valid.row_names (all_named IsRowName (λ r. r.name) added (subst (AllByRecursion IsRowName) (sym added_names) has.valid));
      distinct_rows = subst AreDistinct (sym all_names) (distinct_append (row_names m) names valid.distinct_rows (spread_distinct names has.spread) has.unused);
      columns = columns_valid (length m.rows) (length (m.rows ++ added)) 0 cuts m.cols (omega arith) valid.columns;
      distinct_columns = subst AreDistinct (sym (column_names (length m.rows) 0 cuts m.cols)) valid.distinct_columns;
    }

pub extension_valid : (m n : Model) (cuts : List Ineq) → extended m cuts ≡ Some n → IsValid m → IsValid n
extension_valid m n cuts h valid =
    let e = extension_of m cuts n h in
    subst IsValid e.is (extension_valid_names m cuts (with_rows_few m cuts e.sizes) valid (with_rows_sized m cuts e.sizes valid.sized))
