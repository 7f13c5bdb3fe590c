-- The lines of COLUMNS have no fault: a column's lines stand together, and marker lines between columns.
use Rattle.std.proofs.Common.{◌≡◌, refl, sym, ap, ◌∙◌, subst, arith, ℕ, ◌+◌, ◌==◌, ◌^◌, ◌<◌, ◌≤◌, nat_le, Bool, true, false, cond, not, ◌||◌, List, [], ◌∷◌, ◌++◌, append-nil, append_assoc, length, length-append, map, sum_by, codes, bytes_eq, Some}
use Rattle.std.specs.List.{list_any, AllByRecursion}
use Rattle.std.proofs.lemmas.Bool.{and_left, and_right, eqb-false, not-true, or_from, or_parts}
use Rattle.std.proofs.lemmas.List.Folds.{list_any-append}
use Rattle.std.proofs.lemmas.List.Sums.{sum_by-cons}
use Rattle.cgl_num.specs.Decimal.{Decimal, decimal_text}
use Rattle.cgl_num.specs.NumberText.{Word, number}
use Rattle.cgl_text.specs.Text.{is_one_of}
use Rattle.cgl_model.specs.declared.mip.Row.{Row}
use Rattle.cgl_model.specs.declared.mip.Column.{Column}
use Rattle.cgl_model.specs.Valid.{AreDistinct, AreDistinctRows, IsColumn, IsName, IsRowName}
use Rattle.cgl_decode.specs.Records.{Record}
use Rattle.cgl_decode.proofs.CountLaws.{not_reached}
use Rattle.cgl_decode.proofs.DistinctLaws.{same_word}
use Rattle.cgl_deck.specs.DeckText.{row_name}
use Rattle.cgl_deck.specs.DeckLines.{column_lines, columns_lines, entry_line, marker_line, marker_lines, record_at}
use Rattle.cgl_deck.proofs.PartLaws.{IsGood, Part, first, nothing, then, weaken}
use Rattle.cgl_deck.proofs.RowPartLaws.{front_differs, names_differ, names_of}
use Rattle.cgl_deck.proofs.EntryPartLaws.{InColumn, InColumns, IsFit, entry_after, entry_good, marker_after, new_column}

pub record AreRows (rows : List Row) : Type 0 where
  pub valid : AllByRecursion (λ r. IsRowName r.name) rows
  pub distinct : AreDistinct (names_of rows)

-- entries whose numbers are read back
pub record AreEntries (rows : List Row) (entries : List (ℕ × Decimal)) : Type 0 where
  pub known : AllByRecursion (λ e. e.0 < length rows) entries
  pub distinct : AreDistinctRows entries
  pub read : AllByRecursion (λ e. number (decimal_text e.1) ≡ Some e.1) entries

abbrev IsUnused : List Row → List Word → ℕ × Decimal → Type 0
IsUnused rows used e = is_one_of used (row_name rows e.0) ≡ false

end_differs : (names : List Word) (a b : Word) → is_one_of names a ≡ false → bytes_eq a b ≡ false → is_one_of (names ++ b ∷ []) a ≡ false
end_differs names a b none differ = list_any-append (bytes_eq a) names (b ∷ []) ∙ or_from (is_one_of names a) (bytes_eq a b || false) none (ap (λ c. c || false) differ)

unused_push : (rows : List Row) → AreRows rows → (used : List Word) (e : ℕ × Decimal) (es : List (ℕ × Decimal)) → e.0 < length rows → AllByRecursion (λ o. o.0 < length rows) es
    → list_any (λ o. e.0 == o.0) es ≡ false → AllByRecursion (IsUnused rows used) es → AllByRecursion (IsUnused rows (used ++ row_name rows e.0 ∷ [])) es
unused_push rows good used e [] lt all other unused = tt
unused_push rows good used e (o ∷ es) lt all other unused =
    let parts = or_parts (e.0 == o.0) (list_any (λ o. e.0 == o.0) es) other in (
      end_differs used (row_name rows o.0) (row_name rows e.0) unused.0 (names_differ rows o.0 e.0 all.0 lt (λ same. eqb-false e.0 o.0 parts.0 (sym same)) good.distinct),
      unused_push rows good used e es lt all.1 parts.1 unused.1,
    )

all_unused : (rows : List Row) (es : List (ℕ × Decimal)) → AllByRecursion (IsUnused rows []) es
all_unused rows [] = tt
all_unused rows (e ∷ es) = (refl, all_unused rows es)

entries_tail : (rows : List Row) (e : ℕ × Decimal) (es : List (ℕ × Decimal)) → AreEntries rows (e ∷ es) → AreEntries rows es
entries_tail rows e es h = record { known = h.known.1; distinct = h.distinct.1; read = h.read.1 }

-- the lines behind a column's first one
later_entries : (rows : List Row) → AreRows rows → (names : List Word) (name : Word) → IsName name → is_one_of names name ≡ true
    → (es : List (ℕ × Decimal)) → AreEntries rows es → (used : List Word) (count : ℕ) → AllByRecursion (IsUnused rows used) es → count + length es ≤ 2 ^ 22
    → Part (InColumn (names_of rows) names name used count) (map (entry_line rows name) es) (InColumns (names_of rows) names (count + length es))
later_entries rows good names name valid has [] entries used count unused few =
    nothing (InColumn (names_of rows) names name used count) (InColumns (names_of rows) names (count + 0))
    (λ before h. let e : count ≡ count + 0 = omega arith in subst (λ k. InColumns (names_of rows) names k before) e h.all)
later_entries rows good names name valid has (e ∷ es) entries used count unused few =
    let row = row_name rows e.0 in
    let fit : IsFit rows name e = record { valid = good.valid; named = valid; row = entries.known.0; value = entries.read.0 } in
    let k : (count + 1) + length es ≡ count + length (e ∷ es) = omega arith in
    let same : names ++ cond (is_one_of names name) [] (name ∷ []) ≡ names = ap (λ b. names ++ cond b [] (name ∷ [])) has ∙ append-nil names in
    let more : AllByRecursion (IsUnused rows (used ++ row ∷ [])) es = unused_push rows good used e es entries.known.0 entries.known.1 (not-true (list_any (λ o. e.0 == o.0) es) entries.distinct.0) unused.1 in
    first (InColumn (names_of rows) names name used count) (InColumn (names_of rows) names name (used ++ row ∷ []) (count + 1)) (InColumns (names_of rows) names (count + length (e ∷ es)))
    (entry_line rows name e) (map (entry_line rows name) es)
    (λ before n h. (
      entry_good rows names name used count e fit unused.0 (omega arith) (and_left (not (is_one_of names name)) (nat_le (2 ^ 20) (length names)) (ap not has)) before n h,
      subst (λ l. InColumn (names_of rows) l name (used ++ row ∷ []) (count + 1) (before ++ record_at n (entry_line rows name e) ∷ [])) same (entry_after rows names name used count e fit before n h),
    ))
    (subst (λ c. Part (InColumn (names_of rows) names name (used ++ row ∷ []) (count + 1)) (map (entry_line rows name) es) (InColumns (names_of rows) names c)) k
    (later_entries rows good names name valid has es (entries_tail rows e es entries) (used ++ row ∷ []) (count + 1) more (omega arith)))

or_last : (a b : Bool) → b ≡ true → (a || (b || false)) ≡ true
or_last true b h = refl
or_last false b h = ap (λ c. c || false) h

-- the lines of a column
one_column : (rows : List Row) → AreRows rows → (names : List Word) (name : Word) → IsName name → is_one_of names name ≡ false → length names < 2 ^ 20
    → (es : List (ℕ × Decimal)) → 0 < length es → AreEntries rows es → (count : ℕ) → count + length es ≤ 2 ^ 22
    → Part (InColumns (names_of rows) names count) (map (entry_line rows name) es) (InColumns (names_of rows) (names ++ name ∷ []) (count + length es))
one_column rows good names name valid fresh room [] some entries count few = absurd (omega arith)
one_column rows good names name valid fresh room (e ∷ es) some entries count few =
    let row = row_name rows e.0 in
    let fit : IsFit rows name e = record { valid = good.valid; named = valid; row = entries.known.0; value = entries.read.0 } in
    let k : (count + 1) + length es ≡ count + length (e ∷ es) = omega arith in
    let next : names ++ cond (is_one_of names name) [] (name ∷ []) ≡ names ++ name ∷ [] = ap (λ b. names ++ cond b [] (name ∷ [])) fresh in
    let has : is_one_of (names ++ name ∷ []) name ≡ true = list_any-append (bytes_eq name) names (name ∷ []) ∙ or_last (is_one_of names name) (bytes_eq name name) (same_word name name refl) in
    let more : AllByRecursion (IsUnused rows (row ∷ [])) es = unused_push rows good [] e es entries.known.0 entries.known.1 (not-true (list_any (λ o. e.0 == o.0) es) entries.distinct.0) (all_unused rows es) in
    first (InColumns (names_of rows) names count) (InColumn (names_of rows) (names ++ name ∷ []) name (row ∷ []) (count + 1)) (InColumns (names_of rows) (names ++ name ∷ []) (count + length (e ∷ es)))
    (entry_line rows name e) (map (entry_line rows name) es)
    (λ before n h.
    let new = new_column (names_of rows) names name count fresh before h in (
      entry_good rows names name [] count e fit refl (omega arith) (and_right (not (is_one_of names name)) (nat_le (2 ^ 20) (length names)) (not_reached (2 ^ 20) (length names) room)) before n new,
      subst (λ l. InColumn (names_of rows) l name (row ∷ []) (count + 1) (before ++ record_at n (entry_line rows name e) ∷ [])) next (entry_after rows names name [] count e fit before n new),
    ))
    (subst (λ c. Part (InColumn (names_of rows) (names ++ name ∷ []) name (row ∷ []) (count + 1)) (map (entry_line rows name) es) (InColumns (names_of rows) (names ++ name ∷ []) c)) k
    (later_entries rows good (names ++ name ∷ []) name valid has es (entries_tail rows e es entries) (row ∷ []) (count + 1) more (omega arith)))

-- marker lines

one_marker : (rows names : List Word) (count : ℕ) (word : Word) → ((before : List Record) (n : ℕ) → IsGood before (record_at n (marker_line word)))
    → Part (InColumns rows names count) (marker_line word ∷ []) (InColumns rows names count)
one_marker rows names count word good =
    first (InColumns rows names count) (InColumns rows names count) (InColumns rows names count) (marker_line word) []
    (λ before n h. (good before n, marker_after rows names count word before n h))
    (nothing (InColumns rows names count) (InColumns rows names count) (λ before h. h))

markers : (rows names : List Word) (count : ℕ) (a b : Bool) → Part (InColumns rows names count) (marker_lines a b) (InColumns rows names count)
markers rows names count false true = one_marker rows names count (codes "'INTORG'") (λ before n. (refl, refl))
markers rows names count true false = one_marker rows names count (codes "'INTEND'") (λ before n. (refl, refl))
markers rows names count true true = nothing (InColumns rows names count) (InColumns rows names count) (λ before h. h)
markers rows names count false false = nothing (InColumns rows names count) (InColumns rows names count) (λ before h. h)

-- all columns

abbrev pub names_in : List Column → List Word
names_in cols = map (λ c. c.name) cols

abbrev pub IsReadColumn : Column → Type 0
IsReadColumn c = AllByRecursion (λ e. number (decimal_text e.1) ≡ Some e.1) c.entries

entries_of : (rows : List Row) (c : Column) → IsColumn (length rows) c → IsReadColumn c → AreEntries rows c.entries
entries_of rows c valid read = record { known = valid.known; distinct = valid.distinct; read = read }

pub columns_part : (rows : List Row) → AreRows rows → (cols : List Column) → AllByRecursion (IsColumn (length rows)) cols → AllByRecursion IsReadColumn cols
    → (names : List Word) (count : ℕ) (b : Bool) → AreDistinct (names ++ names_in cols) → length names + length cols ≤ 2 ^ 20 → count + sum_by (λ c. length c.entries) cols ≤ 2 ^ 22
    → Part (InColumns (names_of rows) names count) (columns_lines rows b cols) (InColumns (names_of rows) (names ++ names_in cols) (count + sum_by (λ c. length c.entries) cols))
columns_part rows good [] valid read names count b distinct room few =
    let k : count ≡ count + sum_by (λ (c : Column). length c.entries) [] = omega arith in
    weaken (InColumns (names_of rows) names count) (InColumns (names_of rows) names count) (InColumns (names_of rows) (names ++ []) (count + sum_by (λ (c : Column). length c.entries) [])) (marker_lines b false)
    (markers (names_of rows) names count b false)
    (λ before h. subst (λ l. InColumns (names_of rows) l (count + sum_by (λ (c : Column). length c.entries) []) before) (sym (append-nil names)) (subst (λ c. InColumns (names_of rows) names c before) k h))
columns_part rows good (c ∷ cols) valid read names count b distinct room few =
    let shift : (names ++ c.name ∷ []) ++ names_in cols ≡ names ++ c.name ∷ names_in cols = append_assoc names (c.name ∷ []) (names_in cols) in
    let total : sum_by (λ (c : Column). length c.entries) (c ∷ cols) ≡ length c.entries + sum_by (λ (c : Column). length c.entries) cols = sum_by-cons (λ (c : Column). length c.entries) c cols in
    let k : (count + length c.entries) + sum_by (λ (c : Column). length c.entries) cols ≡ count + sum_by (λ (c : Column). length c.entries) (c ∷ cols) = omega arith in
    let P = InColumns (names_of rows) names count in
    let Q = InColumns (names_of rows) (names ++ c.name ∷ []) (count + length c.entries) in
    let R = InColumns (names_of rows) (names ++ c.name ∷ names_in cols) (count + sum_by (λ (c : Column). length c.entries) (c ∷ cols)) in
    then P Q R (marker_lines b c.integer ++ column_lines rows c) (columns_lines rows c.integer cols)
    (then P P Q (marker_lines b c.integer) (column_lines rows c) (markers (names_of rows) names count b c.integer)
    (one_column rows good names c.name valid.0.name (front_differs names c.name (names_in cols) distinct) (omega arith) c.entries valid.0.some (entries_of rows c valid.0 read.0) count (omega arith)))
    (subst (λ l. Part Q (columns_lines rows c.integer cols) (InColumns (names_of rows) l (count + sum_by (λ (c : Column). length c.entries) (c ∷ cols)))) shift
    (subst (λ j. Part Q (columns_lines rows c.integer cols) (InColumns (names_of rows) ((names ++ c.name ∷ []) ++ names_in cols) j)) k
    (columns_part rows good cols valid.1 read.1 (names ++ c.name ∷ []) (count + length c.entries) c.integer (subst AreDistinct (sym shift) distinct) (omega (arith, length-append names (c.name ∷ []))) (omega arith))))
