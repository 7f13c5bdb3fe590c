-- No line of a valid model's canonical text has a fault, and one is ENDATA.
use Rattle.std.proofs.Common.{◌≡◌, refl, sym, ap, ap₂, ◌∙◌, subst, arith, ℕ, ◌+◌, ◌^◌, ◌<◌, ◌≤◌, nat_lt, nat_le, unsigned_abs, inl, inr, Bool, true, false, cond, not, ◌||◌, List, [], ◌∷◌, ◌++◌, append-nil, append_assoc, length, map, filter, filter_map, flat_map, sum_by, codes, bytes_eq, Option, Some, None, option_map, is_none}
use Rattle.std.specs.List.{AllByRecursion, cons_option, list_all, list_any}
use Rattle.std.specs.Option.{IfSome}
use Rattle.std.proofs.lemmas.Bool.{and_left, and_parts, le-ltb, leb-true, lt-ltb, or_left, or_right}
use Rattle.std.proofs.lemmas.List.Elements.{filter-append}
use Rattle.cgl_num.specs.Decimal.{Decimal, IsDecimal, decimal_text, scaled}
use Rattle.cgl_num.specs.NumberText.{Word, limit, number}
use Rattle.cgl_num.specs.declared.number_text.Limit.TheVariants.{Finite}
use Rattle.cgl_text.specs.Text.{is_one_of}
use Rattle.cgl_model.specs.HasDecimals.{HasDecimals, IsDecimalColumn, IsDecimalRow}
use Rattle.cgl_model.specs.declared.mip.Column.{Column}
use Rattle.cgl_model.specs.declared.mip.Model.{Model}
use Rattle.cgl_model.specs.declared.mip.Row.{Row}
use Rattle.cgl_model.specs.Valid.{AreDistinct, IsBound, IsColumn, IsModelName, IsRowName, IsValid, is_name_byte}
use Rattle.cgl_decode.specs.declared.kinds.Section.TheVariants.{Name, Rows, Columns, Rhs, Ranges, Bounds, End}
use Rattle.cgl_decode.specs.Records.{Record, before, data_in, field, is_end, is_kept, kept}
use Rattle.cgl_decode.specs.Sections.{distinct, entry_pairs, is_marker, row_in}
use Rattle.cgl_decode.specs.Faults.{Limits, conditions, fault_after, fault_at, faults, first_kind, header_conditions, is_long, set_conditions}
use Rattle.cgl_decode.specs.Decode.{deck_limits}
use Rattle.cgl_decode.proofs.DistinctLaws.{same_word}
use Rattle.cgl_deck.specs.DeckText.{is_zero_decimal}
use Rattle.cgl_deck.specs.DeckLines.{Line, bound_lines, columns_lines, data_of, deck_lines, header_of, line_bytes, name_words, numbered, range_lines, range_lines_of, record_at, rhs_lines, row_line, section_lines, sense_lines}
use Rattle.cgl_deck.proofs.PartLaws.{Faultless, IsHighest, Part, Under, all_push, data_none, data_same, fine, first, header_new, nothing, ranked, rows_same, then, under_push, weaken, well_placed}
use Rattle.cgl_deck.proofs.RowPartLaws.{AfterRows, names_of, row_lines}
use Rattle.cgl_deck.proofs.EntryPartLaws.{InColumns}
use Rattle.cgl_deck.proofs.ColumnPartLaws.{AreRows, IsReadColumn, columns_part, names_in}
use Rattle.cgl_deck.proofs.SetPartLaws.{AfterColumns, AreSetLines, InSet, IsSetSection, headed, later, pushed, set_begins, set_lines}
use Rattle.cgl_deck.proofs.BoundPartLaws.{HasLimits, IsLimitOf, bounds_good, bounds_part}

-- a decimal number is what its text reads as

abbrev pub ReadsBack : Type 0
ReadsBack = (d : Decimal) → IsDecimal d → number (decimal_text d) ≡ Some d

abbrev pub LimitReadsBack : Type 0
LimitReadsBack = (d : Decimal) → IsDecimal d → unsigned_abs (scaled 30 d) < 10 ^ 50 → limit (decimal_text d) ≡ Some (Finite d)

-- ---- ENDATA

or_last : (a b : Bool) → b ≡ true → (a || b) ≡ true
or_last true b h = refl
or_last false b h = h

ends_behind : (lines : List Line) (n : ℕ) → list_any is_end (numbered n (lines ++ header_of End (codes "ENDATA" ∷ []) ∷ [])) ≡ true
ends_behind [] n = refl
ends_behind (l ∷ lines) n = or_last (is_end (record_at n l)) (list_any is_end (numbered (n + 1) (lines ++ header_of End (codes "ENDATA" ∷ []) ∷ []))) (ends_behind lines (n + 1))

-- the lines in front of ENDATA
abbrev body : Model → List Line
body m =
    header_of Name (name_words m.name) ∷ sense_lines m.maximise
    ++ header_of Rows (codes "ROWS" ∷ []) ∷ map row_line m.rows
    ++ header_of Columns (codes "COLUMNS" ∷ []) ∷ columns_lines m.rows false m.cols
    ++ section_lines Rhs (codes "RHS") (flat_map rhs_lines m.rows)
    ++ section_lines Ranges (codes "RANGES") (flat_map range_lines m.rows)
    ++ section_lines Bounds (codes "BOUNDS") (flat_map bound_lines m.cols)

pub ends : (m : Model) → list_any is_end (numbered 1 (deck_lines m)) ≡ true
ends m = ends_behind (body m) 1

-- ---- NAME and OBJSENSE

long_name : (name : Word) → IsModelName name → is_long name ≡ false
long_name name h = le-ltb 255 (length name) (leb-true (length name) 255 (and_parts (list_all is_name_byte name) (nat_le (length name) 255) h).1)

start : (name : Word) → IsModelName name → (maximise : Bool) (n : ℕ) → Faultless [] n (header_of Name (name_words name) ∷ sense_lines maximise) × Under 3 (numbered n (header_of Name (name_words name) ∷ sense_lines maximise))
start [] valid true n = (((refl, refl), ((refl, refl), ((refl, refl), tt))), ((omega arith, omega arith), ((omega arith, omega arith), ((omega arith, omega arith), tt))))
start [] valid false n = (((refl, refl), tt), ((omega arith, omega arith), tt))
start (b ∷ name) valid true n = (
  ((refl, ap (λ l. cond l (Some 11) None) (long_name (b ∷ name) valid)), ((refl, refl), ((refl, refl), tt))),
  ((omega arith, omega arith), ((omega arith, omega arith), ((omega arith, omega arith), tt))),
)
start (b ∷ name) valid false n = (((refl, ap (λ l. cond l (Some 11) None) (long_name (b ∷ name) valid)), tt), ((omega arith, omega arith), tt))

start_part : (name : Word) → IsModelName name → (maximise : Bool) → Part (λ done. done ≡ []) (header_of Name (name_words name) ∷ sense_lines maximise) (Under 3)
start_part name valid maximise done n none =
    let lines = header_of Name (name_words name) ∷ sense_lines maximise in
    subst (λ d. Faultless d n lines × Under 3 (d ++ numbered n lines)) (sym none) (start name valid maximise n)

-- ---- headers

rows_highest : IsHighest Rows
rows_highest t above lt = let r = ranked t above (omega arith) in omega (arith, r.below)

columns_highest : IsHighest Columns
columns_highest t above lt = let r = ranked t above (omega arith) in omega (arith, r.below)

rhs_highest : IsHighest Rhs
rhs_highest t above lt = (ranked t above (omega arith)).most

ranges_highest : IsHighest Ranges
ranges_highest t above lt = (ranked t above (omega arith)).most

bounds_highest : IsHighest Bounds
bounds_highest t above lt = (ranked t above (omega arith)).most

end_highest : IsHighest End
end_highest t above lt = let r = ranked t above (omega arith) in omega (arith, r.most)

rows_part : (rows : List Row) → AllByRecursion (λ r. IsRowName r.name) rows → AreDistinct (names_of rows) → length rows ≤ 2 ^ 20
    → Part (Under 3) (header_of Rows (codes "ROWS" ∷ []) ∷ map row_line rows) (AfterRows (names_of rows))
rows_part rows valid distinct few =
    first (Under 3) (AfterRows []) (AfterRows (names_of rows)) (header_of Rows (codes "ROWS" ∷ [])) (map row_line rows)
    (λ done n h.
    let r = record_at n (header_of Rows (codes "ROWS" ∷ [])) in (
      (refl, fine (header_conditions done r) (refl, (refl, (well_placed Rows (codes "ROWS" ∷ []) n rows_highest done h refl, (refl, (refl, tt)))))),
      record {
        under = under_push 3 4 (omega arith) done r h (omega arith) (omega arith);
        rows = rows_same done r refl ∙ ap (λ l. map (λ p. p.1) (filter_map (λ q. row_in q.fields) l)) (data_none 3 Rows done (omega arith) h);
        header = header_new Rows done r refl;
      },
    ))
    (row_lines [] rows valid distinct (omega arith))

columns_all : (m : Model) → IsValid m → AllByRecursion IsReadColumn m.cols
    → Part (AfterRows (names_of m.rows)) (header_of Columns (codes "COLUMNS" ∷ []) ∷ columns_lines m.rows false m.cols) (AfterColumns 5 (names_of m.rows) (names_in m.cols))
columns_all m valid read =
    let names = names_of m.rows in
    let total = 0 + sum_by (λ (c : Column). length c.entries) m.cols in
    let good : AreRows m.rows = record { valid = valid.row_names; distinct = valid.distinct_rows } in
    weaken (AfterRows names) (InColumns names (names_in m.cols) total) (AfterColumns 5 names (names_in m.cols)) (header_of Columns (codes "COLUMNS" ∷ []) ∷ columns_lines m.rows false m.cols)
    (first (AfterRows names) (InColumns names [] 0) (InColumns names (names_in m.cols) total) (header_of Columns (codes "COLUMNS" ∷ [])) (columns_lines m.rows false m.cols)
    (λ done n h.
    let r = record_at n (header_of Columns (codes "COLUMNS" ∷ [])) in
    let none : data_in Columns (done ++ r ∷ []) ≡ [] = data_same Columns done r refl ∙ data_none 4 Columns done (omega arith) h.under in (
      (refl, fine (header_conditions done r) (refl, (refl, (well_placed Columns (codes "COLUMNS" ∷ []) n columns_highest done h.under h.header, (refl, (refl, tt)))))),
      record {
        under = under_push 4 5 (omega arith) done r h.under (omega arith) (omega arith);
        known = rows_same done r refl ∙ h.rows;
        header = header_new Columns done r refl;
        columns = ap (λ l. distinct (map (field 0) (filter (λ q. not (is_marker q)) l))) none;
        entries = ap (λ l. length (flat_map entry_pairs (filter (λ q. not (is_marker q)) l))) none;
      },
    ))
    (columns_part m.rows good m.cols valid.columns read [] 0 false valid.distinct_columns (omega (arith, valid.sized.columns)) (omega (arith, valid.sized.entries))))
    (λ done h. record { under = h.under; known = h.known; header = h.header; columns = h.columns })

-- ---- RHS and RANGES

each_known : (names : List Word) (rows : List Row) → ((name : Word) → is_one_of (names_of rows) name ≡ true → is_one_of names name ≡ true) → AllByRecursion (λ r. is_one_of names r.name ≡ true) rows
each_known names [] within = tt
each_known names (r ∷ rows) within = (
  within r.name (or_left (bytes_eq r.name r.name) (is_one_of (names_of rows) r.name) (same_word r.name r.name refl)),
  each_known names rows (λ name h. within name (or_right (bytes_eq name r.name) (is_one_of (names_of rows) name) h)),
)

rhs_set : IsSetSection Rhs
rhs_set = record { above = omega arith; own = refl; no_rows = refl; no_columns = refl; good = λ done n word name text h. (refl, fine (set_conditions Rhs done (record_at n (data_of Rhs (word ∷ name ∷ text ∷ [])))) h) }

ranges_set : IsSetSection Ranges
ranges_set = record { above = omega arith; own = refl; no_rows = refl; no_columns = refl; good = λ done n word name text h. (refl, fine (set_conditions Ranges done (record_at n (data_of Ranges (word ∷ name ∷ text ∷ [])))) h) }

rhs_case : (b : Bool) (name text : Word) → is_none (number text) ≡ false → AreSetLines Rhs (codes "RHS") name (cond b [] (data_of Rhs (codes "RHS" ∷ name ∷ text ∷ []) ∷ []))
rhs_case true name text read = inl refl
rhs_case false name text read = inr (text, refl, read)

rhs_good : ReadsBack → (rows : List Row) → AllByRecursion IsDecimalRow rows → AllByRecursion (λ r. AreSetLines Rhs (codes "RHS") r.name (rhs_lines r)) rows
rhs_good reads [] all = tt
rhs_good reads (r ∷ rows) all = (rhs_case (is_zero_decimal r.rhs) r.name (decimal_text r.rhs) (ap is_none (reads r.rhs all.0.rhs)), rhs_good reads rows all.1)

range_case : ReadsBack → (name : Word) (range : Option Decimal) → IfSome range IsDecimal → AreSetLines Ranges (codes "RNG") name (range_lines_of name range)
range_case reads name None valid = inl refl
range_case reads name (Some d) valid = inr (decimal_text d, refl, ap is_none (reads d valid))

ranges_good : ReadsBack → (rows : List Row) → AllByRecursion IsDecimalRow rows → AllByRecursion (λ r. AreSetLines Ranges (codes "RNG") r.name (range_lines r)) rows
ranges_good reads [] all = tt
ranges_good reads (r ∷ rows) all = (range_case reads r.name r.range all.0.range, ranges_good reads rows all.1)

rhs_part : ReadsBack → (names : List Word) (rows : List Row) → AllByRecursion IsDecimalRow rows → AreDistinct (names_of rows)
    → Part (AfterColumns 5 (names_of rows) names) (section_lines Rhs (codes "RHS") (flat_map rhs_lines rows)) (AfterColumns 6 (names_of rows) names)
rhs_part reads names rows decimal distinct =
    headed Rhs (codes "RHS") (flat_map rhs_lines rows) (AfterColumns 5 (names_of rows) names) (InSet Rhs (names_of rows) names (names_of rows)) (AfterColumns 6 (names_of rows) names)
    (later 5 6 (omega arith) (names_of rows) names)
    (λ done n h.
    let r = record_at n (header_of Rhs (codes "RHS" ∷ [])) in (
      (refl, fine (header_conditions done r) (refl, (refl, (well_placed Rhs (codes "RHS" ∷ []) n rhs_highest done h.under h.header, (refl, (refl, tt)))))),
      set_begins Rhs (codes "RHS") (names_of rows) names (names_of rows) (omega arith) done n h,
    ))
    (weaken (InSet Rhs (names_of rows) names (names_of rows)) (InSet Rhs (names_of rows) names []) (AfterColumns 6 (names_of rows) names) (flat_map rhs_lines rows)
    (set_lines Rhs rhs_set (names_of rows) names (codes "RHS") rhs_lines rows (rhs_good reads rows decimal) (each_known (names_of rows) rows (λ name h. h)) distinct)
    (λ done h. h.all))

ranges_part : ReadsBack → (names : List Word) (rows : List Row) → AllByRecursion IsDecimalRow rows → AreDistinct (names_of rows)
    → Part (AfterColumns 6 (names_of rows) names) (section_lines Ranges (codes "RANGES") (flat_map range_lines rows)) (AfterColumns 7 (names_of rows) names)
ranges_part reads names rows decimal distinct =
    headed Ranges (codes "RANGES") (flat_map range_lines rows) (AfterColumns 6 (names_of rows) names) (InSet Ranges (names_of rows) names (names_of rows)) (AfterColumns 7 (names_of rows) names)
    (later 6 7 (omega arith) (names_of rows) names)
    (λ done n h.
    let r = record_at n (header_of Ranges (codes "RANGES" ∷ [])) in (
      (refl, fine (header_conditions done r) (refl, (refl, (well_placed Ranges (codes "RANGES" ∷ []) n ranges_highest done h.under h.header, (refl, (refl, tt)))))),
      set_begins Ranges (codes "RANGES") (names_of rows) names (names_of rows) (omega arith) done n h,
    ))
    (weaken (InSet Ranges (names_of rows) names (names_of rows)) (InSet Ranges (names_of rows) names []) (AfterColumns 7 (names_of rows) names) (flat_map range_lines rows)
    (set_lines Ranges ranges_set (names_of rows) names (codes "RNG") range_lines rows (ranges_good reads rows decimal) (each_known (names_of rows) rows (λ name h. h)) distinct)
    (λ done h. h.all))

-- ---- BOUNDS

each_column : (names : List Word) (cols : List Column) → ((name : Word) → is_one_of (names_in cols) name ≡ true → is_one_of names name ≡ true) → AllByRecursion (λ c. is_one_of names c.name ≡ true) cols
each_column names [] within = tt
each_column names (c ∷ cols) within = (
  within c.name (or_left (bytes_eq c.name c.name) (is_one_of (names_in cols) c.name) (same_word c.name c.name refl)),
  each_column names cols (λ name h. within name (or_right (bytes_eq name c.name) (is_one_of (names_in cols) name) h)),
)

limit_of : LimitReadsBack → (o : Option Decimal) → IfSome o IsDecimal → IsBound o → IsLimitOf o
limit_of reads None valid small = tt
limit_of reads (Some d) valid small = reads d valid small

limits_of : LimitReadsBack → (rows : ℕ) (cols : List Column) → AllByRecursion (IsColumn rows) cols → AllByRecursion IsDecimalColumn cols → AllByRecursion HasLimits cols
limits_of reads rows [] valid decimal = tt
limits_of reads rows (c ∷ cols) valid decimal =
    (record { lower = limit_of reads c.lo decimal.0.lower valid.0.lower; upper = limit_of reads c.up decimal.0.upper valid.0.upper }, limits_of reads rows cols valid.1 decimal.1)

bounds_all : (rows : List Word) (cols : List Column) → AllByRecursion HasLimits cols
    → Part (AfterColumns 7 rows (names_in cols)) (section_lines Bounds (codes "BOUNDS") (flat_map bound_lines cols)) (AfterColumns 8 rows (names_in cols))
bounds_all rows cols limits =
    headed Bounds (codes "BOUNDS") (flat_map bound_lines cols) (AfterColumns 7 rows (names_in cols)) (AfterColumns 8 rows (names_in cols)) (AfterColumns 8 rows (names_in cols))
    (later 7 8 (omega arith) rows (names_in cols))
    (λ done n h.
    let r = record_at n (header_of Bounds (codes "BOUNDS" ∷ [])) in (
      (refl, fine (header_conditions done r) (refl, (refl, (well_placed Bounds (codes "BOUNDS" ∷ []) n bounds_highest done h.under h.header, (refl, (refl, tt)))))),
      pushed 7 8 (omega arith) rows (names_in cols) done r refl refl (omega arith) (omega arith) h,
    ))
    (bounds_part rows (names_in cols) (flat_map bound_lines cols) (bounds_good rows (names_in cols) cols limits (each_column (names_in cols) cols (λ name h. h))))

-- ---- all lines

end_part : (rows names : List Word) → Part (AfterColumns 8 rows names) (header_of End (codes "ENDATA" ∷ []) ∷ []) (λ done. Unit {0})
end_part rows names =
    first (AfterColumns 8 rows names) (λ done. Unit {0}) (λ done. Unit {0}) (header_of End (codes "ENDATA" ∷ [])) []
    (λ done n h.
    let r = record_at n (header_of End (codes "ENDATA" ∷ [])) in
    ((refl, fine (header_conditions done r) (refl, (refl, (well_placed End (codes "ENDATA" ∷ []) n end_highest done h.under refl, (refl, (refl, tt)))))), tt))
    (nothing (λ done. Unit {0}) (λ done. Unit {0}) (λ done h. h))

read_entries : ReadsBack → (entries : List (ℕ × Decimal)) → AllByRecursion (λ e. IsDecimal e.1) entries → AllByRecursion (λ e. number (decimal_text e.1) ≡ Some e.1) entries
read_entries reads [] all = tt
read_entries reads (e ∷ entries) all = (reads e.1 all.0, read_entries reads entries all.1)

read_columns : ReadsBack → (cols : List Column) → AllByRecursion IsDecimalColumn cols → AllByRecursion IsReadColumn cols
read_columns reads [] all = tt
read_columns reads (c ∷ cols) all = (read_entries reads c.entries all.0.entries, read_columns reads cols all.1)

deck_part : ReadsBack → LimitReadsBack → (m : Model) → IsValid m → HasDecimals m → Part (λ done. done ≡ []) (deck_lines m) (λ done. Unit {0})
deck_part reads limits m valid decimal =
    let rows = names_of m.rows in
    let names = names_in m.cols in
    let none : List Record → Type 0 = λ done. done ≡ [] in
    let any : List Record → Type 0 = λ done. Unit {0} in
    let l1 = header_of Name (name_words m.name) ∷ sense_lines m.maximise in
    let l2 = header_of Rows (codes "ROWS" ∷ []) ∷ map row_line m.rows in
    let l3 = header_of Columns (codes "COLUMNS" ∷ []) ∷ columns_lines m.rows false m.cols in
    let l4 = section_lines Rhs (codes "RHS") (flat_map rhs_lines m.rows) in
    let l5 = section_lines Ranges (codes "RANGES") (flat_map range_lines m.rows) in
    let l6 = section_lines Bounds (codes "BOUNDS") (flat_map bound_lines m.cols) in
    let l7 = header_of End (codes "ENDATA" ∷ []) ∷ [] in
    then none (AfterColumns 8 rows names) any (l1 ++ l2 ++ l3 ++ l4 ++ l5 ++ l6) l7
    (then none (AfterColumns 7 rows names) (AfterColumns 8 rows names) (l1 ++ l2 ++ l3 ++ l4 ++ l5) l6
    (then none (AfterColumns 6 rows names) (AfterColumns 7 rows names) (l1 ++ l2 ++ l3 ++ l4) l5
    (then none (AfterColumns 5 rows names) (AfterColumns 6 rows names) (l1 ++ l2 ++ l3) l4
    (then none (AfterRows rows) (AfterColumns 5 rows names) (l1 ++ l2) l3
    (then none (Under 3) (AfterRows rows) l1 l2 (start_part m.name valid.name m.maximise) (rows_part m.rows valid.row_names valid.distinct_rows valid.sized.rows))
    (columns_all m valid (read_columns reads m.cols decimal.columns)))
    (rhs_part reads names m.rows decimal.rows valid.distinct_rows))
    (ranges_part reads names m.rows decimal.rows valid.distinct_rows))
    (bounds_all rows m.cols (limits_of limits (length m.rows) m.cols valid.columns decimal.columns)))
    (end_part rows names)

-- ---- what the reader says

none_over : (limits : Limits) (bytes : List ℕ) (done : List Record) (r : Record) → length bytes ≤ limits.bytes → r.bytes ≤ 4096 → first_kind (conditions limits done r) ≡ None → fault_after limits bytes done r ≡ None
unfolding fault_after
none_over limits bytes done r small short none =
    ap (λ b. cond b (Some 12) (cond (nat_lt 4096 r.bytes) (Some 11) (first_kind (conditions limits done r)))) (and_left (nat_lt limits.bytes (length bytes)) _ (le-ltb limits.bytes (length bytes) small))
    ∙ ap (λ b. cond b (Some 11) (first_kind (conditions limits done r))) (le-ltb 4096 r.bytes short)
    ∙ none

kept_whole : (rs : List Record) → AllByRecursion (λ r. is_kept r ≡ true) rs → kept rs ≡ rs
kept_whole [] all = refl
kept_whole (r ∷ rs) all = ap (λ b. cond b (r ∷ kept rs) (kept rs)) all.0 ∙ ap (λ l. r ∷ l) (kept_whole rs all.1)

all_kept : (lines : List Line) (n : ℕ) (done : List Record) → Faultless done n lines → AllByRecursion (λ r. is_kept r ≡ true) (numbered n lines)
all_kept [] n done fine = tt
all_kept (l ∷ lines) n done fine = (fine.0.0, all_kept lines (n + 1) (done ++ record_at n l ∷ []) fine.1)

none_later : (m n : ℕ) (lines : List Line) → m ≤ n → before m (numbered n lines) ≡ []
none_later m n [] le = refl
none_later m n (l ∷ lines) le =
    ap (λ b. cond b (record_at n l ∷ before m (numbered (n + 1) lines)) (before m (numbered (n + 1) lines))) (le-ltb n m le)
    ∙ none_later m (n + 1) lines (omega arith)

abbrev AllBelow : ℕ → List Record → Type 0
AllBelow n rs = AllByRecursion (λ r. r.line < n) rs

all_before : (n : ℕ) (rs : List Record) → AllBelow n rs → before n rs ≡ rs
all_before n [] all = refl
all_before n (r ∷ rs) all = ap (λ b. cond b (r ∷ before n rs) (before n rs)) (lt-ltb r.line n all.0) ∙ ap (λ l. r ∷ l) (all_before n rs all.1)

below_more : (n : ℕ) (rs : List Record) → AllBelow n rs → AllBelow (n + 1) rs
below_more n [] all = tt
below_more n (r ∷ rs) all = (omega (arith, all.0), below_more n rs all.1)

none_found : (bytes : List ℕ) → length bytes ≤ 2 ^ 30 → (all : List Record) → kept all ≡ all
    → (lines : List Line) (n : ℕ) (done : List Record) → all ≡ done ++ numbered n lines → AllBelow n done → AllByRecursion (λ l. length (line_bytes l) ≤ 4096) lines → Faultless done n lines
    → filter_map (fault_at deck_limits bytes all) (numbered n lines) ≡ []
none_found bytes small all whole [] n done parts below short good = refl
none_found bytes small all whole (l ∷ lines) n done parts below short good =
    let r = record_at n l in
    let rest = numbered (n + 1) lines in
    let here : before n (kept all) ≡ done =
    ap (before n) (whole ∙ parts) ∙ filter-append (λ q. nat_lt q.line n) done (r ∷ rest) ∙ ap₂ (λ a b. a ++ b) (all_before n done below) (none_later n n (l ∷ lines) (omega arith)) ∙ append-nil done in
    let none : fault_after deck_limits bytes done r ≡ None = none_over deck_limits bytes done r small short.0 good.0.1 in
    let at : fault_at deck_limits bytes all r ≡ None = ap (λ b. option_map (λ kind. (n, kind)) (fault_after deck_limits bytes b r)) here ∙ ap (option_map (λ kind. (n, kind))) none in
    ap (λ o. cons_option o (filter_map (fault_at deck_limits bytes all) rest)) at
    ∙ none_found bytes small all whole lines (n + 1) (done ++ r ∷ []) (parts ∙ sym (append_assoc done (r ∷ []) rest))
    (all_push (λ q. q.line < n + 1) done r (below_more n done below) (omega arith)) short.1 good.1

pub faultless : ReadsBack → LimitReadsBack → (m : Model) (bytes : List ℕ) → IsValid m → HasDecimals m → length bytes ≤ 2 ^ 30
    → AllByRecursion (λ l. length (line_bytes l) ≤ 4096) (deck_lines m)
    → faults deck_limits bytes (numbered 1 (deck_lines m)) ≡ []
faultless reads limits m bytes valid decimal small short =
    let good : Faultless [] 1 (deck_lines m) = (deck_part reads limits m valid decimal [] 1 refl).0 in
    none_found bytes small (numbered 1 (deck_lines m)) (kept_whole (numbered 1 (deck_lines m)) (all_kept (deck_lines m) 1 [] good)) (deck_lines m) 1 [] refl tt short good
