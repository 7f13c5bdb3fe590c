-- Which columns of a model are integer, from the marker lines of its deck.
use Rattle.std.proofs.Common.{◌≡◌, refl, sym, ap, ap₂, ◌∙◌, arith, ℕ, suc, ◌+◌, ◌<◌, Bool, true, false, cond, not, List, [], ◌∷◌, ◌++◌, append-nil, append_assoc, codes, length, map, filter, bytes_eq, take}
use Rattle.std.specs.List.{AllByRecursion, before_first, prefix_len}
use Rattle.std.proofs.lemmas.List.{map-append}
use Rattle.std.proofs.lemmas.List.Elements.{filter-append}
use Rattle.cgl_num.specs.Decimal.{Decimal}
use Rattle.cgl_num.specs.NumberText.{Word}
use Rattle.cgl_text.specs.Text.{is_one_of}
use Rattle.cgl_model.specs.Valid.{AreDistinct}
use Rattle.cgl_model.specs.declared.mip.Column.{Column}
use Rattle.cgl_model.specs.declared.mip.Row.{Row}
use Rattle.cgl_decode.specs.declared.kinds.Section.TheVariants.{Columns}
use Rattle.cgl_decode.specs.Records.{Record, data_in}
use Rattle.cgl_decode.specs.Sections.{is_marker, names_column}
use Rattle.cgl_decode.specs.Models.{is_marked, last_or}
use Rattle.cgl_decode.proofs.DistinctLaws.{not_false, same_word}
use Rattle.cgl_decode.proofs.SoundLaws.{all_weaker}
use Rattle.cgl_deck.specs.DeckLines.{Line, column_lines, columns_lines, entry_line, marker_lines}
use Rattle.cgl_deck.proofs.MeantLineLaws.{fields_in, words_of}
use Rattle.cgl_deck.proofs.MeantGroupLaws.{all_apart, all_both, map_filter, map_map, none_pass}
use Rattle.cgl_deck.proofs.MeantColumnsLaws.{AreEntriesIn, AreRowNames, at, column_fields, entries_keyed, entries_unmarked, marks, owns}

-- ---- what stands before the first that passes

abbrev pub front : {X : Type 0} → (X → Bool) → List X → List X
front p [] = []
front p (x ∷ xs) = cond (p x) [] (x ∷ front p xs)

front_case : {X : Type 0} (x : X) (xs : List X) (n : ℕ) (rest : List X) → take n xs ≡ rest → (b : Bool) → take (cond (not b) (1 + n) 0) (x ∷ xs) ≡ cond b [] (x ∷ rest)
front_case x xs n rest same true = refl
front_case x xs n rest same false =
    let next : 1 + n ≡ suc n = omega arith in
    ap (λ k. take k (x ∷ xs)) next ∙ ap (λ l. x ∷ l) same

front_is : {X : Type 0} (p : X → Bool) (xs : List X) → before_first p xs ≡ front p xs
front_is p [] = refl
front_is p (x ∷ xs) = front_case x xs (prefix_len (λ x. not (p x)) xs) (front p xs) (front_is p xs) (p x)

mapped_case : {X Y : Type 0} (f : X → Y) (x : X) (xs : List X) (ys : List Y) → map f xs ≡ ys → (b : Bool) → map f (cond b [] (x ∷ xs)) ≡ cond b [] (f x ∷ ys)
mapped_case f x xs ys same true = refl
mapped_case f x xs ys same false = ap (λ l. f x ∷ l) same

map_front : {X Y : Type 0} (f : X → Y) (p : Y → Bool) (xs : List X) → map f (front (λ x. p (f x)) xs) ≡ front p (map f xs)
map_front f p [] = refl
map_front f p (x ∷ xs) = mapped_case f x (front (λ x. p (f x)) xs) (front p (map f xs)) (map_front f p xs) (p (f x))

front_past : {X : Type 0} (p : X → Bool) (xs ys : List X) → AllByRecursion (λ x. p x ≡ false) xs → front p (xs ++ ys) ≡ xs ++ front p ys
front_past p [] ys all = refl
front_past p (x ∷ xs) ys all = ap₂ (λ b l. cond b [] (x ∷ l)) all.0 (front_past p xs ys all.1)

last_append : {X : Type 0} (d : X) (xs ys : List X) → last_or d (xs ++ ys) ≡ last_or (last_or d xs) ys
last_append d [] ys = refl
last_append d (x ∷ xs) ys = last_append x xs ys

-- ---- the last marker

abbrev starts : Word → Bool
starts word = bytes_eq word (codes "'INTORG'")

abbrev last_mark : Word → Word → List (List Word) → Word
last_mark d name lines = last_or d (map (at 2) (filter marks (front (owns name) lines)))

abbrev marker_fields : Bool → Bool → List (List Word)
marker_fields before after = map words_of (marker_lines before after)

markers_own_none : (name : Word) (before after : Bool) → AllByRecursion (λ fields. owns name fields ≡ false) (marker_fields before after)
markers_own_none name false true = (refl, tt)
markers_own_none name true false = (refl, tt)
markers_own_none name true true = tt
markers_own_none name false false = tt

marked_after : (d : Word) (before after : Bool) → starts d ≡ before → starts (last_or d (map (at 2) (filter marks (marker_fields before after)))) ≡ after
marked_after d false true is = refl
marked_after d true false is = refl
marked_after d true true is = is
marked_after d false false is = is

others_own_none : (rs : List Row) → AreRowNames rs → (w name : Word) (entries : List (ℕ × Decimal)) → AreEntriesIn rs entries → bytes_eq w name ≡ false
    → AllByRecursion (λ fields. owns w fields ≡ false) (map words_of (map (entry_line rs name) entries))
others_own_none rs names w name entries all differ =
    all_weaker (λ fields. owns w fields ≡ bytes_eq w name) (λ fields. owns w fields ≡ false) (λ fields is. is ∙ differ) (map words_of (map (entry_line rs name) entries)) (entries_keyed rs names name entries all w)

-- before the column's own lines stand the markers alone
own_front : (rs : List Row) → AreRowNames rs → (name : Word) (entries : List (ℕ × Decimal)) (others : List (List Word)) → AreEntriesIn rs entries → 0 < length entries
    → front (owns name) (map words_of (map (entry_line rs name) entries) ++ others) ≡ []
own_front rs names name [] others all some = absurd (omega arith)
own_front rs names name (e ∷ entries) others all some =
    let lines : List (List Word) = map words_of (map (entry_line rs name) entries) ++ others in
    ap (λ b. cond b [] (words_of (entry_line rs name e) ∷ front (owns name) lines)) ((entries_keyed rs names name (e ∷ entries) all name).0 ∙ same_word name name refl)

own_mark : (rs : List Row) → AreRowNames rs → (d name : Word) (entries : List (ℕ × Decimal)) (markers others : List (List Word)) → AreEntriesIn rs entries → 0 < length entries
    → AllByRecursion (λ fields. owns name fields ≡ false) markers
    → last_mark d name (markers ++ (map words_of (map (entry_line rs name) entries) ++ others)) ≡ last_or d (map (at 2) (filter marks markers))
own_mark rs names d name entries markers others all some none =
    let own : List (List Word) = map words_of (map (entry_line rs name) entries) in
    ap (λ l. last_or d (map (at 2) (filter marks l)))
    (front_past (owns name) markers (own ++ others) none ∙ ap (λ l. markers ++ l) (own_front rs names name entries others all some) ∙ append-nil markers)

later_mark : (rs : List Row) → AreRowNames rs → (d w name : Word) (entries : List (ℕ × Decimal)) (markers others : List (List Word)) → AreEntriesIn rs entries → bytes_eq w name ≡ false
    → AllByRecursion (λ fields. owns w fields ≡ false) markers
    → last_mark d w (markers ++ (map words_of (map (entry_line rs name) entries) ++ others)) ≡ last_mark (last_or d (map (at 2) (filter marks markers))) w others
later_mark rs names d w name entries markers others all differ none =
    let own : List (List Word) = map words_of (map (entry_line rs name) entries) in
    let later : List (List Word) = front (owns w) others in
    ap (λ l. last_or d (map (at 2) (filter marks l)))
    (front_past (owns w) markers (own ++ others) none ∙ ap (λ l. markers ++ l) (front_past (owns w) own others (others_own_none rs names w name entries all differ)))
    ∙ ap (λ l. last_or d (map (at 2) l))
    (filter-append marks markers (own ++ later)
    ∙ ap (λ l. filter marks markers ++ l) (filter-append marks own later ∙ ap (λ l. l ++ filter marks later) (none_pass marks own (entries_unmarked rs names name entries all))))
    ∙ ap (last_or d) (map-append (at 2) (filter marks markers) (filter marks later))
    ∙ last_append d (map (at 2) (filter marks markers)) (map (at 2) (filter marks later))

lines_split : (rs : List Row) (before : Bool) (c : Column) (cols : List Column)
    → map words_of (columns_lines rs before (c ∷ cols)) ≡ marker_fields before c.integer ++ (column_fields rs c ++ map words_of (columns_lines rs c.integer cols))
lines_split rs before c cols =
    let markers : List Line = marker_lines before c.integer in
    let own : List Line = column_lines rs c in
    let others : List Line = columns_lines rs c.integer cols in
    map-append words_of (markers ++ own) others
    ∙ ap (λ l. l ++ map words_of others) (map-append words_of markers own)
    ∙ append_assoc (map words_of markers) (map words_of own) (map words_of others)

all_marks : (rs : List Row) → AreRowNames rs → (d : Word) (before : Bool) → starts d ≡ before → (cols : List Column) → AllByRecursion (λ c. AreEntriesIn rs c.entries) cols
    → AllByRecursion (λ c. 0 < length c.entries) cols → AreDistinct (map (λ c. c.name) cols)
    → AllByRecursion (λ c. starts (last_mark d c.name (map words_of (columns_lines rs before cols))) ≡ c.integer) cols
all_marks rs names d before is [] all some once = tt
all_marks rs names d before is (c ∷ cols) all some once =
    let markers : List (List Word) = marker_fields before c.integer in
    let others : List (List Word) = map words_of (columns_lines rs c.integer cols) in
    let next : Word = last_or d (map (at 2) (filter marks markers)) in
    let next_is : starts next ≡ c.integer = marked_after d before c.integer is in (
      ap (λ l. starts (last_mark d c.name l)) (lines_split rs before c cols)
          ∙ ap starts (own_mark rs names d c.name c.entries markers others all.0 some.0 (markers_own_none c.name before c.integer))
          ∙ next_is,
      all_both (λ s. bytes_eq s.name c.name ≡ false) (λ s. starts (last_mark next s.name others) ≡ s.integer)
          (λ s. starts (last_mark d s.name (map words_of (columns_lines rs before (c ∷ cols)))) ≡ s.integer)
          (λ s differ later.
          ap (λ l. starts (last_mark d s.name l)) (lines_split rs before c cols)
          ∙ ap starts (later_mark rs names d s.name c.name c.entries markers others all.0 differ (markers_own_none s.name before c.integer))
          ∙ later)
          cols (all_apart (λ (s : Column). s.name) c cols (not_false (is_one_of (map (λ s. s.name) cols) c.name) once.0))
          (all_marks rs names next c.integer next_is cols all.1 some.1 once.1),
    )

marked_words : (records : List Record) (name : Word) (lines : List (List Word)) → fields_in (data_in Columns records) ≡ lines → is_marked records name ≡ starts (last_mark [] name lines)
marked_words records name lines said =
    let own : List Record = data_in Columns records in
    ap (λ l. starts (last_or [] l))
    (sym (map_map (at 2) (λ (r : Record). r.fields) (filter is_marker (before_first (names_column name) own)))
    ∙ ap (map (at 2))
    (map_filter (λ (r : Record). r.fields) marks (before_first (names_column name) own)
    ∙ ap (filter marks) (ap fields_in (front_is (names_column name) own) ∙ map_front (λ (r : Record). r.fields) (owns name) own ∙ ap (front (owns name)) said)))

pub markers_said : (rs : List Row) → AreRowNames rs → (records : List Record) (cols : List Column) → AllByRecursion (λ c. AreEntriesIn rs c.entries) cols
    → AllByRecursion (λ c. 0 < length c.entries) cols → AreDistinct (map (λ c. c.name) cols)
    → fields_in (data_in Columns records) ≡ map (λ l. l.words) (columns_lines rs false cols)
    → AllByRecursion (λ c. is_marked records c.name ≡ c.integer) cols
markers_said rs names records cols all some once said =
    let lines : List (List Word) = map words_of (columns_lines rs false cols) in
    all_weaker (λ c. starts (last_mark [] c.name lines) ≡ c.integer) (λ c. is_marked records c.name ≡ c.integer) (λ c is. marked_words records c.name lines said ∙ is) cols
    (all_marks rs names [] false refl cols all some once)
