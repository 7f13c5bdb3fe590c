-- What the lines of a model say, by sections and without their numbers.
use Rattle.std.proofs.Common.{◌≡◌, refl, sym, ap, ap₂, ◌∙◌, ℕ, ◌+◌, Bool, true, false, cond, not, ◌&&◌, List, [], ◌∷◌, ◌++◌, append-nil, codes, map, filter, filter_map, flat_map, int_lt, pos, Option, Some, None, slice_get}
use Rattle.std.specs.List.{AllByRecursion, cons_option, list_any}
use Rattle.std.proofs.lemmas.List.{map-append}
use Rattle.std.proofs.lemmas.List.Elements.{filter-append, filter_map-append}
use Rattle.cgl_num.specs.Decimal.{Decimal, decimal_text}
use Rattle.cgl_num.specs.NumberText.{Word}
use Rattle.cgl_text.specs.Text.{is_one_of}
use Rattle.cgl_model.specs.declared.mip.Row.{Row}
use Rattle.cgl_model.specs.declared.mip.Column.{Column}
use Rattle.cgl_model.specs.declared.mip.Model.{Model}
use Rattle.cgl_decode.specs.declared.kinds.Section.{Section}
use Rattle.cgl_decode.specs.declared.kinds.Section.TheVariants.{Name, Sense, Rows, Columns, Rhs, Ranges, Bounds, End}
use Rattle.cgl_decode.specs.Records.{Record, data_in, kept, no_field, same_section}
use Rattle.cgl_decode.specs.Sections.{sense_in, senses}
use Rattle.cgl_decode.specs.Models.{last_or, name_in}
use Rattle.cgl_decode.proofs.SoundLaws.{all_append, all_weaker}
use Rattle.cgl_deck.specs.DeckText.{is_same_decimal, is_zero_decimal}
use Rattle.cgl_deck.specs.DeckLines.{Line, bound_lines, bound_lines_of, bound_line_of, column_lines, columns_lines, data_of, deck_lines, entry_line, header_of, marker_lines, name_words, numbered, range_lines, range_lines_of, record_at, rhs_lines, row_line, section_lines, sense_lines}

-- ---- numbers vanish

pub numbered_kept : (n : ℕ) (lines : List Line) → AllByRecursion (λ l. no_field l.words ≡ false) lines → kept (numbered n lines) ≡ numbered n lines
numbered_kept n [] all = refl
numbered_kept n (l ∷ lines) all = ap₂ (λ b others. cond (not b) (record_at n l ∷ others) others) all.0 (numbered_kept (n + 1) lines all.1)

abbrev pub fields_in : List Record → List (List Word)
fields_in records = map (λ r. r.fields) records

abbrev pub words_of : Line → List Word
words_of l = l.words

-- the words of a section's data lines
abbrev pub words_in : Section → List Line → List (List Word)
words_in section lines = map (λ l. l.words) (filter (λ l. not l.header && same_section section l.section) lines)

fields_case : (n : ℕ) (l : Line) (records : List Record) (lines : List Line) → fields_in records ≡ map (λ l. l.words) lines → (b : Bool)
    → fields_in (cond b (record_at n l ∷ records) records) ≡ map (λ l. l.words) (cond b (l ∷ lines) lines)
fields_case n l records lines same true = ap (λ others. l.words ∷ others) same
fields_case n l records lines same false = same

pub numbered_fields : (section : Section) (n : ℕ) (lines : List Line) → fields_in (data_in section (numbered n lines)) ≡ words_in section lines
numbered_fields section n [] = refl
numbered_fields section n (l ∷ lines) =
    fields_case n l (data_in section (numbered (n + 1) lines)) (filter (λ l. not l.header && same_section section l.section) lines) (numbered_fields section (n + 1) lines) (not l.header && same_section section l.section)

pub numbered_said : {Y : Type 0} (f : Record → Option Y) (g : Line → Option Y) → ((n : ℕ) (l : Line) → f (record_at n l) ≡ g l) → (n : ℕ) (lines : List Line) → filter_map f (numbered n lines) ≡ filter_map g lines
numbered_said f g same n [] = refl
numbered_said f g same n (l ∷ lines) = ap₂ (λ o others. cons_option o others) (same n l) (numbered_said f g same (n + 1) lines)

-- ---- each part's lines stand in one section

pub record StandsIn (section : Section) (l : Line) : Type 0 where
  pub plain : l.header ≡ false
  pub place : l.section ≡ section
  pub worded : no_field l.words ≡ false

abbrev pub StandIn : Section → List Line → Type 0
StandIn section lines = AllByRecursion (StandsIn section) lines

stands : (section : Section) (word : Word) (words : List Word) → StandsIn section (data_of section (word ∷ words))
stands section word words = record { plain = refl; place = refl; worded = refl }

pub all_flat_map : {X Y : Type 0} (P : Y → Type 0) (f : X → List Y) → ((x : X) → AllByRecursion P (f x)) → (xs : List X) → AllByRecursion P (flat_map f xs)
all_flat_map P f each [] = tt
all_flat_map P f each (x ∷ xs) = all_append P (f x) (flat_map f xs) (each x) (all_flat_map P f each xs)

row_lines_stand : (rows : List Row) → StandIn Rows (map row_line rows)
row_lines_stand [] = tt
row_lines_stand (r ∷ rows) = (record { plain = refl; place = refl; worded = refl }, row_lines_stand rows)

column_lines_stand : (rows : List Row) (name : Word) (entries : List (ℕ × Decimal)) → StandIn Columns (map (entry_line rows name) entries)
column_lines_stand rows name [] = tt
column_lines_stand rows name (e ∷ entries) = (record { plain = refl; place = refl; worded = refl }, column_lines_stand rows name entries)

marker_lines_stand : (before after : Bool) → StandIn Columns (marker_lines before after)
marker_lines_stand false true = (record { plain = refl; place = refl; worded = refl }, tt)
marker_lines_stand true false = (record { plain = refl; place = refl; worded = refl }, tt)
marker_lines_stand true true = tt
marker_lines_stand false false = tt

columns_lines_stand : (rows : List Row) (before : Bool) (cols : List Column) → StandIn Columns (columns_lines rows before cols)
columns_lines_stand rows before [] = marker_lines_stand before false
columns_lines_stand rows before (c ∷ cols) =
    all_append (StandsIn Columns) (marker_lines before c.integer ++ column_lines rows c) (columns_lines rows c.integer cols)
    (all_append (StandsIn Columns) (marker_lines before c.integer) (column_lines rows c) (marker_lines_stand before c.integer) (column_lines_stand rows c.name c.entries))
    (columns_lines_stand rows c.integer cols)

none_or : (section : Section) (lines : List Line) → StandIn section lines → (b : Bool) → StandIn section (cond b [] lines)
none_or section lines all true = tt
none_or section lines all false = all

either : (section : Section) (some others : List Line) → StandIn section some → StandIn section others → (b : Bool) → StandIn section (cond b some others)
either section some others all more true = all
either section some others all more false = more

range_lines_stand : (name : Word) (o : Option Decimal) → StandIn Ranges (range_lines_of name o)
range_lines_stand name None = tt
range_lines_stand name (Some d) = (record { plain = refl; place = refl; worded = refl }, tt)

one_bound : (kind name : Word) (value : List Word) → StandIn Bounds (bound_line_of kind name value ∷ [])
one_bound kind name value = (record { plain = refl; place = refl; worded = refl }, tt)

bound_lines_stand : (name : Word) (integer : Bool) (lo up : Option Decimal) → StandIn Bounds (bound_lines_of name integer lo up)
bound_lines_stand name integer None None = one_bound _ name _
bound_lines_stand name integer None (Some u) = (record { plain = refl; place = refl; worded = refl }, one_bound _ name _)
bound_lines_stand name integer (Some l) None =
    either Bounds _ _ (either Bounds _ [] (one_bound _ name _) tt integer) (one_bound _ name _) (is_zero_decimal l)
bound_lines_stand name integer (Some l) (Some u) =
    let low : List Line = bound_line_of (codes "LO") name (decimal_text l ∷ []) ∷ [] in
    let high : List Line = bound_line_of (codes "UP") name (decimal_text u ∷ []) ∷ [] in
    let free : Bool = is_zero_decimal l && not (int_lt u.m (pos 0)) in
    let both : StandIn Bounds (cond free [] low ++ high) =
    all_append (StandsIn Bounds) (cond free [] low) high (none_or Bounds low (one_bound (codes "LO") name (decimal_text l ∷ [])) free) (one_bound (codes "UP") name (decimal_text u ∷ [])) in
    either Bounds _ _ (one_bound _ name _) both (is_same_decimal l u)

rhs_lines_stand : (r : Row) → StandIn Rhs (rhs_lines r)
rhs_lines_stand r = none_or Rhs (data_of Rhs (codes "RHS" ∷ r.name ∷ decimal_text r.rhs ∷ []) ∷ []) (record { plain = refl; place = refl; worded = refl }, tt) (is_zero_decimal r.rhs)

-- ---- the words of each part

abbrev pub on : {X : Type 0} → Section → Section → List X → List X
on s t lines = cond (same_section s t) lines []

own_case : (l : Line) (own lines : List Line) (b : Bool) → map words_of own ≡ cond b (map words_of lines) []
    → map words_of (cond b (l ∷ own) own) ≡ cond b (l.words ∷ map words_of lines) []
own_case l own lines true same = ap (λ others. l.words ∷ others) same
own_case l own lines false same = same

none_on : (b : Bool) → cond {A = List (List Word)} b [] [] ≡ []
none_on true = refl
none_on false = refl

pub stand_words : (s t : Section) (lines : List Line) → StandIn t lines → words_in s lines ≡ on s t (map (λ l. l.words) lines)
stand_words s t [] all = sym (none_on (same_section s t))
stand_words s t (l ∷ lines) all =
    let own : List Line = filter (λ l. not l.header && same_section s l.section) lines in
    ap (λ b. map words_of (cond b (l ∷ own) own)) (ap₂ (λ h p. not h && same_section s p) all.0.plain all.0.place)
    ∙ own_case l own lines (same_section s t) (stand_words s t lines all.1)

pub first_words : (s : Section) (m : Model) → same_section s Sense ≡ false → (b : Bool) → words_in s (header_of Name (name_words m.name) ∷ sense_lines b) ≡ []
first_words s m other true = ap (λ c. map words_of (cond c (data_of Sense (codes "MAX" ∷ []) ∷ []) [])) other
first_words s m other false = refl

section_words : (s t : Section) (word : Word) (lines : List Line) → words_in s (section_lines t word lines) ≡ words_in s lines
section_words s t word [] = refl
section_words s t word (l ∷ lines) = refl

words_append : (s : Section) (a b : List Line) → words_in s (a ++ b) ≡ words_in s a ++ words_in s b
words_append s a b =
    let own : Line → Bool = λ l. not l.header && same_section s l.section in
    ap (map words_of) (filter-append own a b) ∙ map-append (λ (l : Line). l.words) (filter own a) (filter own b)

seven_words : (s : Section) (a b c d e f g : List Line)
    → words_in s (a ++ b ++ c ++ d ++ e ++ f ++ g) ≡ words_in s a ++ words_in s b ++ words_in s c ++ words_in s d ++ words_in s e ++ words_in s f ++ words_in s g
seven_words s a b c d e f g =
    words_append s (a ++ b ++ c ++ d ++ e ++ f) g
    ∙ ap (λ l. l ++ words_in s g) (words_append s (a ++ b ++ c ++ d ++ e) f
    ∙ ap (λ l. l ++ words_in s f) (words_append s (a ++ b ++ c ++ d) e
    ∙ ap (λ l. l ++ words_in s e) (words_append s (a ++ b ++ c) d
    ∙ ap (λ l. l ++ words_in s d) (words_append s (a ++ b) c
    ∙ ap (λ l. l ++ words_in s c) (words_append s a b)))))

pub deck_words : (s : Section) (m : Model) → same_section s Sense ≡ false
    → words_in s (deck_lines m)
    ≡ on s Rows (map (λ l. l.words) (map row_line m.rows))
    ++ on s Columns (map (λ l. l.words) (columns_lines m.rows false m.cols))
    ++ on s Rhs (map (λ l. l.words) (flat_map rhs_lines m.rows))
    ++ on s Ranges (map (λ l. l.words) (flat_map range_lines m.rows))
    ++ on s Bounds (map (λ l. l.words) (flat_map bound_lines m.cols))
    ++ []
deck_words s m other =
    let first : List Line = header_of Name (name_words m.name) ∷ sense_lines m.maximise in
    let rows : List Line = header_of Rows (codes "ROWS" ∷ []) ∷ map row_line m.rows in
    let columns : List Line = header_of Columns (codes "COLUMNS" ∷ []) ∷ columns_lines m.rows false m.cols in
    let rhs : List Line = section_lines Rhs (codes "RHS") (flat_map rhs_lines m.rows) in
    let ranges : List Line = section_lines Ranges (codes "RANGES") (flat_map range_lines m.rows) in
    let bounds : List Line = section_lines Bounds (codes "BOUNDS") (flat_map bound_lines m.cols) in
    let end : List Line = header_of End (codes "ENDATA" ∷ []) ∷ [] in
    seven_words s first rows columns rhs ranges bounds end
    ∙ ap₂ (λ p q. p ++ q)
    (ap₂ (λ p q. p ++ q)
    (ap₂ (λ p q. p ++ q)
    (ap₂ (λ p q. p ++ q)
    (ap₂ (λ p q. p ++ q)
    (ap₂ (λ p q. p ++ q) (first_words s m other m.maximise) (stand_words s Rows (map row_line m.rows) (row_lines_stand m.rows)))
    (stand_words s Columns (columns_lines m.rows false m.cols) (columns_lines_stand m.rows false m.cols)))
    (section_words s Rhs (codes "RHS") (flat_map rhs_lines m.rows) ∙ stand_words s Rhs (flat_map rhs_lines m.rows) (all_flat_map (StandsIn Rhs) rhs_lines rhs_lines_stand m.rows)))
    (section_words s Ranges (codes "RANGES") (flat_map range_lines m.rows) ∙ stand_words s Ranges (flat_map range_lines m.rows) (all_flat_map (StandsIn Ranges) range_lines (λ r. range_lines_stand r.name r.range) m.rows)))
    (section_words s Bounds (codes "BOUNDS") (flat_map bound_lines m.cols)
    ∙ stand_words s Bounds (flat_map bound_lines m.cols) (all_flat_map (StandsIn Bounds) bound_lines (λ c. bound_lines_stand c.name c.integer c.lo c.up) m.cols)))
    refl

-- ---- every line has a word

abbrev IsWorded : Line → Type 0
IsWorded l = no_field l.words ≡ false

worded_part : (section : Section) (lines : List Line) → StandIn section lines → AllByRecursion IsWorded lines
worded_part section lines all = all_weaker (StandsIn section) IsWorded (λ l h. h.worded) lines all

worded_section : (section : Section) (word : Word) (lines : List Line) → AllByRecursion IsWorded lines → AllByRecursion IsWorded (section_lines section word lines)
worded_section section word [] all = tt
worded_section section word (l ∷ lines) all = (refl, all)

worded_name : (name : Word) → no_field (name_words name) ≡ false
worded_name [] = refl
worded_name (b ∷ name) = refl

worded_first : (name : Word) (b : Bool) → AllByRecursion IsWorded (header_of Name (name_words name) ∷ sense_lines b)
worded_first name true = (worded_name name, (refl, (refl, tt)))
worded_first name false = (worded_name name, tt)

seven_parts : {X : Type 0} (P : X → Type 0) (a b c d e f g : List X) → AllByRecursion P a → AllByRecursion P b → AllByRecursion P c → AllByRecursion P d → AllByRecursion P e → AllByRecursion P f → AllByRecursion P g
    → AllByRecursion P (a ++ b ++ c ++ d ++ e ++ f ++ g)
seven_parts P a b c d e f g ha hb hc hd he hf hg =
    all_append P (a ++ b ++ c ++ d ++ e ++ f) g
    (all_append P (a ++ b ++ c ++ d ++ e) f
    (all_append P (a ++ b ++ c ++ d) e
    (all_append P (a ++ b ++ c) d
    (all_append P (a ++ b) c
    (all_append P a b ha hb) hc) hd) he) hf) hg

pub deck_worded : (m : Model) → AllByRecursion IsWorded (deck_lines m)
deck_worded m =
    let rhs : List Line = flat_map rhs_lines m.rows in
    let ranges : List Line = flat_map range_lines m.rows in
    let bounds : List Line = flat_map bound_lines m.cols in
    seven_parts IsWorded
    (header_of Name (name_words m.name) ∷ sense_lines m.maximise)
    (header_of Rows (codes "ROWS" ∷ []) ∷ map row_line m.rows)
    (header_of Columns (codes "COLUMNS" ∷ []) ∷ columns_lines m.rows false m.cols)
    (section_lines Rhs (codes "RHS") rhs)
    (section_lines Ranges (codes "RANGES") ranges)
    (section_lines Bounds (codes "BOUNDS") bounds)
    (header_of End (codes "ENDATA" ∷ []) ∷ [])
    (worded_first m.name m.maximise)
    (refl, worded_part Rows (map row_line m.rows) (row_lines_stand m.rows))
    (refl, worded_part Columns (columns_lines m.rows false m.cols) (columns_lines_stand m.rows false m.cols))
    (worded_section Rhs (codes "RHS") rhs (worded_part Rhs rhs (all_flat_map (StandsIn Rhs) rhs_lines rhs_lines_stand m.rows)))
    (worded_section Ranges (codes "RANGES") ranges (worded_part Ranges ranges (all_flat_map (StandsIn Ranges) range_lines (λ r. range_lines_stand r.name r.range) m.rows)))
    (worded_section Bounds (codes "BOUNDS") bounds (worded_part Bounds bounds (all_flat_map (StandsIn Bounds) bound_lines (λ c. bound_lines_stand c.name c.integer c.lo c.up) m.cols)))
    (refl, tt)

-- ---- the name and the sense

-- these say nothing
abbrev Silent : {Y : Type 0} → (Line → Option Y) → List Line → Type 0
Silent say lines = AllByRecursion (λ l. say l ≡ None) lines

silent_said : {Y : Type 0} (say : Line → Option Y) (lines : List Line) → Silent say lines → filter_map say lines ≡ []
silent_said say [] all = refl
silent_said say (l ∷ lines) all = ap₂ (λ o others. cons_option o others) all.0 (silent_said say lines all.1)

silent_section : {Y : Type 0} (say : Line → Option Y) (section : Section) (word : Word) (lines : List Line) → say (header_of section (word ∷ [])) ≡ None → Silent say lines → Silent say (section_lines section word lines)
silent_section say section word [] head all = tt
silent_section say section word (l ∷ lines) head all = (head, all)

first_alone : {Y : Type 0} (say : Line → Option Y) (first others : List Line) → Silent say others → filter_map say (first ++ others) ≡ filter_map say first
first_alone say first others all = filter_map-append say first others ∙ ap (λ l. filter_map say first ++ l) (silent_said say others all) ∙ append-nil (filter_map say first)

-- what is said of other sections' lines
record SaysNothing {Y : Type 0} (say : Line → Option Y) : Type 0 where
  rows : (l : Line) → l.section ≡ Rows → say l ≡ None
  columns : (l : Line) → l.section ≡ Columns → say l ≡ None
  rhs : (l : Line) → l.section ≡ Rhs → say l ≡ None
  ranges : (l : Line) → l.section ≡ Ranges → say l ≡ None
  bounds : (l : Line) → l.section ≡ Bounds → say l ≡ None
  end : (l : Line) → l.section ≡ End → say l ≡ None

silent_part : {Y : Type 0} (say : Line → Option Y) (section : Section) (lines : List Line) → ((l : Line) → l.section ≡ section → say l ≡ None) → StandIn section lines → Silent say lines
silent_part say section lines none all = all_weaker (StandsIn section) (λ l. say l ≡ None) (λ l h. none l h.place) lines all

first_said : {Y : Type 0} (say : Line → Option Y) → SaysNothing say → (m : Model) → filter_map say (deck_lines m) ≡ filter_map say (header_of Name (name_words m.name) ∷ sense_lines m.maximise)
first_said say nothing m =
    let first : List Line = header_of Name (name_words m.name) ∷ sense_lines m.maximise in
    let rows : List Line = header_of Rows (codes "ROWS" ∷ []) ∷ map row_line m.rows in
    let columns : List Line = header_of Columns (codes "COLUMNS" ∷ []) ∷ columns_lines m.rows false m.cols in
    let rhs : List Line = flat_map rhs_lines m.rows in
    let ranges : List Line = flat_map range_lines m.rows in
    let bounds : List Line = flat_map bound_lines m.cols in
    let rhs_section : List Line = section_lines Rhs (codes "RHS") rhs in
    let ranges_section : List Line = section_lines Ranges (codes "RANGES") ranges in
    let bounds_section : List Line = section_lines Bounds (codes "BOUNDS") bounds in
    let end : List Line = header_of End (codes "ENDATA" ∷ []) ∷ [] in
    first_alone say (first ++ rows ++ columns ++ rhs_section ++ ranges_section ++ bounds_section) end (nothing.end (header_of End (codes "ENDATA" ∷ [])) refl, tt)
    ∙ first_alone say (first ++ rows ++ columns ++ rhs_section ++ ranges_section) bounds_section
    (silent_section say Bounds (codes "BOUNDS") bounds (nothing.bounds (header_of Bounds (codes "BOUNDS" ∷ [])) refl)
    (silent_part say Bounds bounds nothing.bounds (all_flat_map (StandsIn Bounds) bound_lines (λ c. bound_lines_stand c.name c.integer c.lo c.up) m.cols)))
    ∙ first_alone say (first ++ rows ++ columns ++ rhs_section) ranges_section
    (silent_section say Ranges (codes "RANGES") ranges (nothing.ranges (header_of Ranges (codes "RANGES" ∷ [])) refl)
    (silent_part say Ranges ranges nothing.ranges (all_flat_map (StandsIn Ranges) range_lines (λ r. range_lines_stand r.name r.range) m.rows)))
    ∙ first_alone say (first ++ rows ++ columns) rhs_section
    (silent_section say Rhs (codes "RHS") rhs (nothing.rhs (header_of Rhs (codes "RHS" ∷ [])) refl)
    (silent_part say Rhs rhs nothing.rhs (all_flat_map (StandsIn Rhs) rhs_lines rhs_lines_stand m.rows)))
    ∙ first_alone say (first ++ rows) columns
    (nothing.columns (header_of Columns (codes "COLUMNS" ∷ [])) refl, silent_part say Columns (columns_lines m.rows false m.cols) nothing.columns (columns_lines_stand m.rows false m.cols))
    ∙ first_alone say first rows (nothing.rows (header_of Rows (codes "ROWS" ∷ [])) refl, silent_part say Rows (map row_line m.rows) nothing.rows (row_lines_stand m.rows))

abbrev name_of : Line → Option Word
name_of l = cond (same_section Name l.section) (slice_get l.words 1) None

elsewhere : (s t : Section) (l : Line) (o : Option Word) → same_section s t ≡ false → l.section ≡ t → cond (same_section s l.section) o None ≡ None
elsewhere s t l o other is = ap (λ b. cond b o None) (ap (same_section s) is ∙ other)

name_elsewhere : SaysNothing name_of
name_elsewhere = record {
  rows = λ l is. elsewhere Name Rows l (slice_get l.words 1) refl is;
  columns = λ l is. elsewhere Name Columns l (slice_get l.words 1) refl is;
  rhs = λ l is. elsewhere Name Rhs l (slice_get l.words 1) refl is;
  ranges = λ l is. elsewhere Name Ranges l (slice_get l.words 1) refl is;
  bounds = λ l is. elsewhere Name Bounds l (slice_get l.words 1) refl is;
  end = λ l is. elsewhere Name End l (slice_get l.words 1) refl is;
}

name_case : (name : Word) (b : Bool) → last_or [] (filter_map name_of (header_of Name (name_words name) ∷ sense_lines b)) ≡ name
name_case [] true = refl
name_case [] false = refl
name_case (c ∷ name) true = refl
name_case (c ∷ name) false = refl

pub name_said : (n : ℕ) (m : Model) → last_or [] (filter_map name_in (numbered n (deck_lines m))) ≡ m.name
name_said n m =
    ap (last_or []) (numbered_said name_in name_of (λ k l. refl) n (deck_lines m) ∙ first_said name_of name_elsewhere m) ∙ name_case m.name m.maximise

abbrev sense_of : Line → Option Word
sense_of l = cond (same_section Sense l.section) (slice_get l.words (cond l.header 1 0)) None

sense_elsewhere : SaysNothing sense_of
sense_elsewhere = record {
  rows = λ l is. elsewhere Sense Rows l (slice_get l.words (cond l.header 1 0)) refl is;
  columns = λ l is. elsewhere Sense Columns l (slice_get l.words (cond l.header 1 0)) refl is;
  rhs = λ l is. elsewhere Sense Rhs l (slice_get l.words (cond l.header 1 0)) refl is;
  ranges = λ l is. elsewhere Sense Ranges l (slice_get l.words (cond l.header 1 0)) refl is;
  bounds = λ l is. elsewhere Sense Bounds l (slice_get l.words (cond l.header 1 0)) refl is;
  end = λ l is. elsewhere Sense End l (slice_get l.words (cond l.header 1 0)) refl is;
}

abbrev maximal : List Word → Bool
maximal words = list_any (is_one_of (codes "MAX" ∷ codes "MAXIMIZE" ∷ [])) words

sense_case : (name : Word) (b : Bool) → maximal (filter_map sense_of (header_of Name (name_words name) ∷ sense_lines b)) ≡ b
sense_case name true = refl
sense_case name false = refl

pub sense_said : (n : ℕ) (m : Model) → list_any (is_one_of (codes "MAX" ∷ codes "MAXIMIZE" ∷ [])) (senses (numbered n (deck_lines m))) ≡ m.maximise
sense_said n m =
    ap maximal (numbered_said sense_in sense_of (λ k l. refl) n (deck_lines m) ∙ first_said sense_of sense_elsewhere m) ∙ sense_case m.name m.maximise

-- ---- the words of each section

pub rows_words : (m : Model) → words_in Rows (deck_lines m) ≡ map (λ l. l.words) (map row_line m.rows)
rows_words m = deck_words Rows m refl ∙ simp append-nil

pub columns_words : (m : Model) → words_in Columns (deck_lines m) ≡ map (λ l. l.words) (columns_lines m.rows false m.cols)
columns_words m = deck_words Columns m refl ∙ simp append-nil

pub rhs_words : (m : Model) → words_in Rhs (deck_lines m) ≡ map (λ l. l.words) (flat_map rhs_lines m.rows)
rhs_words m = deck_words Rhs m refl ∙ simp append-nil

pub ranges_words : (m : Model) → words_in Ranges (deck_lines m) ≡ map (λ l. l.words) (flat_map range_lines m.rows)
ranges_words m = deck_words Ranges m refl ∙ simp append-nil

pub bounds_words : (m : Model) → words_in Bounds (deck_lines m) ≡ map (λ l. l.words) (flat_map bound_lines m.cols)
bounds_words m = deck_words Bounds m refl ∙ simp append-nil
