-- The records of a model's canonical text are those of its lines.
use Rattle.std.proofs.Common.{◌≡◌, refl, sym, ap, ap₂, ◌∙◌, ℕ, Bool, true, false, not, cond, ◌&&◌, List, [], ◌∷◌, ◌++◌, codes, map, flat_map, append_assoc, append-nil, Option, Some, None}
use Rattle.std.specs.Prelude.{int_lt, pos}
use Rattle.std.proofs.lemmas.Grind.{flat_map-append}
use Rattle.cgl_num.specs.Decimal.{Decimal, decimal_text}
use Rattle.cgl_num.specs.NumberText.{Word}
use Rattle.cgl_model.specs.declared.mip.Row.{Row}
use Rattle.cgl_model.specs.declared.mip.Column.{Column}
use Rattle.cgl_model.specs.declared.mip.Model.{Model}
use Rattle.cgl_model.specs.HasDecimals.{HasDecimals}
use Rattle.cgl_model.specs.Valid.{IsValid}
use Rattle.cgl_decode.specs.declared.kinds.Section.{Section}
use Rattle.cgl_decode.specs.declared.kinds.Section.TheVariants.{Name, Rows, Columns, Rhs, Ranges, Bounds, End}
use Rattle.cgl_decode.specs.Records.{records}
use Rattle.cgl_deck.specs.DeckText.{both_text, bound_line, bound_text, bounds_text, column_text, columns_text, data_line, deck_text, entry_text, is_same_decimal, is_zero_decimal, kind_word, lower_text, marker_text, name_text, range_line, range_text, rhs_text, row_name, row_text, section_text, sense_text}
use Rattle.cgl_deck.specs.DeckLines.{Line, behind_spaces, both_lines, bound_line_of, bound_lines, bound_lines_of, column_lines, columns_lines, data_of, deck_lines, entry_line, header_of, line_bytes, lower_lines, marker_lines, name_words, numbered, range_lines, range_lines_of, rhs_lines, row_line, section_lines, sense_lines, text_of}
use Rattle.cgl_deck.proofs.DeckLineLaws.{deck_well_formed}
use Rattle.cgl_deck.proofs.LineLaws.{records_of_lines_text}

-- ---- the text of the lines

text_append : (a b : List Line) → text_of (a ++ b) ≡ text_of a ++ text_of b
text_append a b = flat_map-append (λ l. line_bytes l ++ 10 ∷ []) a b

spaced : (words : List Word) → behind_spaces words ++ 10 ∷ [] ≡ data_line words
spaced [] = refl
spaced (word ∷ words) = append_assoc (32 ∷ word) (behind_spaces words) (10 ∷ []) ∙ ap (λ t. (32 ∷ word) ++ t) (spaced words)

one_line : (section : Section) (words : List Word) → text_of (data_of section words ∷ []) ≡ data_line words
one_line section words = append-nil (behind_spaces words ++ 10 ∷ []) ∙ spaced words

line_more : (section : Section) (words : List Word) (lines : List Line) (text : List ℕ) → text_of lines ≡ text → text_of (data_of section words ∷ lines) ≡ data_line words ++ text
line_more section words lines text h = ap₂ (λ a b. a ++ b) (spaced words) h

choice_text : (b : Bool) (one two : List Line) (s t : List ℕ) → text_of one ≡ s → text_of two ≡ t → text_of (cond b one two) ≡ cond b s t
choice_text true one two s t h k = h
choice_text false one two s t h k = k

title : (name : Word) → text_of (header_of Name (name_words name) ∷ []) ≡ name_text name
title [] = refl
title (b ∷ name) = ap (λ t. codes "NAME " ++ b ∷ t) (append-nil (name ++ [] ++ 10 ∷ []) ∙ ap (λ t. t ++ 10 ∷ []) (append-nil name))

sense : (maximise : Bool) → text_of (sense_lines maximise) ≡ sense_text maximise
sense true = refl
sense false = refl

rows_text : (rows : List Row) → text_of (map row_line rows) ≡ flat_map row_text rows
rows_text [] = refl
rows_text (r ∷ rows) = line_more Rows (kind_word r.kind ∷ r.name ∷ []) (map row_line rows) (flat_map row_text rows) (rows_text rows)

entries_text : (rows : List Row) (name : Word) (entries : List (ℕ × Decimal)) → text_of (map (entry_line rows name) entries) ≡ flat_map (entry_text rows name) entries
entries_text rows name [] = refl
entries_text rows name (e ∷ entries) =
    line_more Columns (name ∷ row_name rows e.0 ∷ decimal_text e.1 ∷ []) (map (entry_line rows name) entries) (flat_map (entry_text rows name) entries) (entries_text rows name entries)

markers : (before now : Bool) → text_of (marker_lines before now) ≡ marker_text before now
markers false true = refl
markers true false = refl
markers true true = refl
markers false false = refl

two_texts : (a b : List Line) (s t : List ℕ) → text_of a ≡ s → text_of b ≡ t → text_of (a ++ b) ≡ s ++ t
two_texts a b s t h k = text_append a b ∙ ap₂ (λ u v. u ++ v) h k

columns : (rows : List Row) (before : Bool) (cols : List Column) → text_of (columns_lines rows before cols) ≡ columns_text rows before cols
columns rows before [] = markers before false
columns rows before (c ∷ cols) =
    let one = marker_lines before c.integer in
    let two = column_lines rows c in
    two_texts (one ++ two) (columns_lines rows c.integer cols) (marker_text before c.integer ++ column_text rows c) (columns_text rows c.integer cols)
    (two_texts one two (marker_text before c.integer) (column_text rows c) (markers before c.integer) (entries_text rows c.name c.entries))
    (columns rows c.integer cols)

texts_of_each : {X : Type 0} (f : X → List Line) (g : X → List ℕ) → ((x : X) → text_of (f x) ≡ g x) → (xs : List X) → text_of (flat_map f xs) ≡ flat_map g xs
texts_of_each f g h [] = refl
texts_of_each f g h (x ∷ xs) = two_texts (f x) (flat_map f xs) (g x) (flat_map g xs) (h x) (texts_of_each f g h xs)

right_side : (r : Row) → text_of (rhs_lines r) ≡ rhs_text r
right_side r =
    let words = codes "RHS" ∷ r.name ∷ decimal_text r.rhs ∷ [] in
    choice_text (is_zero_decimal r.rhs) [] (data_of Rhs words ∷ []) [] (data_line words) refl (one_line Rhs words)

range_of : (name : Word) (range : Option Decimal) → text_of (range_lines_of name range) ≡ range_line name range
range_of name None = refl
range_of name (Some d) = one_line Ranges (codes "RNG" ∷ name ∷ decimal_text d ∷ [])

one_bound : (kind name : Word) (value : List Word) → text_of (bound_line_of kind name value ∷ []) ≡ bound_line kind name value
one_bound kind name value = one_line Bounds (kind ∷ codes "BND" ∷ name ∷ value)

both : (name : Word) (l u : Decimal) → text_of (both_lines name l u) ≡ both_text name l u
both name l u =
    let lower = bound_line_of (codes "LO") name (decimal_text l ∷ []) ∷ [] in
    let upper = bound_line_of (codes "UP") name (decimal_text u ∷ []) ∷ [] in
    let idle = is_zero_decimal l && not (int_lt u.m (pos 0)) in
    two_texts (cond idle [] lower) upper (cond idle [] (bound_line (codes "LO") name (decimal_text l ∷ []))) (bound_line (codes "UP") name (decimal_text u ∷ []))
    (choice_text idle [] lower [] (bound_line (codes "LO") name (decimal_text l ∷ [])) refl (one_bound (codes "LO") name (decimal_text l ∷ [])))
    (one_bound (codes "UP") name (decimal_text u ∷ []))

lower_of : (name : Word) (integer : Bool) (l : Decimal) → text_of (lower_lines name integer l) ≡ lower_text name integer l
lower_of name integer l =
    let plain = bound_line_of (codes "PL") name [] ∷ [] in
    choice_text (is_zero_decimal l) (cond integer plain []) (bound_line_of (codes "LO") name (decimal_text l ∷ []) ∷ [])
    (cond integer (bound_line (codes "PL") name []) []) (bound_line (codes "LO") name (decimal_text l ∷ []))
    (choice_text integer plain [] (bound_line (codes "PL") name []) [] (one_bound (codes "PL") name []) refl)
    (one_bound (codes "LO") name (decimal_text l ∷ []))

bounds_of : (name : Word) (integer : Bool) (lo up : Option Decimal) → text_of (bound_lines_of name integer lo up) ≡ bounds_text name integer lo up
bounds_of name integer None None = one_bound (codes "FR") name []
bounds_of name integer None (Some u) =
    line_more Bounds (codes "MI" ∷ codes "BND" ∷ name ∷ []) (bound_line_of (codes "UP") name (decimal_text u ∷ []) ∷ []) (bound_line (codes "UP") name (decimal_text u ∷ []))
    (one_bound (codes "UP") name (decimal_text u ∷ []))
bounds_of name integer (Some l) None = lower_of name integer l
bounds_of name integer (Some l) (Some u) =
    choice_text (is_same_decimal l u) (bound_line_of (codes "FX") name (decimal_text l ∷ []) ∷ []) (both_lines name l u)
    (bound_line (codes "FX") name (decimal_text l ∷ [])) (both_text name l u)
    (one_bound (codes "FX") name (decimal_text l ∷ [])) (both name l u)

section_some : (header bytes rest : List ℕ) → section_text header ((bytes ++ 10 ∷ []) ++ rest) ≡ header ++ ((bytes ++ 10 ∷ []) ++ rest)
section_some header [] rest = refl
section_some header (b ∷ bytes) rest = refl

section_of : (section : Section) (word : Word) (lines : List Line) → text_of (section_lines section word lines) ≡ section_text ((word ++ []) ++ 10 ∷ []) (text_of lines)
section_of section word [] = refl
section_of section word (l ∷ lines) = sym (section_some ((word ++ []) ++ 10 ∷ []) (line_bytes l) (text_of lines))

section_is : (section : Section) (word : Word) (lines : List Line) (header text : List ℕ) → (word ++ []) ++ 10 ∷ [] ≡ header → text_of lines ≡ text
    → text_of (section_lines section word lines) ≡ section_text header text
section_is section word lines header text h k = section_of section word lines ∙ ap₂ (λ s t. section_text s t) h k

seven_texts : (a b c d e f g : List Line) (s t u v w x y : List ℕ) → text_of a ≡ s → text_of b ≡ t → text_of c ≡ u → text_of d ≡ v → text_of e ≡ w → text_of f ≡ x → text_of g ≡ y
    → text_of (a ++ b ++ c ++ d ++ e ++ f ++ g) ≡ s ++ t ++ u ++ v ++ w ++ x ++ y
seven_texts a b c d e f g s t u v w x y h1 h2 h3 h4 h5 h6 h7 =
    two_texts (a ++ b ++ c ++ d ++ e ++ f) g (s ++ t ++ u ++ v ++ w ++ x) y
    (two_texts (a ++ b ++ c ++ d ++ e) f (s ++ t ++ u ++ v ++ w) x
    (two_texts (a ++ b ++ c ++ d) e (s ++ t ++ u ++ v) w
    (two_texts (a ++ b ++ c) d (s ++ t ++ u) v
    (two_texts (a ++ b) c (s ++ t) u
    (two_texts a b s t h1 h2) h3) h4) h5) h6) h7

regrouped : (n s r rs c cs x y z e : List ℕ) → (n ++ s) ++ (r ++ rs) ++ (c ++ cs) ++ x ++ y ++ z ++ e ≡ n ++ s ++ r ++ rs ++ c ++ cs ++ x ++ y ++ z ++ e
regrouped n s r rs c cs x y z e = simp append_assoc

pub text_is_lines : (m : Model) → deck_text m ≡ text_of (deck_lines m)
unfolding deck_text
text_is_lines m =
    let top = header_of Name (name_words m.name) in
    let rows_header = header_of Rows (codes "ROWS" ∷ []) in
    let columns_header = header_of Columns (codes "COLUMNS" ∷ []) in
    let rhs = flat_map rhs_lines m.rows in
    let ranges = flat_map range_lines m.rows in
    let bounds = flat_map bound_lines m.cols in
    let rhs_is = section_is Rhs (codes "RHS") rhs (codes "RHS\n") (flat_map rhs_text m.rows) refl (texts_of_each rhs_lines rhs_text right_side m.rows) in
    let ranges_are = section_is Ranges (codes "RANGES") ranges (codes "RANGES\n") (flat_map range_text m.rows) refl (texts_of_each range_lines range_text (λ r. range_of r.name r.range) m.rows) in
    let bounds_are = section_is Bounds (codes "BOUNDS") bounds (codes "BOUNDS\n") (flat_map bound_text m.cols) refl
    (texts_of_each bound_lines bound_text (λ c. bounds_of c.name c.integer c.lo c.up) m.cols) in
    let lines = seven_texts (top ∷ sense_lines m.maximise) (rows_header ∷ map row_line m.rows) (columns_header ∷ columns_lines m.rows false m.cols)
    (section_lines Rhs (codes "RHS") rhs) (section_lines Ranges (codes "RANGES") ranges) (section_lines Bounds (codes "BOUNDS") bounds) (header_of End (codes "ENDATA" ∷ []) ∷ [])
    (name_text m.name ++ sense_text m.maximise) (codes "ROWS\n" ++ flat_map row_text m.rows) (codes "COLUMNS\n" ++ columns_text m.rows false m.cols)
    (section_text (codes "RHS\n") (flat_map rhs_text m.rows)) (section_text (codes "RANGES\n") (flat_map range_text m.rows)) (section_text (codes "BOUNDS\n") (flat_map bound_text m.cols)) (codes "ENDATA\n")
    (two_texts (top ∷ []) (sense_lines m.maximise) (name_text m.name) (sense_text m.maximise) (title m.name) (sense m.maximise))
    (ap (λ t. codes "ROWS\n" ++ t) (rows_text m.rows)) (ap (λ t. codes "COLUMNS\n" ++ t) (columns m.rows false m.cols))
    rhs_is ranges_are bounds_are refl in
    sym (lines ∙ regrouped (name_text m.name) (sense_text m.maximise) (codes "ROWS\n") (flat_map row_text m.rows) (codes "COLUMNS\n") (columns_text m.rows false m.cols)
    (section_text (codes "RHS\n") (flat_map rhs_text m.rows)) (section_text (codes "RANGES\n") (flat_map range_text m.rows)) (section_text (codes "BOUNDS\n") (flat_map bound_text m.cols)) (codes "ENDATA\n"))

-- the canonical text, cut into records, gives back the lines that it was written from
pub records_of_text : (m : Model) → IsValid m → HasDecimals m → records (deck_text m) ≡ numbered 1 (deck_lines m)
records_of_text m v d = ap records (text_is_lines m) ∙ records_of_lines_text (deck_lines m) (deck_well_formed m v d)
