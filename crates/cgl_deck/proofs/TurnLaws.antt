-- Loops that let a text grow by the text of each item of a list.
use Rattle.std.proofs.Common.{◌≡◌, List, ℕ, suc, ◌+◌, ◌<◌, ◌≤◌, [], ◌∷◌, ◌++◌, length, get_or, take, drop, flat_map, map, length-append, subst, add-one, ap, refl, sym, ◌∙◌, arith, codes, cond, pos, int_lt, not, ◌&&◌, ◌||◌, Bool, true, false}
use Rattle.std.specs.List.{list_any}
use Rattle.std.proofs.Math.Seq.{drop-cons}
use Rattle.std.proofs.lemmas.List.{drop_all, take_all}
use Rattle.cgl_num.specs.Decimal.{Decimal, decimal_text}
use Rattle.cgl_num.specs.NumberText.{Word}
use Rattle.cgl_text.specs.GrowthLaws.{flat_map_more, grows_nothing, grows_then}
use Rattle.cgl_model.specs.declared.mip.Column.{Column}
use Rattle.cgl_model.specs.declared.mip.Model.{Model}
use Rattle.cgl_model.specs.declared.mip.Row.{Row}
use Rattle.cgl_deck.specs.declared.output.Output.{Output}
use Rattle.cgl_deck.specs.DeckLength.{most}
use Rattle.cgl_deck.specs.DeckOutput.{Longer, is_written}
use Rattle.cgl_deck.specs.DeckText.{both_text, bound_line, bound_text, column_text, columns_text, data_line, deck_text, is_zero_decimal, marker_text, name_text, range_text, rhs_text, row_text, section_text, sense_text}

pub next_item : {X : Type 0} (xs : List X) (i : ℕ) (d x : X) → i < length xs → x ≡ get_or xs i d → drop i xs ≡ x ∷ drop (i + 1) xs
next_item xs i d x lt is = rw add-one (drop-cons xs i d lt ∙ ap (λ v. v ∷ drop (suc i) xs) (sym is))

-- ---- pieces

pub longer_nothing : (a : Output) → Longer [] a a
longer_nothing a = record { kept = refl; len = λ n is. is ∙ ap most (omega arith); bytes = grows_nothing _ }

pub longer_then : (x y : List ℕ) (a b c : Output) → Longer x a b → Longer y b c → Longer (x ++ y) a c
longer_then x y a b c first second = record {
  kept = second.kept ∙ first.kept;
  len = λ n is. second.len (n + length x) (first.len n is) ∙ ap most (omega (arith, length-append x y));
  bytes = grows_then x y _ _ _ first.bytes second.bytes;
}

pub longer_as : (x y : List ℕ) (a b : Output) → x ≡ y → Longer x a b → Longer y a b
longer_as x y a b e longer = subst (λ (z : List ℕ). Longer z a b) e longer

pub three_words : (x y z : Word) (a b c d e : Output) → Longer (32 ∷ x) a b → Longer (32 ∷ y) b c → Longer (32 ∷ z) c d → Longer (10 ∷ []) d e
    → Longer (data_line (x ∷ y ∷ z ∷ [])) a e
three_words x y z a b c d e first second third end =
    longer_then (32 ∷ x) _ a b e first (longer_then (32 ∷ y) _ b c e second (longer_then (32 ∷ z) (10 ∷ []) c d e third end))

-- ---- a rest that is to come

-- with the rest behind it the text is longer by the whole
pub record Awaits (rest whole : List ℕ) (old new : Output) : Type 0 where
  pub with_rest : (end : Output) → Longer rest new end → Longer whole old end

pub all_to_come : (whole : List ℕ) (a : Output) → Awaits whole whole a a
all_to_come whole a = record { with_rest = λ end rest. rest }

less_to_come : (piece rest before whole : List ℕ) (old a b : Output) → before ≡ piece ++ rest → Awaits before whole old a → Longer piece a b → Awaits rest whole old b
less_to_come piece rest before whole old a b is awaits grows = record {
  with_rest = λ end more. awaits.with_rest end (longer_as _ _ a end (sym is) (longer_then piece rest a b end grows more));
}

pub word_turn : {X : Type 0} (word : X → Word) (xs : List X) (i : ℕ) (d : X) (whole : List ℕ) (old a b : Output) → i < length xs
    → Awaits (data_line (map word (drop i xs))) whole old a → Longer (32 ∷ word (get_or xs i d)) a b → Awaits (data_line (map word (drop (i + 1) xs))) whole old b
word_turn word xs i d whole old a b lt awaits grows =
    less_to_come (32 ∷ word (get_or xs i d)) (data_line (map word (drop (i + 1) xs))) _ whole old a b (ap (λ l. data_line (map word l)) (next_item xs i d (get_or xs i d) lt refl)) awaits grows

pub line_ended : {X : Type 0} (word : X → Word) (xs : List X) (i : ℕ) (whole : List ℕ) (old a b : Output) → length xs ≤ i
    → Awaits (data_line (map word (drop i xs))) whole old a → Longer (10 ∷ []) a b → Longer whole old b
line_ended word xs i whole old a b le awaits end = awaits.with_rest b (longer_as _ _ a b (ap (λ l. data_line (map word l)) (sym (drop_all i xs le))) end)

pub column_turn : (rows : List Row) (cols : List Column) (i : ℕ) (c : Column) (before : Bool) (whole : List ℕ) (old a b d : Output) → i < length cols → c ≡ get_or cols i c
    → Awaits (columns_text rows before (drop i cols)) whole old a → Longer (marker_text before c.integer) a b → Longer (column_text rows c) b d
    → Awaits (columns_text rows c.integer (drop (i + 1) cols)) whole old d
column_turn rows cols i c before whole old a b d lt is awaits marker column =
    less_to_come (marker_text before c.integer ++ column_text rows c) (columns_text rows c.integer (drop (i + 1) cols)) _ whole old a d (ap (columns_text rows before) (next_item cols i c c lt is)) awaits
    (longer_then (marker_text before c.integer) (column_text rows c) a b d marker column)

pub columns_ended : (rows : List Row) (cols : List Column) (i : ℕ) (before : Bool) (whole : List ℕ) (old a b : Output) → length cols ≤ i
    → Awaits (columns_text rows before (drop i cols)) whole old a → Longer (marker_text before false) a b → Longer whole old b
columns_ended rows cols i before whole old a b le awaits end = awaits.with_rest b (longer_as _ _ a b (ap (columns_text rows before) (sym (drop_all i cols le))) end)

-- ---- items

pub item_turn : {X : Type 0} (f : X → List ℕ) (xs : List X) (i : ℕ) (x : X) (a b c : Output) → i < length xs → x ≡ get_or xs i x
    → Longer (flat_map f (take i xs)) a b → Longer (f x) b c → Longer (flat_map f (take (i + 1) xs)) a c
item_turn f xs i x a b c lt is before here =
    longer_as _ _ a c (sym (flat_map_more f xs i x lt)) (longer_then _ _ a b c before (longer_as _ _ b c (ap f is) here))

pub items_ended : {X : Type 0} (f : X → List ℕ) (xs : List X) (i : ℕ) (a b : Output) → length xs ≤ i → Longer (flat_map f (take i xs)) a b → Longer (flat_map f xs) a b
items_ended f xs i a b le grows = longer_as _ _ a b (ap (flat_map f) (take_all i xs le)) grows

-- ---- sections

written_first : (x y : List ℕ) → is_written (x ++ y) ≡ (is_written x || is_written y)
written_first [] y = refl
written_first (b ∷ x) y = refl

-- the texts of a list's items are empty exactly where each is
pub any_written : {X : Type 0} (f : X → List ℕ) (xs : List X) → is_written (flat_map f xs) ≡ list_any (λ x. is_written (f x)) xs
any_written f [] = refl
any_written f (x ∷ xs) = written_first (f x) (flat_map f xs) ∙ ap (λ b. is_written (f x) || b) (any_written f xs)

left_out : (head lines : List ℕ) (a : Output) → is_written lines ≡ false → Longer (section_text head lines) a a
left_out head [] a none = longer_nothing a
left_out head (b ∷ lines) a none = cc

pub section_left_out : {X : Type 0} (f : X → List ℕ) (xs : List X) (head : List ℕ) (some : Bool) (a : Output) → some ≡ list_any (λ x. is_written (f x)) xs → some ≡ false
    → Longer (section_text head (flat_map f xs)) a a
section_left_out f xs head some a is none = left_out head (flat_map f xs) a (any_written f xs ∙ sym is ∙ none)

written : (head lines : List ℕ) (a b c : Output) → is_written lines ≡ true → Longer head a b → Longer lines b c → Longer (section_text head lines) a c
written head [] a b c some opened longer = cc
written head (l ∷ lines) a b c some opened longer = longer_then head (l ∷ lines) a b c opened longer

pub section_written : {X : Type 0} (f : X → List ℕ) (xs : List X) (head : List ℕ) (some : Bool) (a b c : Output) → some ≡ list_any (λ x. is_written (f x)) xs → some ≡ true
    → Longer head a b → Longer (flat_map f xs) b c → Longer (section_text head (flat_map f xs)) a c
section_written f xs head some a b c is yet opened longer = written head (flat_map f xs) a b c (any_written f xs ∙ sym is ∙ yet) opened longer

-- ---- bounds

pub lower_and_upper : (name : Word) (l u : Decimal) (alone : Bool) (a b c : Output) → alone ≡ (is_zero_decimal l && not (int_lt u.m (pos 0))) → alone ≡ false
    → Longer (bound_line (codes "LO") name (decimal_text l ∷ [])) a b → Longer (bound_line (codes "UP") name (decimal_text u ∷ [])) b c → Longer (both_text name l u) a c
lower_and_upper name l u alone a b c is other first second =
    let lower = bound_line (codes "LO") name (decimal_text l ∷ []) in
    let upper = bound_line (codes "UP") name (decimal_text u ∷ []) in
    longer_as _ _ a c (ap (λ x. cond x [] lower ++ upper) (sym other ∙ is)) (longer_then lower upper a b c first second)

-- ---- all

-- the parts that are written one behind another are the whole text
pub deck_longer : (m : Model) (o0 o1 o2 o3 o4 o5 o6 o7 o8 o9 end : Output) → Longer (name_text m.name) o0 o1 → Longer (sense_text m.maximise) o1 o2
    → Longer (codes "ROWS\n") o2 o3 → Longer (flat_map row_text m.rows) o3 o4
    → Longer (codes "COLUMNS\n") o4 o5 → Longer (columns_text m.rows false m.cols) o5 o6
    → Longer (section_text (codes "RHS\n") (flat_map rhs_text m.rows)) o6 o7
    → Longer (section_text (codes "RANGES\n") (flat_map range_text m.rows)) o7 o8
    → Longer (section_text (codes "BOUNDS\n") (flat_map bound_text m.cols)) o8 o9
    → Longer (codes "ENDATA\n") o9 end → Longer (deck_text m) o0 end
unfolding deck_text
deck_longer m o0 o1 o2 o3 o4 o5 o6 o7 o8 o9 end name sense row_header rows column_header columns rhs ranges bounds last =
    longer_then _ _ o0 o9 end
    (longer_then _ _ o0 o8 o9
    (longer_then _ _ o0 o7 o8
    (longer_then _ _ o0 o6 o7
    (longer_then _ _ o0 o5 o6
    (longer_then _ _ o0 o4 o5
    (longer_then _ _ o0 o3 o4
    (longer_then _ _ o0 o2 o3
    (longer_then _ _ o0 o1 o2 name sense) row_header) rows) column_header) columns) rhs) ranges) bounds) last
