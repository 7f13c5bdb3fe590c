-- The lines of RHS and RANGES have no fault: each row stands there at most once.
use Rattle.std.proofs.Common.{◌≡◌, refl, sym, ap, ◌∙◌, subst, arith, ℕ, ◌+◌, ◌<◌, ◌≤◌, ◌⊎◌, inl, inr, Bool, true, false, cond, not, ◌||◌, List, [], ◌∷◌, ◌++◌, append-nil, filter, flat_map, bytes_eq, is_none}
use Rattle.std.specs.List.{list_any, AllByRecursion}
use Rattle.std.proofs.lemmas.Bool.{and_right, not-true, or_from, or_parts}
use Rattle.std.proofs.lemmas.List.Folds.{list_any-append}
use Rattle.cgl_num.specs.NumberText.{Word, number}
use Rattle.cgl_text.specs.Text.{is_one_of}
use Rattle.cgl_model.specs.declared.mip.Row.{Row}
use Rattle.cgl_model.specs.Valid.{AreDistinct}
use Rattle.cgl_decode.specs.declared.kinds.Section.{Section}
use Rattle.cgl_decode.specs.declared.kinds.Section.TheVariants.{Rows, Columns}
use Rattle.cgl_decode.specs.Records.{Record, place, same_section, data_in, has_header}
use Rattle.cgl_decode.specs.Sections.{row_names, column_names, set_pairs, counting_pairs, counts_after}
use Rattle.cgl_decode.specs.Faults.{names_row, set_conditions}
use Rattle.cgl_decode.proofs.DistinctLaws.{flip_differ}
use Rattle.cgl_decode.proofs.NameLaws.{any-flat_map}
use Rattle.cgl_deck.specs.DeckLines.{Line, data_of, header_of, record_at, section_lines}
use Rattle.cgl_deck.proofs.PartLaws.{IsGood, NoneHolds, Part, Under, columns_same, data_none, data_push, first, header_stays, nothing, rows_same, then, under_more, under_push}
use Rattle.cgl_deck.proofs.RowPartLaws.{names_of}

-- ---- behind COLUMNS

pub record AfterColumns (k : ℕ) (rows names : List Word) (before : List Record) : Type 0 where
  pub under : Under k before
  pub known : row_names before ≡ rows
  pub header : has_header Columns before ≡ true
  pub columns : column_names before ≡ names

pub later : (k m : ℕ) → k ≤ m → (rows names : List Word) (before : List Record) → AfterColumns k rows names before → AfterColumns m rows names before
later k m le rows names before h = record { under = under_more k m le before h.under; known = h.known; header = h.header; columns = h.columns }

-- a record of a later section
pub pushed : (k m : ℕ) → k ≤ m → (rows names : List Word) (before : List Record) (r : Record) → data_in Rows (r ∷ []) ≡ [] → data_in Columns (r ∷ []) ≡ [] → 0 < place r.section → place r.section < m
    → AfterColumns k rows names before → AfterColumns m rows names (before ++ r ∷ [])
pushed k m le rows names before r no_row no_column above below h = record {
  under = under_push k m le before r h.under above below;
  known = rows_same before r no_row ∙ h.known;
  header = header_stays Columns before r h.header;
  columns = columns_same before r no_column ∙ h.columns;
}

pub headed : (s : Section) (word : Word) (lines : List Line) (P H Q : List Record → Type 0) → ((before : List Record) → P before → Q before)
    → ((before : List Record) (n : ℕ) → P before → IsGood before (record_at n (header_of s (word ∷ []))) × H (before ++ record_at n (header_of s (word ∷ [])) ∷ []))
    → Part H lines Q → Part P (section_lines s word lines) Q
headed s word [] P H Q weaker here part = nothing P Q weaker
headed s word (l ∷ lines) P H Q weaker here part = first P H Q (header_of s (word ∷ [])) (l ∷ lines) here part

-- ---- sections of pairs

abbrev set_record : Section → ℕ → Word → Word → Word → Record
set_record s n word name text = record_at n (data_of s (word ∷ name ∷ text ∷ []))

pub record IsSetSection (s : Section) : Type 0 where
  pub above : 0 < place s
  pub own : same_section s s ≡ true
  pub no_rows : same_section Rows s ≡ false
  pub no_columns : same_section Columns s ≡ false
  pub good : (before : List Record) (n : ℕ) (word name text : Word) → NoneHolds (set_conditions s before (record_at n (data_of s (word ∷ name ∷ text ∷ [])))) → IsGood before (record_at n (data_of s (word ∷ name ∷ text ∷ [])))

-- no line of the section so far names the row
abbrev pub IsFree : Section → List Record → Word → Type 0
IsFree s before name = list_any (λ r. names_row (set_pairs r) name) (data_in s before) ≡ false

pub record InSet (s : Section) (rows names free : List Word) (before : List Record) : Type 0 where
  pub all : AfterColumns (place s + 1) rows names before
  pub unnamed : AllByRecursion (IsFree s before) free

any_filtered : {X : Type 0} (p q : X → Bool) (xs : List X) → list_any p xs ≡ false → list_any p (filter q xs) ≡ false
any_filtered p q [] none = refl
any_filtered p q (x ∷ xs) none =
    let parts = or_parts (p x) (list_any p xs) none in
    filtered_case (q x) parts.0 (any_filtered p q xs parts.1)
  where
    filtered_case : (b : Bool) → p x ≡ false → list_any p (filter q xs) ≡ false → list_any p (cond b (x ∷ filter q xs) (filter q xs)) ≡ false
    filtered_case true here rest = or_from (p x) (list_any p (filter q xs)) here rest
    filtered_case false here rest = rest

not_counting : (s : Section) (before : List Record) (name : Word) → IsFree s before name → names_row (counting_pairs s before ++ []) name ≡ false
not_counting s before name free =
    ap (λ l. names_row l name) (append-nil (counting_pairs s before))
    ∙ sym (any-flat_map set_pairs (λ p. bytes_eq name p.0) (filter (counts_after s before) (data_in s before)))
    ∙ any_filtered (λ r. names_row (set_pairs r) name) (counts_after s before) (data_in s before) free

set_good : (s : Section) → IsSetSection s → (rows : List Word) (word name text : Word) → is_one_of rows name ≡ true → is_none (number text) ≡ false
    → (before : List Record) (n : ℕ) → row_names before ≡ rows → IsFree s before name → IsGood before (record_at n (data_of s (word ∷ name ∷ text ∷ [])))
set_good s set rows word name text has read before n known free =
    let counts = counts_after s before (set_record s n word name text) in
    set.good before n word name text (
      refl,
      (
        and_right counts (not (is_one_of (row_names before) name)) (ap (λ l. not (is_one_of l name)) known ∙ ap not has),
        (
          and_right counts (names_row (counting_pairs s before ++ []) name) (not_counting s before name free),
          (read, tt),
        ),
      ),
    )

set_data : (s : Section) → IsSetSection s → (word name text : Word) (n : ℕ) (before : List Record) → data_in s (before ++ set_record s n word name text ∷ []) ≡ data_in s before ++ set_record s n word name text ∷ []
set_data s set word name text n before =
    data_push s before (set_record s n word name text) ∙ ap (λ b. data_in s before ++ cond b (set_record s n word name text ∷ []) []) set.own

still_free : (s : Section) → IsSetSection s → (word name text : Word) (n : ℕ) (before : List Record) (other : Word) → bytes_eq other name ≡ false → IsFree s before other → IsFree s (before ++ set_record s n word name text ∷ []) other
still_free s set word name text n before other differ free =
    let named : Record → Bool = λ r. names_row (set_pairs r) other in
    ap (list_any named) (set_data s set word name text n before)
    ∙ list_any-append named (data_in s before) (set_record s n word name text ∷ [])
    ∙ or_from (list_any named (data_in s before)) ((bytes_eq other name || false) || false) free (ap (λ b. (b || false) || false) differ)

all_still_free : (s : Section) → IsSetSection s → (word name text : Word) (n : ℕ) (before : List Record) (free : List Word) → is_one_of free name ≡ false → AllByRecursion (IsFree s before) free
    → AllByRecursion (IsFree s (before ++ set_record s n word name text ∷ [])) free
all_still_free s set word name text n before [] fresh all = tt
all_still_free s set word name text n before (other ∷ free) fresh all =
    let parts = or_parts (bytes_eq name other) (is_one_of free name) fresh in
    (still_free s set word name text n before other (flip_differ name other parts.0) all.0, all_still_free s set word name text n before free parts.1 all.1)

-- no line, or one with a number
abbrev pub AreSetLines : Section → Word → Word → List Line → Type 0
AreSetLines s word name lines = (lines ≡ []) ⊎ ((text : Word) × (lines ≡ data_of s (word ∷ name ∷ text ∷ []) ∷ []) × (is_none (number text) ≡ false))

row_part : (s : Section) → IsSetSection s → (rows names : List Word) (word name : Word) (free : List Word) (lines : List Line) → is_one_of rows name ≡ true → is_one_of free name ≡ false → AreSetLines s word name lines
    → Part (InSet s rows names (name ∷ free)) lines (InSet s rows names free)
row_part s set rows names word name free lines has fresh (inl none) =
    subst (λ l. Part (InSet s rows names (name ∷ free)) l (InSet s rows names free)) (sym none)
    (nothing (InSet s rows names (name ∷ free)) (InSet s rows names free) (λ before h. record { all = h.all; unnamed = h.unnamed.1 }))
row_part s set rows names word name free lines has fresh (inr one) =
    let text = one.0 in
    subst (λ l. Part (InSet s rows names (name ∷ free)) l (InSet s rows names free)) (sym one.1)
    (first (InSet s rows names (name ∷ free)) (InSet s rows names free) (InSet s rows names free) (data_of s (word ∷ name ∷ text ∷ [])) []
    (λ before n h.
    let r = set_record s n word name text in
    let no_row : data_in Rows (r ∷ []) ≡ [] = ap (λ b. cond b (r ∷ []) []) set.no_rows in
    let no_column : data_in Columns (r ∷ []) ≡ [] = ap (λ b. cond b (r ∷ []) []) set.no_columns in (
      set_good s set rows word name text has one.2 before n h.all.known h.unnamed.0,
      record {
        all = pushed (place s + 1) (place s + 1) (omega arith) rows names before r no_row no_column set.above (omega arith) h.all;
        unnamed = all_still_free s set word name text n before free fresh h.unnamed.1;
      },
    ))
    (nothing (InSet s rows names free) (InSet s rows names free) (λ before h. h)))

pub set_lines : (s : Section) → IsSetSection s → (rows names : List Word) (word : Word) (make : Row → List Line) (rs : List Row)
    → AllByRecursion (λ r. AreSetLines s word r.name (make r)) rs → AllByRecursion (λ r. is_one_of rows r.name ≡ true) rs → AreDistinct (names_of rs)
    → Part (InSet s rows names (names_of rs)) (flat_map make rs) (InSet s rows names [])
set_lines s set rows names word make [] lines has distinct = nothing (InSet s rows names []) (InSet s rows names []) (λ before h. h)
set_lines s set rows names word make (r ∷ rs) lines has distinct =
    then (InSet s rows names (r.name ∷ names_of rs)) (InSet s rows names (names_of rs)) (InSet s rows names []) (make r) (flat_map make rs)
    (row_part s set rows names word r.name (names_of rs) (make r) has.0 (not-true (is_one_of (names_of rs) r.name) distinct.0) lines.0)
    (set_lines s set rows names word make rs lines.1 has.1 distinct.1)

all_free : (s : Section) (before : List Record) → data_in s before ≡ [] → (free : List Word) → AllByRecursion (IsFree s before) free
all_free s before none [] = tt
all_free s before none (name ∷ free) = (ap (list_any (λ r. names_row (set_pairs r) name)) none, all_free s before none free)

-- behind the header, no row is named
pub set_begins : (s : Section) (word : Word) (rows names free : List Word) → 0 < place s → (before : List Record) (n : ℕ) → AfterColumns (place s) rows names before → InSet s rows names free (before ++ record_at n (header_of s (word ∷ [])) ∷ [])
set_begins s word rows names free above before n h =
    let r = record_at n (header_of s (word ∷ [])) in
    record {
      all = pushed (place s) (place s + 1) (omega arith) rows names before r refl refl above (omega arith) h;
      unnamed = all_free s (before ++ r ∷ []) (data_push s before r ∙ append-nil (data_in s before) ∙ data_none (place s) s before (omega arith) h.under) free;
    }
