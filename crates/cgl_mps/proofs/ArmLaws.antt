-- What each kind of line makes of the tables.
use Rattle.std.proofs.Common.{◌≡◌, refl, sym, ap, ap₂, ◌∙◌, subst, Bool, true, false, cond, not, ◌&&◌, ◌||◌, inl, inr, List, [], ◌∷◌, ◌++◌, append-nil, map, bytes_eq, codes, option_map, Option, Some, None}
use Rattle.std.specs.List.{cons_option}
use Rattle.std.proofs.lemmas.List.{map-append}
use Rattle.std.proofs.lemmas.List.Folds.{list_any-append}
use Rattle.cgl_num.specs.NumberText.{Word}
use Rattle.cgl_text.specs.Text.{is_one_of}
use Rattle.cgl_model.specs.declared.mip.RowKind.{RowKind}
use Rattle.cgl_decode.specs.declared.kinds.Section.{Section}
use Rattle.cgl_decode.specs.declared.kinds.Section.TheVariants.{Rows, Columns, Rhs, Ranges, Bounds}
use Rattle.cgl_decode.specs.Records.{Record, field, same_section}
use Rattle.cgl_decode.specs.Sections.{Pair, entry_pairs, is_marker, row_in}
use Rattle.cgl_decode.specs.Found.{is_data_of}
use Rattle.cgl_mps.specs.Carried.{ReadColumn, ReadColumns, ReadPairs, ReadBounds, after_bound, after_line, after_marker, after_more, after_new, after_pairs, all_of, begun, is_current, names_of, with_pairs}
use Rattle.cgl_mps.specs.Tables.{AreBounds, AreColumns, ArePairs, BoundTable, ColumnTable, IsNext, PairTable, StandOnce}
use Rattle.cgl_mps.specs.State.{State, AddsRow, MayAdd, AreNextPairs, IsNextBound, SameTables, TakesTables, next_bounds, next_columns, next_pairs, row_on}

-- ---- a table that the line does not name stays

rows_stay : (r : Record) (rows : List Word) → is_data_of Rows r ≡ false → rows ≡ rows ++ map (λ row. row.1) (row_on r)
rows_stay r rows other = sym (ap (λ b. rows ++ map (λ row. row.1) (cond b (cons_option (row_in r.fields) []) [])) other ∙ append-nil rows)

kinds_stay : (r : Record) (kinds : List RowKind) → is_data_of Rows r ≡ false → kinds ≡ kinds ++ map (λ row. row.0) (row_on r)
kinds_stay r kinds other = sym (ap (λ b. kinds ++ map (λ row. row.0) (cond b (cons_option (row_in r.fields) []) [])) other ∙ append-nil kinds)

columns_stay : (r : Record) (rows : List Word) (read : ReadColumns) (table : ColumnTable) → is_data_of Columns r ≡ false → AreColumns rows read table → AreColumns rows (next_columns r read) table
columns_stay r rows read table other are = subst (λ (b : Bool). AreColumns rows (cond b (after_line read r) read) table) (sym other) are

pairs_stay : (section : Section) (r : Record) (rows : List Word) (read : ReadPairs) (table : PairTable) → is_data_of section r ≡ false → ArePairs rows read table → ArePairs rows (next_pairs section r read) table
pairs_stay section r rows read table other are = subst (λ (b : Bool). ArePairs rows (cond b (after_pairs section read r) read) table) (sym other) are

bounds_stay : (r : Record) (names : List Word) (read : ReadBounds) (table : BoundTable) → is_data_of Bounds r ≡ false → AreBounds names read table → AreBounds names (next_bounds r read) table
bounds_stay r names read table other are = subst (λ (b : Bool). AreBounds names (cond b (after_bound read r) read) table) (sym other) are

-- ---- a table that the line names

columns_grow : (r : Record) (rows : List Word) (read : ReadColumns) (table : ColumnTable) → is_data_of Columns r ≡ true → AreColumns rows (after_line read r) table → AreColumns rows (next_columns r read) table
columns_grow r rows read table here are = subst (λ (b : Bool). AreColumns rows (cond b (after_line read r) read) table) (sym here) are

pairs_grow : (section : Section) (r : Record) (rows : List Word) (read : ReadPairs) (table : PairTable) → is_data_of section r ≡ true → ArePairs rows (after_pairs section read r) table → ArePairs rows (next_pairs section r read) table
pairs_grow section r rows read table here are = subst (λ (b : Bool). ArePairs rows (cond b (after_pairs section read r) read) table) (sym here) are

bounds_grow : (r : Record) (names : List Word) (read : ReadBounds) (table : BoundTable) → is_data_of Bounds r ≡ true → AreBounds names (after_bound read r) table → AreBounds names (next_bounds r read) table
bounds_grow r names read table here are = subst (λ (b : Bool). AreBounds names (cond b (after_bound read r) read) table) (sym here) are

-- ---- the section of a data line

stands : (r : Record) (section : Section) → r.header ≡ false → r.section ≡ section → (other : Section) → is_data_of other r ≡ same_section other section
stands r section data_line at other = ap₂ (λ h s. not h && same_section other s) data_line at

-- two equations used at once
pub subst₂ : {A B : Type 0} (P : A → B → Type 0) {a a' : A} {b b' : B} → a ≡ a' → b ≡ b' → P a b → P a' b'
subst₂ P {a} {a'} {b} {b'} e f p = subst (λ y. P a' y) f (subst (λ x. P x b) e p)

same_columns : (r : Record) (old new : State) (read : ReadColumns) → new.rows ≡ old.rows → new.columns ≡ old.columns → is_data_of Columns r ≡ false
    → AreColumns old.rows read old.columns → AreColumns new.rows (next_columns r read) new.columns
same_columns r old new read rows columns other are =
    subst₂ (λ (l : List Word) (t : ColumnTable). AreColumns l (next_columns r read) t) (sym rows) (sym columns) (columns_stay r old.rows read old.columns other are)

same_pairs : (section : Section) (r : Record) (old new : State) (read : ReadPairs) (table table' : PairTable) → new.rows ≡ old.rows → table' ≡ table → is_data_of section r ≡ false
    → ArePairs old.rows read table → ArePairs new.rows (next_pairs section r read) table'
same_pairs section r old new read table table' rows same other are =
    subst₂ (λ (l : List Word) (t : PairTable). ArePairs l (next_pairs section r read) t) (sym rows) (sym same) (pairs_stay section r old.rows read table other are)

same_bounds : (r : Record) (old new : State) (read : ReadBounds) → new.columns.names ≡ old.columns.names → new.bounds ≡ old.bounds → is_data_of Bounds r ≡ false
    → AreBounds old.columns.names read old.bounds → AreBounds new.columns.names (next_bounds r read) new.bounds
same_bounds r old new read names bounds other are =
    subst₂ (λ (l : List Word) (t : BoundTable). AreBounds l (next_bounds r read) t) (sym names) (sym bounds) (bounds_stay r old.columns.names read old.bounds other are)

-- ---- the arms

-- a line of another section, or a header
pub others_taken : (r : Record) (old new : State)
    → is_data_of Rows r ≡ false → is_data_of Columns r ≡ false → is_data_of Rhs r ≡ false → is_data_of Ranges r ≡ false → is_data_of Bounds r ≡ false
    → SameTables old new → TakesTables r old new
others_taken r old new no_row no_column no_rhs no_range no_bound same =
    record {
      rows = same.rows ∙ rows_stay r old.rows no_row;
      kinds = same.kinds ∙ kinds_stay r old.kinds no_row;
      columns = λ read are next. same_columns r old new read same.rows same.columns no_column are;
      rhs = λ read once are next. same_pairs Rhs r old new read old.rhs new.rhs same.rows same.rhs no_rhs are;
      ranges = λ read once are next. same_pairs Ranges r old new read old.ranges new.ranges same.rows same.ranges no_range are;
      bounds = λ columns' are_columns nexts read once are next. same_bounds r old new read (ap (λ c. c.names) same.columns) same.bounds no_bound are;
    }

-- a line of ROWS
pub row_taken : (r : Record) (kind : RowKind) (name : Word) (old new : State) → r.header ≡ false → r.section ≡ Rows → row_in r.fields ≡ Some (kind, name)
    → is_one_of old.rows name ≡ false → AddsRow kind name old new → TakesTables r old new
row_taken r kind name old new data_line at says fresh adds =
    let on : row_on r ≡ (kind, name) ∷ [] = ap₂ (λ b o. cond b (cons_option o []) []) (stands r Rows data_line at Rows) says in
    record {
      rows = adds.rows ∙ sym (ap (λ l. old.rows ++ map (λ row. row.1) l) on);
      kinds = adds.kinds ∙ sym (ap (λ l. old.kinds ++ map (λ row. row.0) l) on);
      columns = λ read are next. subst (λ (l : List Word). AreColumns l (next_columns r read) new.columns) (sym adds.rows)
          (columns_stay r (old.rows ++ name ∷ []) read new.columns (stands r Rows data_line at Columns) (adds.columns old.rows read are));
      rhs = λ read once are next. subst (λ (l : List Word). ArePairs l (next_pairs Rhs r read) new.rhs) (sym adds.rows)
          (pairs_stay Rhs r (old.rows ++ name ∷ []) read new.rhs (stands r Rows data_line at Rhs) (adds.rhs old.rows read are fresh));
      ranges = λ read once are next. subst (λ (l : List Word). ArePairs l (next_pairs Ranges r read) new.ranges) (sym adds.rows)
          (pairs_stay Ranges r (old.rows ++ name ∷ []) read new.ranges (stands r Rows data_line at Ranges) (adds.ranges old.rows read are fresh));
      bounds = λ columns' are_columns nexts read once are next. same_bounds r old new read adds.names adds.bounds (stands r Rows data_line at Bounds) are;
    }

-- a line of COLUMNS
pub entries_taken : (r : Record) (old new : State) → r.header ≡ false → r.section ≡ Columns
    → new.rows ≡ old.rows → new.kinds ≡ old.kinds
    → ((read : ReadColumns) → AreColumns old.rows read old.columns → (is_marker r ≡ false → IsNext old.rows read r) → AreColumns old.rows (after_line read r) new.columns)
    → new.rhs ≡ old.rhs → new.ranges ≡ old.ranges
    → ((columns : ReadColumns) → AreColumns old.rows columns old.columns → (is_marker r ≡ false → IsNext old.rows columns r)
    → (read : ReadBounds) → AreBounds old.columns.names read old.bounds → AreBounds new.columns.names read new.bounds)
    → TakesTables r old new
entries_taken r old new data_line at rows kinds columns rhs ranges bounds =
    record {
      rows = rows ∙ rows_stay r old.rows (stands r Columns data_line at Rows);
      kinds = kinds ∙ kinds_stay r old.kinds (stands r Columns data_line at Rows);
      columns = λ read are next. subst (λ (l : List Word). AreColumns l (next_columns r read) new.columns) (sym rows)
          (columns_grow r old.rows read new.columns (stands r Columns data_line at Columns) (columns read are (next (stands r Columns data_line at Columns))));
      rhs = λ read once are next. same_pairs Rhs r old new read old.rhs new.rhs rows rhs (stands r Columns data_line at Rhs) are;
      ranges = λ read once are next. same_pairs Ranges r old new read old.ranges new.ranges rows ranges (stands r Columns data_line at Ranges) are;
      bounds = λ columns are_columns nexts read once are next. bounds_stay r new.columns.names read new.bounds (stands r Columns data_line at Bounds)
          (bounds columns are_columns (nexts (stands r Columns data_line at Columns)) read are);
    }

-- a line of RHS
pub rhs_taken : (r : Record) (old new : State) → r.header ≡ false → r.section ≡ Rhs
    → new.rows ≡ old.rows → new.kinds ≡ old.kinds → new.columns ≡ old.columns → new.ranges ≡ old.ranges → new.bounds ≡ old.bounds
    → ((read : ReadPairs) → StandOnce old.rows → ArePairs old.rows read old.rhs → AreNextPairs Rhs old.rows read r → ArePairs old.rows (after_pairs Rhs read r) new.rhs)
    → TakesTables r old new
rhs_taken r old new data_line at rows kinds columns ranges bounds rhs =
    record {
      rows = rows ∙ rows_stay r old.rows (stands r Rhs data_line at Rows);
      kinds = kinds ∙ kinds_stay r old.kinds (stands r Rhs data_line at Rows);
      columns = λ read are next. same_columns r old new read rows columns (stands r Rhs data_line at Columns) are;
      rhs = λ read once are next. subst (λ (l : List Word). ArePairs l (next_pairs Rhs r read) new.rhs) (sym rows)
          (pairs_grow Rhs r old.rows read new.rhs (stands r Rhs data_line at Rhs) (rhs read once are (next (stands r Rhs data_line at Rhs))));
      ranges = λ read once are next. same_pairs Ranges r old new read old.ranges new.ranges rows ranges (stands r Rhs data_line at Ranges) are;
      bounds = λ columns' are_columns nexts read once are next. same_bounds r old new read (ap (λ c. c.names) columns) bounds (stands r Rhs data_line at Bounds) are;
    }

-- a line of RANGES
pub ranges_taken : (r : Record) (old new : State) → r.header ≡ false → r.section ≡ Ranges
    → new.rows ≡ old.rows → new.kinds ≡ old.kinds → new.columns ≡ old.columns → new.rhs ≡ old.rhs → new.bounds ≡ old.bounds
    → ((read : ReadPairs) → StandOnce old.rows → ArePairs old.rows read old.ranges → AreNextPairs Ranges old.rows read r → ArePairs old.rows (after_pairs Ranges read r) new.ranges)
    → TakesTables r old new
ranges_taken r old new data_line at rows kinds columns rhs bounds ranges =
    record {
      rows = rows ∙ rows_stay r old.rows (stands r Ranges data_line at Rows);
      kinds = kinds ∙ kinds_stay r old.kinds (stands r Ranges data_line at Rows);
      columns = λ read are next. same_columns r old new read rows columns (stands r Ranges data_line at Columns) are;
      rhs = λ read once are next. same_pairs Rhs r old new read old.rhs new.rhs rows rhs (stands r Ranges data_line at Rhs) are;
      ranges = λ read once are next. subst (λ (l : List Word). ArePairs l (next_pairs Ranges r read) new.ranges) (sym rows)
          (pairs_grow Ranges r old.rows read new.ranges (stands r Ranges data_line at Ranges) (ranges read once are (next (stands r Ranges data_line at Ranges))));
      bounds = λ columns' are_columns nexts read once are next. same_bounds r old new read (ap (λ c. c.names) columns) bounds (stands r Ranges data_line at Bounds) are;
    }

-- a line of BOUNDS
pub bound_taken : (r : Record) (old new : State) → r.header ≡ false → r.section ≡ Bounds
    → new.rows ≡ old.rows → new.kinds ≡ old.kinds → new.columns ≡ old.columns → new.rhs ≡ old.rhs → new.ranges ≡ old.ranges
    → ((read : ReadBounds) → StandOnce old.columns.names → AreBounds old.columns.names read old.bounds → IsNextBound old.columns.names read r → AreBounds old.columns.names (after_bound read r) new.bounds)
    → TakesTables r old new
bound_taken r old new data_line at rows kinds columns rhs ranges bounds =
    record {
      rows = rows ∙ rows_stay r old.rows (stands r Bounds data_line at Rows);
      kinds = kinds ∙ kinds_stay r old.kinds (stands r Bounds data_line at Rows);
      columns = λ read are next. same_columns r old new read rows columns (stands r Bounds data_line at Columns) are;
      rhs = λ read once are next. same_pairs Rhs r old new read old.rhs new.rhs rows rhs (stands r Bounds data_line at Rhs) are;
      ranges = λ read once are next. same_pairs Ranges r old new read old.ranges new.ranges rows ranges (stands r Bounds data_line at Ranges) are;
      bounds = λ columns' are_columns nexts read once are next. subst (λ (c : ColumnTable). AreBounds c.names (next_bounds r read) new.bounds) (sym columns)
          (bounds_grow r old.columns.names read new.bounds (stands r Bounds data_line at Bounds) (bounds read once are (next (stands r Bounds data_line at Bounds))));
    }

-- ---- the names of the columns after a line of COLUMNS

names_after_more : (columns : ReadColumns) (pairs : List Pair) → names_of (all_of (after_more columns pairs)) ≡ names_of (all_of columns)
names_after_more columns pairs =
    map-append (λ c. c.name) columns.ended (cons_option (option_map (with_pairs pairs) columns.current) [])
    ∙ ap (λ l. names_of columns.ended ++ l) (own columns.current)
    ∙ sym (map-append (λ c. c.name) columns.ended (cons_option columns.current []))
  where
    own : (o : Option ReadColumn) → names_of (cons_option (option_map (with_pairs pairs) o) []) ≡ names_of (cons_option o [])
    own None = refl
    own (Some c) = refl

names_after_marker : (columns : ReadColumns) (word : Word) → names_of (all_of (after_marker columns word)) ≡ names_of (all_of columns)
names_after_marker columns word = ap names_of (append-nil (all_of columns))

names_after_new : (columns : ReadColumns) (name : Word) (pairs : List Pair) → names_of (all_of (after_new columns name pairs)) ≡ names_of (all_of columns) ++ name ∷ []
names_after_new columns name pairs =
    names_after_more (begun columns name) pairs ∙ map-append (λ c. c.name) (all_of columns) (record { name = name; marked = bytes_eq columns.word (codes "'INTORG'"); pairs = [] } ∷ [])

not_there : (columns : ReadColumns) (name : Word) → is_one_of (names_of columns.ended) name ≡ false → is_current columns.current name ≡ false → is_one_of (names_of (all_of columns)) name ≡ false
not_there columns name ended current =
    ap (λ l. is_one_of l name) (map-append (λ c. c.name) columns.ended (cons_option columns.current []))
    ∙ list_any-append (bytes_eq name) (names_of columns.ended) (names_of (cons_option columns.current []))
    ∙ ap₂ (λ a b. a || b) ended (own columns.current current)
  where
    own : (o : Option ReadColumn) → is_current o name ≡ false → is_one_of (names_of (cons_option o [])) name ≡ false
    own None e = refl
    own (Some c) e = ap (λ b. b || false) e

pub names_after : (rows : List Word) (columns : ReadColumns) (r : Record) → (is_marker r ≡ false → IsNext rows columns r)
    → MayAdd (field 0 r) (names_of (all_of columns)) (names_of (all_of (after_line columns r)))
names_after rows columns r next = by_kind (is_marker r) refl (is_current columns.current (field 0 r)) refl
  where
    by_kind : (m : Bool) → is_marker r ≡ m → (c : Bool) → is_current columns.current (field 0 r) ≡ c
        → MayAdd (field 0 r) (names_of (all_of columns)) (names_of (all_of (cond m (after_marker columns (field 2 r)) (cond c (after_more columns (entry_pairs r)) (after_new columns (field 0 r) (entry_pairs r))))))
    by_kind true mark c at = inl (names_after_marker columns (field 2 r))
    by_kind false mark true at = inl (names_after_more columns (entry_pairs r))
    by_kind false mark false at = inr (names_after_new columns (field 0 r) (entry_pairs r), not_there columns (field 0 r) (next mark).0 at)
