-- What a line makes of the state, part after part.
use Rattle.std.proofs.Common.{◌≡◌, refl, sym, ap, ap₂, ◌∙◌, subst, ◌<◌, ◌≤◌, ◌+◌, nat_lt, arith, Bool, true, false, cond, not, ◌&&◌, ◌||◌, inl, inr, List, [], ◌∷◌, ◌++◌, length, length-append, unwrap_or, is_some, None, Result, Ok, Err}
use Rattle.std.specs.Prelude.{OnOk}
use Rattle.cgl_num.specs.NumberText.{Word}
use Rattle.cgl_text.specs.Text.{is_one_of}
use Rattle.cgl_text.specs.Conditions.{first_kind}
use Rattle.cgl_model.specs.declared.mip.RowKind.{RowKind}
use Rattle.cgl_decode.specs.declared.kinds.Section.{Section}
use Rattle.cgl_decode.specs.declared.kinds.Section.TheVariants.{Rows, Columns, Rhs, Ranges, Bounds}
use Rattle.cgl_decode.specs.Records.{Record, field, is_kept, same_section}
use Rattle.cgl_decode.specs.Sections.{is_marker, sense_in}
use Rattle.cgl_decode.specs.Decode.{deck_limits}
use Rattle.cgl_decode.specs.Faults.{conditions}
use Rattle.cgl_decode.specs.Found.{is_data_of}
use Rattle.cgl_decode.specs.Models.{name_in}
use Rattle.cgl_mps.specs.Carried.{ReadColumns, ReadPairs, ReadBounds, after_line}
use Rattle.cgl_mps.specs.Tables.{AreBounds, AreColumns, ArePairs, BoundTable, ColumnTable, IsNext, PairTable}
use Rattle.cgl_mps.specs.State.{State, AddsRow, IsNextRow, MayAdd, SameHead, SameTables, Stands, TakesHead, TakesTables, has_row, maximises, next_bounds, next_columns, next_pairs}
use Rattle.cgl_mps.proofs.ArmLaws.{names_after, others_taken, subst₂}
use Rattle.cgl_mps.proofs.TakeLaws.{next_row, stands_on}

-- the tables, and then the rest

pub head_after : (r : Record) (old mid new : State) → SameHead old mid → TakesHead r mid new → TakesHead r old new
head_after r old mid new same head =
    record {
      headers = head.headers ∙ ap (λ l. l ++ cond r.header (r.section ∷ []) []) same.headers;
      name = head.name ∙ ap (unwrap_or (name_in r)) same.name;
      is_sense_given = head.is_sense_given ∙ ap (λ b. b || is_some (sense_in r)) same.is_sense_given;
      maximise = head.maximise ∙ ap (λ b. b || maximises r) same.maximise;
    }

pub tables_before : (r : Record) (old mid new : State) → TakesTables r old mid → SameTables mid new → TakesTables r old new
tables_before r old mid new takes same =
    record {
      rows = same.rows ∙ takes.rows;
      kinds = same.kinds ∙ takes.kinds;
      columns = λ read are next. subst₂ (λ (l : List Word) (t : ColumnTable). AreColumns l (next_columns r read) t) (sym same.rows) (sym same.columns) (takes.columns read are next);
      rhs = λ read once are next. subst₂ (λ (l : List Word) (t : PairTable). ArePairs l (next_pairs Rhs r read) t) (sym same.rows) (sym same.rhs) (takes.rhs read once are next);
      ranges = λ read once are next. subst₂ (λ (l : List Word) (t : PairTable). ArePairs l (next_pairs Ranges r read) t) (sym same.rows) (sym same.ranges) (takes.ranges read once are next);
      bounds = λ columns are_columns nexts read once are next. subst₂ (λ (l : List Word) (t : BoundTable). AreBounds l (next_bounds r read) t) (sym (ap (λ (t : ColumnTable). t.names) same.columns)) (sym same.bounds) (takes.bounds columns are_columns nexts read once are next);
    }

-- a header takes nothing into the tables
pub header_taken : (r : Record) (old new : State) → r.header ≡ true → SameTables old new → TakesTables r old new
header_taken r old new header same = others_taken r old new (off Rows) (off Columns) (off Rhs) (off Ranges) (off Bounds) same
  where
    off : (section : Section) → is_data_of section r ≡ false
    off section = ap (λ h. not h && same_section section r.section) header

-- whether a name came, by the count of the names

pub none_came : (name : Word) (old new : List Word) → MayAdd name old new → (length old < length new → ⊥) → new ≡ old
none_came name old new (inl same) short = same
none_came name old new (inr added) short = absurd (short (subst (λ (l : List Word). length old < length l) (sym added.0) (longer old)))
  where
    longer : (l : List Word) → length l < length (l ++ name ∷ [])
    longer l = let size : length (l ++ name ∷ []) ≡ length l + 1 = length-append l (name ∷ []) in omega (size, arith)

pub one_came : (name : Word) (old new : List Word) → MayAdd name old new → length old < length new → (new ≡ old ++ name ∷ []) × (is_one_of old name ≡ false)
one_came name old new (inl same) long = absurd (let sizes : length new ≡ length old = ap length same in omega (sizes, long, arith))
one_came name old new (inr added) long = added

-- the bounds of the columns, where a line of COLUMNS brings a name or none

abbrev pub TakesLine : Record → List Word → ColumnTable → ColumnTable → Type 0
TakesLine r rows old new = (read : ReadColumns) → AreColumns rows read old → (is_marker r ≡ false → IsNext rows read r) → AreColumns rows (after_line read r) new

may_add : (r : Record) (rows : List Word) (old new : ColumnTable) → TakesLine r rows old new
    → (columns : ReadColumns) → AreColumns rows columns old → (is_marker r ≡ false → IsNext rows columns r) → MayAdd (field 0 r) old.names new.names
may_add r rows old new takes columns are next =
    subst₂ (MayAdd (field 0 r)) (sym are.names) (sym (takes columns are next).names) (names_after rows columns r next)

pub bounds_with : (r : Record) (rows : List Word) (old new : ColumnTable) (bounds bounds' : BoundTable) → TakesLine r rows old new → length old.names < length new.names
    → ((names : List Word) (read : ReadBounds) (name : Word) → AreBounds names read bounds → is_one_of names name ≡ false → AreBounds (names ++ name ∷ []) read bounds')
    → (columns : ReadColumns) → AreColumns rows columns old → (is_marker r ≡ false → IsNext rows columns r) → (read : ReadBounds) → AreBounds old.names read bounds → AreBounds new.names read bounds'
bounds_with r rows old new bounds bounds' takes longer adds columns are next read bounds_are =
    let came = one_came (field 0 r) old.names new.names (may_add r rows old new takes columns are next) longer in
    subst (λ (l : List Word). AreBounds l read bounds') (sym came.0) (adds old.names read (field 0 r) bounds_are came.1)

pub bounds_without : (r : Record) (rows : List Word) (old new : ColumnTable) (bounds : BoundTable) → TakesLine r rows old new → length new.names ≤ length old.names
    → (columns : ReadColumns) → AreColumns rows columns old → (is_marker r ≡ false → IsNext rows columns r) → (read : ReadBounds) → AreBounds old.names read bounds → AreBounds new.names read bounds
bounds_without r rows old new bounds takes short columns are next read bounds_are =
    subst (λ (l : List Word). AreBounds l read bounds) (sym (none_came (field 0 r) old.names new.names (may_add r rows old new takes columns are next) (λ longer. omega (longer, short, arith)))) bounds_are

-- a new row

pub row_comes : (kind : RowKind) (name : Word) (old new : State) → has_row old name ≡ false
    → new.rows ≡ cond (is_one_of old.rows name) old.rows (old.rows ++ name ∷ [])
    → new.kinds ≡ old.kinds ++ kind ∷ []
    → new.columns.names ≡ old.columns.names
    → ((rows : List Word) (read : ReadColumns) (name : Word) → AreColumns rows read old.columns → AreColumns (rows ++ name ∷ []) read new.columns)
    → ((rows : List Word) (read : ReadPairs) (name : Word) → ArePairs rows read old.rhs → is_one_of rows name ≡ false → ArePairs (rows ++ name ∷ []) read new.rhs)
    → ((rows : List Word) (read : ReadPairs) (name : Word) → ArePairs rows read old.ranges → is_one_of rows name ≡ false → ArePairs (rows ++ name ∷ []) read new.ranges)
    → new.bounds ≡ old.bounds → AddsRow kind name old new
row_comes kind name old new fresh rows kinds names columns rhs ranges bounds =
    record {
      rows = rows ∙ ap (λ b. cond b old.rows (old.rows ++ name ∷ [])) fresh;
      kinds = kinds;
      columns = λ known read are. columns known read name are;
      rhs = λ known read are new_name. rhs known read name are new_name;
      ranges = λ known read are new_name. ranges known read name are new_name;
      names = names;
      bounds = bounds;
    }

-- one line more

pub on_ok_with : {T E A B C : Type 0} (result : Result T E) → (A → B → C) → OnOk result A → OnOk result B → OnOk result C
on_ok_with (Ok x) f a b = f a b
on_ok_with (Err e) f a b = tt

pub line_stands : (before : List Record) (r : Record) (old mid new : State) → Stands before old → is_kept r ≡ true → first_kind ((nat_lt 4096 r.bytes, 11) ∷ conditions deck_limits before r) ≡ None
    → SameHead old mid → ((r.header ≡ false → r.section ≡ Rows → IsNextRow old r) → TakesTables r old mid) → TakesHead r mid new → SameTables mid new → Stands (before ++ r ∷ []) new
line_stands before r old mid new stands kept none same takes head rest =
    stands_on deck_limits before r old new stands kept none (head_after r old mid new same head)
    (tables_before r old mid new (takes (next_row deck_limits before old r stands kept none)) rest)
