-- What is carried is what the records so far say, from none to one more.
use Rattle.std.proofs.Common.{◌≡◌, refl, sym, ap, ap₂, ◌∙◌, subst, ℕ, Bool, true, false, cond, not, ◌&&◌, List, [], ◌∷◌, ◌++◌, append-nil, map, filter_map, None}
use Rattle.std.specs.List.{cons_option}
use Rattle.std.proofs.lemmas.List.Elements.{filter-append}
use Rattle.std.proofs.lemmas.List.{append_assoc, map-append}
use Rattle.cgl_model.specs.declared.mip.Column.{Column}
use Rattle.cgl_num.specs.NumberText.{Word}
use Rattle.cgl_model.specs.declared.mip.RowKind.{RowKind}
use Rattle.cgl_decode.specs.declared.kinds.Section.{Section}
use Rattle.cgl_decode.specs.declared.kinds.Section.TheVariants.{Rows, Columns, Rhs, Ranges, Bounds}
use Rattle.cgl_decode.specs.Records.{Record, field, data_in, is_kept}
use Rattle.cgl_decode.specs.Sections.{is_marker, row_in, row_names, column_names}
use Rattle.cgl_decode.specs.Faults.{Limits, fault_after, column_conditions, is_split}
use Rattle.cgl_decode.specs.Models.{column_of}
use Rattle.cgl_decode.specs.Found.{is_data_of}
use Rattle.cgl_mps.specs.Carried.{ReadColumns, ReadPairs, ReadBounds, names_of, all_of, column_in, made_column, after_line, after_pairs, after_bound, IsColumns, IsPairs, IsBounds, IsCarried, splits, Adds, named_in}
use Rattle.cgl_decode.proofs.ModelLaws.{row_names-append}
use Rattle.cgl_decode.proofs.JudgedLaws.{NoneHolds}
use Rattle.cgl_decode.proofs.SizeLaws.{judged_column}
use Rattle.cgl_mps.proofs.PushLaws.{are_all, columns_in_order, pairs_in_order, bounds_in_order}

lines_after : (section : Section) (records : List Record) (r : Record) (b : Bool) → is_data_of section r ≡ b → data_in section (records ++ r ∷ []) ≡ cond b (data_in section records ++ r ∷ []) (data_in section records)
lines_after section records r true is = filter-append (is_data_of section) records (r ∷ []) ∙ ap (λ b. data_in section records ++ cond b (r ∷ []) []) is
lines_after section records r false is = filter-append (is_data_of section) records (r ∷ []) ∙ ap (λ b. data_in section records ++ cond b (r ∷ []) []) is ∙ append-nil (data_in section records)

columns_on : (records : List Record) (columns : ReadColumns) (r : Record) → IsColumns (data_in Columns records) columns → (b : Bool) → is_data_of Columns r ≡ b
    → (b && (not (is_marker r) && is_split records (field 0 r))) ≡ false
    → IsColumns (data_in Columns (records ++ r ∷ [])) (cond b (after_line columns r) columns)
columns_on records columns r is true stands good =
    subst (λ (lines : List Record). IsColumns lines (after_line columns r)) (sym (lines_after Columns records r true stands)) (columns_in_order (data_in Columns records) columns r is good)
columns_on records columns r is false stands good = subst (λ (lines : List Record). IsColumns lines columns) (sym (lines_after Columns records r false stands)) is

pairs_on : (section : Section) (records : List Record) (read : ReadPairs) (r : Record) → IsPairs section (data_in section records) read → (b : Bool) → is_data_of section r ≡ b
    → IsPairs section (data_in section (records ++ r ∷ [])) (cond b (after_pairs section read r) read)
pairs_on section records read r is true stands =
    subst (λ (lines : List Record). IsPairs section lines (after_pairs section read r)) (sym (lines_after section records r true stands)) (pairs_in_order section (data_in section records) read r is)
pairs_on section records read r is false stands = subst (λ (lines : List Record). IsPairs section lines read) (sym (lines_after section records r false stands)) is

bounds_on : (records : List Record) (read : ReadBounds) (r : Record) → IsBounds (data_in Bounds records) read → (b : Bool) → is_data_of Bounds r ≡ b
    → IsBounds (data_in Bounds (records ++ r ∷ [])) (cond b (after_bound read r) read)
bounds_on records read r is true stands =
    subst (λ (lines : List Record). IsBounds lines (after_bound read r)) (sym (lines_after Bounds records r true stands)) (bounds_in_order (data_in Bounds records) read r is)
bounds_on records read r is false stands = subst (λ (lines : List Record). IsBounds lines read) (sym (lines_after Bounds records r false stands)) is

named_by : (r : Record) (b : Bool) → is_data_of Rows r ≡ b → cond b (named_in r.fields) [] ≡ row_names (r ∷ [])
named_by r true is = ap (λ (b : Bool). map (λ (n : RowKind × Word). n.1) (filter_map (λ (q : Record). row_in q.fields) (cond b (r ∷ []) []))) (sym is)
named_by r false is = ap (λ (b : Bool). map (λ (n : RowKind × Word). n.1) (filter_map (λ (q : Record). row_in q.fields) (cond b (r ∷ []) []))) (sym is)

pub carried_on : (records next : List Record) (r : Record) (rows rows' : List Word) (columns columns' : ReadColumns) (rhs rhs' ranges ranges' : ReadPairs) (bounds bounds' : ReadBounds)
    → IsCarried records rows columns rhs ranges bounds
    → splits records r ≡ false
    → next ≡ records ++ r ∷ []
    → Adds (λ s. is_data_of s r) r rows rows' columns columns' rhs rhs' ranges ranges' bounds bounds'
    → IsCarried next rows' columns' rhs' ranges' bounds'
carried_on records next r rows rows' columns columns' rhs rhs' ranges ranges' bounds bounds' is good more said =
    subst (λ (l : List Record). IsCarried l rows' columns' rhs' ranges' bounds') (sym more)
    (record {
      rows = said.rows ∙ ap₂ (λ l m. l ++ m) is.rows (named_by r (is_data_of Rows r) refl) ∙ sym (row_names-append records (r ∷ []));
      columns = subst (λ (c : ReadColumns). IsColumns (data_in Columns (records ++ r ∷ [])) c) (sym said.columns) (columns_on records columns r is.columns (is_data_of Columns r) refl good);
      rhs = subst (λ (p : ReadPairs). IsPairs Rhs (data_in Rhs (records ++ r ∷ [])) p) (sym said.rhs) (pairs_on Rhs records rhs r is.rhs (is_data_of Rhs r) refl);
      ranges = subst (λ (p : ReadPairs). IsPairs Ranges (data_in Ranges (records ++ r ∷ [])) p) (sym said.ranges) (pairs_on Ranges records ranges r is.ranges (is_data_of Ranges r) refl);
      bounds = subst (λ (b : ReadBounds). IsBounds (data_in Bounds (records ++ r ∷ [])) b) (sym said.bounds) (bounds_on records bounds r is.bounds (is_data_of Bounds r) refl);
    })

-- the columns of the model

made_named : (records : List Record) (names : List Word) → map (made_column records) (map (column_in (data_in Columns records)) names) ≡ map (column_of records) names
made_named records [] = refl
made_named records (name ∷ names) = ap (λ l. column_of records name ∷ l) (made_named records names)

pub all_made : (records : List Record) (columns : ReadColumns) → IsColumns (data_in Columns records) columns → map (made_column records) (all_of columns) ≡ map (column_of records) (column_names records)
all_made records columns is = ap (map (made_column records)) (are_all (data_in Columns records) columns is) ∙ made_named records (names_of (all_of columns)) ∙ ap (map (column_of records)) is.names

pub made_in_turn : (records : List Record) (columns : ReadColumns) (none some made : List Column)
    → IsColumns (data_in Columns records) columns
    → some ≡ none ++ map (made_column records) columns.ended
    → made ≡ some ++ map (made_column records) (cons_option columns.current [])
    → made ≡ none ++ map (column_of records) (column_names records)
made_in_turn records columns none some made is ended all =
    all
    ∙ ap (λ l. l ++ map (made_column records) (cons_option columns.current [])) ended
    ∙ append_assoc none (map (made_column records) columns.ended) (map (made_column records) (cons_option columns.current []))
    ∙ ap (λ l. none ++ l) (sym (map-append (made_column records) columns.ended (cons_option columns.current [])) ∙ all_made records columns is)

-- a line without a fault goes back to no column that has ended

follows_case : (limits : Limits) (bytes : List ℕ) (before : List Record) (r : Record) → is_kept r ≡ true → fault_after limits bytes before r ≡ None
    → (a b : Bool) → is_data_of Columns r ≡ a → is_marker r ≡ b → (a && (not b && is_split before (field 0 r))) ≡ false
follows_case limits bytes before r kept none false b stands mark = refl
follows_case limits bytes before r kept none true true stands mark = refl
follows_case limits bytes before r kept none true false stands mark =
    let passed : NoneHolds (column_conditions limits before r) = judged_column limits bytes before r kept none stands mark in passed.1.0

kept_case : (limits : Limits) (bytes : List ℕ) (before : List Record) (r : Record) → fault_after limits bytes before r ≡ None → (k : Bool) → is_kept r ≡ k → (k && splits before r) ≡ false
kept_case limits bytes before r none false kept = refl
kept_case limits bytes before r none true kept = follows_case limits bytes before r kept none (is_data_of Columns r) (is_marker r) refl refl

pub follows : (limits : Limits) (bytes : List ℕ) (before : List Record) (r : Record) → fault_after limits bytes before r ≡ None → (is_kept r && splits before r) ≡ false
follows limits bytes before r none = kept_case limits bytes before r none (is_kept r) refl
