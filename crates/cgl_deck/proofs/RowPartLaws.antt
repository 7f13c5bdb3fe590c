-- The lines of ROWS have no fault. Names of rows by their places.
use Rattle.std.proofs.Common.{◌≡◌, ◌≢◌, refl, sym, ap, ◌∙◌, subst, arith, ℕ, zero, suc, ◌+◌, ◌^◌, ◌<◌, ◌≤◌, nat_lt, nat_le, Bool, true, false, ◌&&◌, List, [], ◌∷◌, ◌++◌, append-nil, append_assoc, length, length-append, map, filter_map, codes, bytes_eq, Some, is_none}
use Rattle.std.specs.List.{list_all, AllByRecursion, cons_option}
use Rattle.std.proofs.lemmas.Bool.{and_parts, leb-true, le-ltb, not-true, or_from, or_left, or_parts, or_right}
use Rattle.std.proofs.lemmas.List.{map-append}
use Rattle.std.proofs.lemmas.List.Elements.{filter_map-append}
use Rattle.std.proofs.lemmas.List.Folds.{list_any-append}
use Rattle.cgl_num.specs.NumberText.{Word}
use Rattle.cgl_text.specs.Text.{is_one_of}
use Rattle.cgl_model.specs.declared.mip.RowKind.{RowKind}
use Rattle.cgl_model.specs.declared.mip.RowKind.TheVariants.{N, L, G, E}
use Rattle.cgl_model.specs.declared.mip.Row.{Row}
use Rattle.cgl_model.specs.Valid.{AreDistinct, IsName, IsRowName, is_name_byte}
use Rattle.cgl_decode.specs.declared.kinds.Section.TheVariants.{Rows}
use Rattle.cgl_decode.specs.Records.{Record, data_in, has_header}
use Rattle.cgl_decode.specs.Sections.{row_in, row_names}
use Rattle.cgl_decode.specs.Faults.{is_long, row_conditions}
use Rattle.cgl_decode.specs.Decode.{deck_limits}
use Rattle.cgl_decode.proofs.CountLaws.{not_reached}
use Rattle.cgl_decode.proofs.DistinctLaws.{equal_words, flip_differ, same_word}
use Rattle.cgl_deck.specs.DeckText.{kind_word, row_name}
use Rattle.cgl_deck.specs.DeckLines.{record_at, row_line}
use Rattle.cgl_deck.proofs.PartLaws.{IsGood, Part, Under, data_push, fine, first, header_stays, nothing, under_push}

-- ---- names

pub front_differs : (done : List Word) (name : Word) (rest : List Word) → AreDistinct (done ++ name ∷ rest) → is_one_of done name ≡ false
front_differs [] name rest h = refl
front_differs (x ∷ done) name rest h =
    let none : is_one_of (done ++ name ∷ rest) x ≡ false = not-true (is_one_of (done ++ name ∷ rest) x) h.0 in
    let parts = or_parts (is_one_of done x) (is_one_of (name ∷ rest) x) (sym (list_any-append (bytes_eq x) done (name ∷ rest)) ∙ none) in
    let here = or_parts (bytes_eq x name) (is_one_of rest x) parts.1 in
    or_from (bytes_eq name x) (is_one_of done name) (flip_differ x name here.0) (front_differs done name rest h.1)

pub short_name : (name : Word) → IsName name → is_long name ≡ false
short_name name h =
    let parts = and_parts (nat_lt 0 (length name) && list_all is_name_byte name) (nat_le (length name) 255) h in
    le-ltb 255 (length name) (leb-true (length name) 255 parts.1)

abbrev pub names_of : List Row → List Word
names_of rows = map (λ r. r.name) rows

pub name_known : (rows : List Row) (i : ℕ) → i < length rows → is_one_of (names_of rows) (row_name rows i) ≡ true
name_known [] i lt = absurd (omega arith)
name_known (r ∷ rows) zero lt = or_left (bytes_eq r.name r.name) (is_one_of (names_of rows) r.name) (same_word r.name r.name refl)
name_known (r ∷ rows) (suc i) lt = or_right (bytes_eq (row_name rows i) r.name) (is_one_of (names_of rows) (row_name rows i)) (name_known rows i (omega arith))

pub name_valid : (rows : List Row) (i : ℕ) → i < length rows → AllByRecursion (λ r. IsRowName r.name) rows → IsRowName (row_name rows i)
name_valid [] i lt all = absurd (omega arith)
name_valid (r ∷ rows) zero lt all = all.0
name_valid (r ∷ rows) (suc i) lt all = name_valid rows i (omega arith) all.1

-- a name that stands among these is not another one that does not
pub among_others : (names : List Word) (a b : Word) → is_one_of names a ≡ true → is_one_of names b ≡ false → bytes_eq a b ≡ false
among_others names a b has lacks = differs (bytes_eq a b) refl
  where
    differs : (t : Bool) → bytes_eq a b ≡ t → t ≡ false
    differs true e = sym has ∙ ap (is_one_of names) (equal_words a b e) ∙ lacks
    differs false e = refl

pub names_differ : (rows : List Row) (i j : ℕ) → i < length rows → j < length rows → i ≢ j → AreDistinct (names_of rows) → bytes_eq (row_name rows i) (row_name rows j) ≡ false
names_differ [] i j lt less ne all = absurd (omega arith)
names_differ (r ∷ rows) zero zero lt less ne all = absurd (ne refl)
names_differ (r ∷ rows) zero (suc j) lt less ne all =
    flip_differ (row_name rows j) r.name (among_others (names_of rows) (row_name rows j) r.name (name_known rows j (omega arith)) (not-true (is_one_of (names_of rows) r.name) all.0))
names_differ (r ∷ rows) (suc i) zero lt less ne all =
    among_others (names_of rows) (row_name rows i) r.name (name_known rows i (omega arith)) (not-true (is_one_of (names_of rows) r.name) all.0)
names_differ (r ∷ rows) (suc i) (suc j) lt less ne all = names_differ rows i j (omega arith) (omega arith) (λ e. ne (ap suc e)) all.1

-- ---- lines

pub record AfterRows (names : List Word) (before : List Record) : Type 0 where
  pub under : Under 4 before
  pub rows : row_names before ≡ names
  pub header : has_header Rows before ≡ true

row_in_kind : (kind : RowKind) (name : Word) → row_in (kind_word kind ∷ name ∷ []) ≡ Some (kind, name)
row_in_kind N name = refl
row_in_kind L name = refl
row_in_kind G name = refl
row_in_kind E name = refl

row_pushed : (before : List Record) (n : ℕ) (r : Row) → row_names (before ++ record_at n (row_line r) ∷ []) ≡ row_names before ++ r.name ∷ []
row_pushed before n r =
    ap (λ l. map (λ p. p.1) (filter_map (λ q. row_in q.fields) l)) (data_push Rows before (record_at n (row_line r)))
    ∙ ap (map (λ p. p.1)) (filter_map-append (λ q. row_in q.fields) (data_in Rows before) (record_at n (row_line r) ∷ []))
    ∙ map-append (λ p. p.1) (filter_map (λ q. row_in q.fields) (data_in Rows before)) (filter_map (λ q. row_in q.fields) (record_at n (row_line r) ∷ []))
    ∙ ap (λ o. row_names before ++ map (λ p. p.1) (cons_option o [])) (row_in_kind r.kind r.name)

row_good : (done : List Word) (r : Row) → IsRowName r.name → is_one_of done r.name ≡ false → length done < 2 ^ 20
    → (before : List Record) (n : ℕ) → AfterRows done before → IsGood before (record_at n (row_line r))
row_good done r name fresh few before n h = (
  refl,
  fine (row_conditions deck_limits before (record_at n (row_line r))) (
    ap is_none (row_in_kind r.kind r.name),
    (
      not-true (bytes_eq r.name (codes "'MARKER'")) name.1,
      (
        short_name r.name name.0,
        (
          ap (λ l. is_one_of l r.name) h.rows ∙ fresh,
          (ap (λ l. nat_le deck_limits.rows (length l)) h.rows ∙ not_reached (2 ^ 20) (length done) few, tt),
        ),
      ),
    ),
  ),
)

row_after : (done : List Word) (r : Row) (before : List Record) (n : ℕ) → AfterRows done before → AfterRows (done ++ r.name ∷ []) (before ++ record_at n (row_line r) ∷ [])
row_after done r before n h = record {
  under = under_push 4 4 (omega arith) before (record_at n (row_line r)) h.under (omega arith) (omega arith);
  rows = row_pushed before n r ∙ ap (λ l. l ++ r.name ∷ []) h.rows;
  header = header_stays Rows before (record_at n (row_line r)) h.header;
}

pub row_lines : (done : List Word) (rows : List Row) → AllByRecursion (λ r. IsRowName r.name) rows → AreDistinct (done ++ names_of rows) → length done + length rows ≤ 2 ^ 20
    → Part (AfterRows done) (map row_line rows) (AfterRows (done ++ names_of rows))
row_lines done [] all distinct few = nothing (AfterRows done) (AfterRows (done ++ [])) (λ before h. subst (λ l. AfterRows l before) (sym (append-nil done)) h)
row_lines done (r ∷ rows) all distinct few =
    let shift : (done ++ r.name ∷ []) ++ names_of rows ≡ done ++ r.name ∷ names_of rows = append_assoc done (r.name ∷ []) (names_of rows) in
    first (AfterRows done) (AfterRows (done ++ r.name ∷ [])) (AfterRows (done ++ r.name ∷ names_of rows)) (row_line r) (map row_line rows)
    (λ before n h. (row_good done r all.0 (front_differs done r.name (names_of rows) distinct) (omega arith) before n h, row_after done r before n h))
    (subst (λ l. Part (AfterRows (done ++ r.name ∷ [])) (map row_line rows) (AfterRows l)) shift
    (row_lines (done ++ r.name ∷ []) rows all.1 (subst AreDistinct (sym shift) distinct) (omega (arith, length-append done (r.name ∷ [])))))
