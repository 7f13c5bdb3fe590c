-- One row or one column more.
use Rattle.std.proofs.Common.{Bool, ◌==◌, ◌≡◌, ℕ, zero, suc, ℤ, ◌+◌, ◌*◌, ◌^◌, drop, cond, true, false, add-one, ◌≤◌, ◌<◌, ap, refl, sym, ◌∙◌, subst, arith, List, [], ◌∷◌, ◌++◌, length, get_or, take}
use Rattle.std.proofs.lemmas.List.{append-nil, append_assoc, get_or_default, length-append, length-take-le, take_all, take_more}
use Rattle.std.specs.Prelude.{Option, Some, None, option_map, slice_get}
use Rattle.std.proofs.Math.Seq.{drop-cons}
use Rattle.std.proofs.lemmas.Bool.{and_parts, eqb-true}
use Rattle.cgl_num.specs.Decimal.{Decimal}
use Rattle.cgl_model.specs.declared.mip.Row.{Row}
use Rattle.cgl_model.specs.declared.mip.Column.{Column}
use Rattle.cgl_model.specs.declared.mip.Model.{Model}
use Rattle.cgl_model.specs.declared.places.End.{End}
use Rattle.cgl_model.specs.declared.places.End.TheVariants.{Lower, Upper}
use Rattle.cgl_model.specs.declared.places.Place.{Place}
use Rattle.cgl_model.specs.declared.places.Place.TheVariants.{Row as RowPlace, Bound}
use Rattle.cgl_model.specs.declared.places.Side.{Side}
use Rattle.cgl_model.specs.declared.integer_forms.RowForm.{RowForm}
use Rattle.cgl_model.specs.declared.integer_forms.RowShape.{RowShape}
use Rattle.cgl_model.specs.declared.integer_forms.RowShape.TheVariants.{Free, Wide, Form}
use Rattle.cgl_model.specs.FormList.{FormList, form_in, same_end, same_place, side_number}
use Rattle.cgl_model.specs.Inequality.{Term}
use Rattle.cgl_model.specs.IntegerForm.{column_sides, column_sides_from, forms_of, lower_bound_side, lower_side, upper_bound_side, upper_side, row_shape, row_shapes, row_shapes_from, row_sides, row_sides_from, sides_of}
use Rattle.cgl_model.specs.RowEntries.{row_entries, RiseFrom}
use Rattle.cgl_model.proofs.RiseLaws.{entries_rise}

taken : {A : Type 0} (xs : List A) (i : ℕ) → i < length xs → 0 + length (take i xs) ≡ i
taken xs i h = let size = length-take-le i xs (omega arith) in omega (arith, size)

next : {A : Type 0} (xs : List A) (i : ℕ) (x : A) → i < length xs → x ≡ get_or xs i x → take (i + 1) xs ≡ take i xs ++ x ∷ []
next xs i x h is = take_more xs i x h ∙ ap (λ y. take i xs ++ y ∷ []) (sym is)

-- ---- bounds

column_push : (j : ℕ) (cols : List Column) (c : Column) → column_sides_from j (cols ++ c ∷ []) ≡ column_sides_from j cols ++ column_sides (j + length cols) c
column_push j [] c = append-nil (column_sides j c) ∙ ap (λ n. column_sides n c) (omega arith)
column_push j (b ∷ cols) c =
    ap (λ s. column_sides j b ++ s) (column_push (j + 1) cols c ∙ ap (λ n. column_sides_from (j + 1) cols ++ column_sides n c) (omega arith))
    ∙ sym (append_assoc (column_sides j b) (column_sides_from (j + 1) cols) _)

pub column_step : (cols : List Column) (j : ℕ) (c : Column) (first before after : List Side) → j < length cols → c ≡ get_or cols j c
    → before ≡ first ++ column_sides_from 0 (take j cols) → after ≡ before ++ column_sides j c → after ≡ first ++ column_sides_from 0 (take (j + 1) cols)
column_step cols j c first before after h is start now =
    let more = ap (column_sides_from 0) (next cols j c h is) ∙ column_push 0 (take j cols) c ∙ ap (λ n. column_sides_from 0 (take j cols) ++ column_sides n c) (taken cols j h) in
    now ∙ ap (λ s. s ++ column_sides j c) start ∙ append_assoc first (column_sides_from 0 (take j cols)) (column_sides j c) ∙ sym (ap (λ s. first ++ s) more)

-- ---- rows

shape_push : (m : Model) (r : ℕ) (rows : List Row) (row : Row) → row_shapes_from m r (rows ++ row ∷ []) ≡ row_shapes_from m r rows ++ row_shape (row_entries m (r + length rows)) row ∷ []
shape_push m r [] row = ap (λ n. row_shape (row_entries m n) row ∷ []) (omega arith)
shape_push m r (b ∷ rows) row =
    ap (λ s. row_shape (row_entries m r) b ∷ s) (shape_push m (r + 1) rows row ∙ ap (λ n. row_shapes_from m (r + 1) rows ++ row_shape (row_entries m n) row ∷ []) (omega arith))

side_push : (r : ℕ) (shapes : List RowShape) (shape : RowShape) → row_sides_from r (shapes ++ shape ∷ []) ≡ row_sides_from r shapes ++ row_sides (r + length shapes) shape
side_push r [] shape = append-nil (row_sides r shape) ∙ ap (λ n. row_sides n shape) (omega arith)
side_push r (b ∷ shapes) shape =
    ap (λ s. row_sides r b ++ s) (side_push (r + 1) shapes shape ∙ ap (λ n. row_sides_from (r + 1) shapes ++ row_sides n shape) (omega arith))
    ∙ sym (append_assoc (row_sides r b) (row_sides_from (r + 1) shapes) _)

pub length_shapes : (m : Model) (r : ℕ) (rows : List Row) → length (row_shapes_from m r rows) ≡ length rows
length_shapes m r [] = refl
length_shapes m r (row ∷ rows) = let rest = length_shapes m (r + 1) rows in omega (arith, rest)

pub shape_step : (m : Model) (rows : List Row) (r : ℕ) (row : Row) (shape : RowShape) (before after : List RowShape) → r < length rows → row ≡ get_or rows r row
    → shape ≡ row_shape (row_entries m r) row → before ≡ row_shapes_from m 0 (take r rows) → after ≡ before ++ shape ∷ [] → after ≡ row_shapes_from m 0 (take (r + 1) rows)
shape_step m rows r row shape before after h is own start now =
    let more = ap (row_shapes_from m 0) (next rows r row h is) ∙ shape_push m 0 (take r rows) row
    ∙ ap (λ n. row_shapes_from m 0 (take r rows) ++ row_shape (row_entries m n) row ∷ []) (taken rows r h) in
    now ∙ ap (λ s. s ++ shape ∷ []) start ∙ ap (λ s. row_shapes_from m 0 (take r rows) ++ s ∷ []) own ∙ sym more

pub side_step : (m : Model) (rows : List Row) (r : ℕ) (row : Row) (shape : RowShape) (before after : List Side) → r < length rows → row ≡ get_or rows r row
    → shape ≡ row_shape (row_entries m r) row → before ≡ row_sides_from 0 (row_shapes_from m 0 (take r rows)) → after ≡ before ++ row_sides r shape
    → after ≡ row_sides_from 0 (row_shapes_from m 0 (take (r + 1) rows))
side_step m rows r row shape before after h is own start now =
    let shapes = row_shapes_from m 0 (take r rows) in
    let all = shape_step m rows r row shape shapes (shapes ++ shape ∷ []) h is own refl refl in
    let place : 0 + length shapes ≡ r = let size = length_shapes m 0 (take r rows) in let count = taken rows r h in omega (arith, size, count) in
    now ∙ ap (λ s. s ++ row_sides r shape) start ∙ sym (ap (row_sides_from 0) (sym all) ∙ side_push 0 shapes shape ∙ ap (λ n. row_sides_from 0 shapes ++ row_sides n shape) place)

pub list_rises : (m : Model) (r : ℕ) (entries : List (ℕ × Decimal)) → entries ≡ row_entries m r → RiseFrom 0 entries
list_rises m r entries e = let F : List (ℕ × Decimal) → Type 0 = RiseFrom 0 in subst F (sym e) (entries_rise r 0 m.cols)

-- the entries that were read for row r
pub entries_read : (m : Model) (lists items : List (List (ℕ × Decimal))) (rows : List Row) (r : ℕ) (d entries : List (ℕ × Decimal)) → entries ≡ get_or lists r d → lists ≡ items
    → length items ≡ length m.rows → rows ≡ m.rows → r < length rows → ((k : ℕ) → k < length items → get_or items k [] ≡ row_entries m k) → entries ≡ row_entries m r
entries_read m lists items rows r d entries is e size f h all =
    let count = ap length f in
    let inside : r < length items = omega (arith, size, count) in
    is ∙ ap (λ l. get_or l r d) e ∙ get_or_default items r d [] inside ∙ all r inside

pub all_shapes : (m : Model) (rows : List Row) (r : ℕ) (shapes : List RowShape) → length rows ≤ r → rows ≡ m.rows → shapes ≡ row_shapes_from m 0 (take r rows) → shapes ≡ row_shapes m
all_shapes m rows r shapes h e is = is ∙ ap (row_shapes_from m 0) (take_all r rows h ∙ e)

pub all_row_sides : (m : Model) (rows : List Row) (r : ℕ) (sides : List Side) → length rows ≤ r → rows ≡ m.rows → sides ≡ row_sides_from 0 (row_shapes_from m 0 (take r rows))
    → sides ≡ row_sides_from 0 (row_shapes m)
all_row_sides m rows r sides h e is = is ∙ ap (λ xs. row_sides_from 0 (row_shapes_from m 0 xs)) (take_all r rows h ∙ e)

abbrev pub Same : FormList → FormList → Type 0
Same f g = f ≡ g

pub forms_are : (m : Model) (shapes : List RowShape) (first sides : List Side) (cols : List Column) → shapes ≡ row_shapes m → first ≡ row_sides_from 0 (row_shapes m)
    → sides ≡ first ++ column_sides_from 0 cols → cols ≡ m.cols → Same (record { rows = shapes; sides = sides }) (forms_of m)
unfolding forms_of
forms_are m shapes first sides cols a b c d =
    let all : sides ≡ sides_of m = c ∙ ap (λ s. s ++ column_sides_from 0 cols) b ∙ ap (λ xs. row_sides_from 0 (row_shapes m) ++ column_sides_from 0 xs) d in
    let F : List RowShape → FormList = λ s. record { rows = s; sides = sides } in
    let G : List Side → FormList = λ s. record { rows = row_shapes m; sides = s } in
    ap F a ∙ ap G all

-- ---- how many sides there are

lower_count : (place : Place) (terms : List Term) (b : Option ℤ) → length (lower_side place terms b) ≤ 1
lower_count place terms None = omega arith
lower_count place terms (Some b) = omega arith

upper_count : (place : Place) (terms : List Term) (b : Option ℤ) → length (upper_side place terms b) ≤ 1
upper_count place terms None = omega arith
upper_count place terms (Some b) = omega arith

row_count : (r : ℕ) (shape : RowShape) → length (row_sides r shape) ≤ 2
row_count r Free = omega arith
row_count r Wide = omega arith
row_count r (Form f) =
    let l = lower_side (RowPlace r Lower) f.coeffs f.lo in
    let u = upper_side (RowPlace r Upper) f.coeffs f.up in
    let one = lower_count (RowPlace r Lower) f.coeffs f.lo in
    let two = upper_count (RowPlace r Upper) f.coeffs f.up in
    omega (arith, length-append l u, one, two)

rows_count : (r : ℕ) (shapes : List RowShape) → length (row_sides_from r shapes) ≤ 2 * length shapes
rows_count r [] = omega arith
rows_count r (shape ∷ shapes) =
    let first = row_count r shape in
    let rest = rows_count (r + 1) shapes in
    omega (arith, length-append (row_sides r shape) (row_sides_from (r + 1) shapes), first, rest)

lower_bound_count : (j : ℕ) (d : Option Decimal) → length (lower_bound_side j d) ≤ 1
lower_bound_count j None = omega arith
lower_bound_count j (Some d) = omega arith

upper_bound_count : (j : ℕ) (d : Option Decimal) → length (upper_bound_side j d) ≤ 1
upper_bound_count j None = omega arith
upper_bound_count j (Some d) = omega arith

columns_count : (j : ℕ) (cols : List Column) → length (column_sides_from j cols) ≤ 2 * length cols
columns_count j [] = omega arith
columns_count j (c ∷ cols) =
    let one = lower_bound_count j c.lo in
    let two = upper_bound_count j c.up in
    let rest = columns_count (j + 1) cols in
    omega (arith, length-append (column_sides j c) (column_sides_from (j + 1) cols), length-append (lower_bound_side j c.lo) (upper_bound_side j c.up), one, two, rest)

pub few_sides : (m : Model) (first sides : List Side) (cols : List Column) → length m.rows ≤ 2 ^ 20 → length cols ≤ 2 ^ 20 → first ≡ row_sides_from 0 (row_shapes m)
    → sides ≡ first ++ column_sides_from 0 cols → length sides ≤ 2 ^ 22
few_sides m first sides cols h k e f =
    let front = ap length e in
    let size = ap length f in
    let count = rows_count 0 (row_shapes m) in
    let rows = length_shapes m 0 m.rows in
    let bounds = columns_count 0 cols in
    omega (arith, front, size, length-append first (column_sides_from 0 cols), count, rows, bounds)

-- ---- the shape of a row

pub no_form : (shape : RowShape) → ((f : RowForm) → shape ≡ Form f → ⊥) → form_in (Some shape) ≡ None
no_form Free h = refl
no_form Wide h = refl
no_form (Form f) h = absurd (h f refl)

-- ---- the number of a side

pub plain : (o : Option ℕ) → option_map (λ n. n + 0) o ≡ o
plain None = refl
plain (Some n) = ap Some (omega arith)

pub number_at : (place : Place) (sides : List Side) (i : ℕ) (s : Side) → i < length sides → s ≡ get_or sides i s
    → side_number place (drop i sides) ≡ cond (same_place place s.place) (Some 0) (option_map (λ n. n + 1) (side_number place (drop (i + 1) sides)))
number_at place sides i s h is =
    ap (side_number place) (drop-cons sides i s h ∙ ap (λ t. t ∷ drop (suc i) sides) (sym is) ∙ ap (λ n. s ∷ drop n sides) (sym (add-one i)))

-- ---- what a caller knows of a number and of a row's form

same_ends : (e f : End) → same_end e f ≡ true → e ≡ f
same_ends Lower Lower h = refl
same_ends Lower Upper h = cc
same_ends Upper Lower h = cc
same_ends Upper Upper h = refl

pub same_places : (a b : Place) → same_place a b ≡ true → a ≡ b
same_places (RowPlace r e) (RowPlace s f) h =
    let both = and_parts (r == s) (same_end e f) h in
    ap (λ n. RowPlace n e) (eqb-true r s both.0) ∙ ap (RowPlace s) (same_ends e f both.1)
same_places (RowPlace r e) (Bound j f) h = cc
same_places (Bound j e) (RowPlace r f) h = cc
same_places (Bound j e) (Bound k f) h =
    let both = and_parts (j == k) (same_end e f) h in
    ap (λ n. Bound n e) (eqb-true j k both.0) ∙ ap (Bound k) (same_ends e f both.1)

-- the side with a number has the place
abbrev pub IsFound : Place → List Side → ℕ → Type 0
IsFound place sides n = (s : Side) × (slice_get sides n ≡ Some s) × (s.place ≡ place)

found_case : (place : Place) (s : Side) (sides : List Side) (n : ℕ) (here : Bool) (rest : Option ℕ) → same_place place s.place ≡ here
    → ((k : ℕ) → rest ≡ Some k → IsFound place sides k) → cond here (Some 0) (option_map (λ k. k + 1) rest) ≡ Some n → IsFound place (s ∷ sides) n
found_case place s sides n true rest e f h =
    let first : 0 ≡ n = cc in
    let F : ℕ → Type 0 = IsFound place (s ∷ sides) in
    subst F first (s, refl, sym (same_places place s.place e))
found_case place s sides n false None e f h = cc
found_case place s sides n false (Some k) e f h =
    let next_number : k + 1 ≡ n = cc in
    let F : ℕ → Type 0 = IsFound place (s ∷ sides) in
    subst F (sym (add-one k) ∙ next_number) (f k refl)

pub found : (place : Place) (sides : List Side) (n : ℕ) → side_number place sides ≡ Some n → IsFound place sides n
found place [] n h = cc
found place (s ∷ sides) n h = found_case place s sides n (same_place place s.place) (side_number place sides) refl (found place sides) h

shape_from : (m : Model) (r : ℕ) (rows : List Row) (k : ℕ) → slice_get (row_shapes_from m r rows) k ≡ option_map (row_shape (row_entries m (r + k))) (slice_get rows k)
shape_from m r [] k = refl
shape_from m r (row ∷ rows) zero = ap (λ n. Some (row_shape (row_entries m n) row)) (omega arith)
shape_from m r (row ∷ rows) (suc k) = shape_from m (r + 1) rows k ∙ ap (λ n. option_map (row_shape (row_entries m n)) (slice_get rows k)) (omega arith)

pub shape_at : (m : Model) (r : ℕ) → slice_get (forms_of m).rows r ≡ option_map (row_shape (row_entries m r)) (slice_get m.rows r)
unfolding forms_of
shape_at m r = shape_from m 0 m.rows r ∙ ap (λ n. option_map (row_shape (row_entries m n)) (slice_get m.rows r)) (omega arith)
