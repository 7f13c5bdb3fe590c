-- Which places have a side, and which rows have a form.
use Rattle.std.proofs.Common.{◌≡◌, ℕ, zero, suc, ℤ, ◌+◌, ◌^◌, ◌≤◌, ◌<◌, ◌==◌, ap, refl, sym, ◌∙◌, subst, arith, Bool, true, false, cond, ◌&&◌, ◌||◌, List, [], ◌∷◌, ◌++◌, length, inl, inr}
use Rattle.std.specs.Prelude.{◌↔◌, ◌⊎◌, ◌≢◌, int_lt, pos, is_some, Option, Some, None, option_map, slice_get}
use Rattle.std.specs.Option.{IfNone, IfSome}
use Rattle.std.specs.List.{list_any}
use Rattle.std.proofs.lemmas.Bool.{and_from, cases_order, eq-eqb, false_from_ne_true, ne_eqb, or_from, or_parts, true≢false}
use Rattle.std.proofs.lemmas.List.Folds.{list_any-append}
use Rattle.std.proofs.lemmas.Option.{get_or_from_slice_get, slice_get_within}
use Rattle.cgl_num.specs.Decimal.{Decimal, scaled}
use Rattle.cgl_num.specs.Gcd.{gcd_of}
use Rattle.cgl_model.specs.declared.mip.RowKind.{RowKind}
use Rattle.cgl_model.specs.declared.mip.RowKind.TheVariants.{N, L, G, E}
use Rattle.cgl_model.specs.declared.mip.Row.{Row}
use Rattle.cgl_model.specs.declared.mip.Column.{Column}
use Rattle.cgl_model.specs.declared.mip.Model.{Model}
use Rattle.cgl_model.specs.declared.places.End.{End}
use Rattle.cgl_model.specs.declared.places.End.TheVariants.{Lower, Upper}
use Rattle.cgl_model.specs.declared.places.Place.{Place}
use Rattle.cgl_model.specs.declared.places.Place.TheVariants.{Row as RowPlace, Bound}
use Rattle.cgl_model.specs.declared.places.Side.{Side}
use Rattle.cgl_model.specs.declared.row_numbers.RowNumbers.{RowNumbers}
use Rattle.cgl_model.specs.declared.integer_forms.RowForm.{RowForm}
use Rattle.cgl_model.specs.declared.integer_forms.RowShape.{RowShape}
use Rattle.cgl_model.specs.declared.integer_forms.RowShape.TheVariants.{Free, Wide, Form}
use Rattle.cgl_model.specs.Absent.{IsAbsent, IsFormless, IsFreeOrWide, IsNowhere, IsSideAt, IsWideAt, IsWideRow, column_bound, row_end}
use Rattle.cgl_model.specs.Ends.{lower_end, upper_end}
use Rattle.cgl_model.specs.Feasible.{weight}
use Rattle.cgl_model.specs.FormList.{form_at, form_in, is_wide_at, is_wide_in, same_place, side_number}
use Rattle.cgl_model.specs.Inequality.{Term}
use Rattle.cgl_model.specs.IntegerForm.{column_sides, column_sides_from, divided, divided_row, forms_of, is_wide_row, lower_bound_side, lower_side, row_numbers, row_places, row_shape, row_shape_of, row_shapes, row_sides, row_sides_from, scaled_row, upper_bound_side, upper_side}
use Rattle.cgl_model.specs.RowEntries.{row_entries}
use Rattle.cgl_model.specs.PlaceOrder.{rank, RanksRise}
use Rattle.cgl_model.proofs.FormListLaws.{found, same_places, shape_at}
use Rattle.cgl_model.proofs.PlaceLaws.{all_sides_rise, rank_less}
use Rattle.cgl_model.proofs.RowLaws.{form_is, through}
use Rattle.cgl_model.proofs.ShapeLaws.{free_row}

-- ---- whether a list has a side at a place

abbrev pub has_place : Place → List Side → Bool
has_place place sides = list_any (λ s. same_place place s.place) sides

number_none : (here : Bool) (rest : Option ℕ) (others : Bool) → (rest ≡ None) ↔ (others ≡ false)
    → (cond here (Some 0) (option_map (λ n. n + 1) rest) ≡ None) ↔ ((here || others) ≡ false)
number_none true rest others law = (λ h. cc, λ h. cc)
number_none false None others law = (λ h. law.0 refl, λ h. refl)
number_none false (Some n) others law = (λ h. cc, λ h. let none = law.1 h in cc)

pub unnumbered : (place : Place) (sides : List Side) → (side_number place sides ≡ None) ↔ (has_place place sides ≡ false)
unnumbered place [] = (λ h. refl, λ h. refl)
unnumbered place (s ∷ sides) = number_none (same_place place s.place) (side_number place sides) (has_place place sides) (unnumbered place sides)

same_itself : (place : Place) → same_place place place ≡ true
same_itself (RowPlace r Lower) = and_from (r == r) true (eq-eqb r r refl) refl
same_itself (RowPlace r Upper) = and_from (r == r) true (eq-eqb r r refl) refl
same_itself (Bound j Lower) = and_from (j == j) true (eq-eqb j j refl) refl
same_itself (Bound j Upper) = and_from (j == j) true (eq-eqb j j refl) refl

apart : (place other : Place) → (same_place place other ≡ false) ↔ (other ≢ place)
apart place other = (
  λ h e. true≢false (sym (same_itself place) ∙ ap (same_place place) (sym e) ∙ h),
  λ h. false_from_ne_true _ (λ e. h (sym (same_places place other e))),
)

pub nowhere : (place : Place) (sides : List Side) → (has_place place sides ≡ false) ↔ IsNowhere place sides
nowhere place [] = (λ h. tt, λ h. refl)
nowhere place (s ∷ sides) =
    let here = apart place s.place in
    let rest = nowhere place sides in (
      λ h. let parts = or_parts (same_place place s.place) (has_place place sides) h in (here.0 parts.0, rest.0 parts.1),
      λ h. or_from (same_place place s.place) (has_place place sides) (here.1 h.0) (rest.1 h.1),
    )

-- ---- what a search answers

pub nowhere_in : (place : Place) (sides : List Side) (r : Option ℕ) → r ≡ side_number place sides → IfNone r (IsNowhere place sides)
nowhere_in place sides None e = (through (unnumbered place sides) (nowhere place sides)).0 (sym e)
nowhere_in place sides (Some n) e = tt

pub found_in : (place : Place) (sides : List Side) (r : Option ℕ) → r ≡ side_number place sides → IfSome r (IsSideAt place sides)
found_in place sides None e = tt
found_in place sides (Some n) e = found place sides n (sym e)

pub earlier : (sides : List Side) (i k : ℕ) (s t : Side) → RanksRise 0 sides → i < k → slice_get sides i ≡ Some s → slice_get sides k ≡ Some t → rank s.place < rank t.place
earlier sides i k s t rise h e f =
    let first = ap (λ u. rank u.place) (get_or_from_slice_get sides i s s e) in
    let second = ap (λ u. rank u.place) (get_or_from_slice_get sides k t s f) in
    let less = rank_less 0 sides i k s rise h (slice_get_within sides k t f) in
    omega (arith, first, second, less)

pub distinct : (sides : List Side) (i k : ℕ) (s t : Side) → RanksRise 0 sides → slice_get sides i ≡ Some s → slice_get sides k ≡ Some t → s.place ≡ t.place → i ≡ k
distinct sides i k s t rise e f same =
    let ranks = ap rank same in
    elim (cases_order i k) [
      | inl is ↦ is
      | inr other ↦ elim other [
        | inl low ↦ let less = earlier sides i k s t rise low e f in absurd (omega (arith, ranks, less))
        | inr high ↦ let less = earlier sides k i t s rise high f e in absurd (omega (arith, ranks, less))
      ]
    ]

-- the side's place is not nowhere
stands : (place : Place) (sides : List Side) (n : ℕ) → IsSideAt place sides n → IsNowhere place sides → ⊥
stands place [] n at none = let is = at.1 in cc
stands place (s ∷ sides) zero at none = let same : s ≡ at.0 = let is = at.1 in cc in none.0 (ap (λ t. t.place) same ∙ at.2)
stands place (s ∷ sides) (suc n) at none = stands place sides n at none.1

numbered : (place : Place) (sides : List Side) (n : ℕ) (r : Option ℕ) → RanksRise 0 sides → r ≡ side_number place sides → IsSideAt place sides n → r ≡ Some n
numbered place sides n None rise e at = absurd (stands place sides n at (nowhere_in place sides None e))
numbered place sides n (Some k) rise e at =
    let other = found_in place sides (Some k) e in
    ap Some (distinct sides k n other.0 at.0 rise other.1 at.1 (other.2 ∙ sym at.2))

pub number_is : (place : Place) (sides : List Side) (n : ℕ) → RanksRise 0 sides → (side_number place sides ≡ Some n) ↔ IsSideAt place sides n
number_is place sides n rise = (found place sides n, numbered place sides n (side_number place sides) rise refl)

pub sides_rise : (m : Model) → length m.rows ≤ 2 ^ 20 → RanksRise 0 (forms_of m).sides
unfolding forms_of
sides_rise m h = all_sides_rise m (row_sides_from 0 (row_shapes m)) _ m.cols h refl refl

-- ---- the sides of one row and of one column

abbrev chosen_end : {A : Type 0} → End → Option A → Option A → Option A
chosen_end Lower lo up = lo
chosen_end Upper lo up = up

no_end : (b : Bool) → false ≡ (b && false)
no_end true = refl
no_end false = refl

one_end : (b c : Bool) → ((b && c) || false) ≡ (b && c)
one_end true true = refl
one_end true false = refl
one_end false c = refl

two_ends : (b c d : Bool) → ((b && c) || ((b && d) || false)) ≡ (b && (c || d))
two_ends true true d = refl
two_ends true false true = refl
two_ends true false false = refl
two_ends false c d = refl

row_has : (r q : ℕ) (e : End) (terms : List Term) (lo up : Option ℤ)
    → has_place (RowPlace r e) (lower_side (RowPlace q Lower) terms lo ++ upper_side (RowPlace q Upper) terms up) ≡ (r == q && is_some (chosen_end e lo up))
row_has r q Lower terms None None = no_end (r == q)
row_has r q Lower terms None (Some u) = one_end (r == q) false
row_has r q Lower terms (Some l) None = one_end (r == q) true
row_has r q Lower terms (Some l) (Some u) = two_ends (r == q) true false
row_has r q Upper terms None None = no_end (r == q)
row_has r q Upper terms None (Some u) = one_end (r == q) true
row_has r q Upper terms (Some l) None = one_end (r == q) false
row_has r q Upper terms (Some l) (Some u) = two_ends (r == q) false true

column_has : (j k : ℕ) (e : End) (lo up : Option Decimal)
    → has_place (Bound j e) (lower_bound_side k lo ++ upper_bound_side k up) ≡ (j == k && is_some (chosen_end e lo up))
column_has j k Lower None None = no_end (j == k)
column_has j k Lower None (Some u) = one_end (j == k) false
column_has j k Lower (Some l) None = one_end (j == k) true
column_has j k Lower (Some l) (Some u) = two_ends (j == k) true false
column_has j k Upper None None = no_end (j == k)
column_has j k Upper None (Some u) = one_end (j == k) true
column_has j k Upper (Some l) None = one_end (j == k) false
column_has j k Upper (Some l) (Some u) = two_ends (j == k) false true

bound_in_row : (j q : ℕ) (e : End) (terms : List Term) (lo up : Option ℤ)
    → has_place (Bound j e) (lower_side (RowPlace q Lower) terms lo ++ upper_side (RowPlace q Upper) terms up) ≡ false
bound_in_row j q e terms None None = refl
bound_in_row j q e terms None (Some u) = refl
bound_in_row j q e terms (Some l) None = refl
bound_in_row j q e terms (Some l) (Some u) = refl

row_in_column : (r k : ℕ) (e : End) (lo up : Option Decimal) → has_place (RowPlace r e) (lower_bound_side k lo ++ upper_bound_side k up) ≡ false
row_in_column r k e None None = refl
row_in_column r k e None (Some u) = refl
row_in_column r k e (Some l) None = refl
row_in_column r k e (Some l) (Some u) = refl

-- ---- the sides of rows

abbrev form_end : End → Option RowForm → Option ℤ
form_end e None = None
form_end e (Some f) = chosen_end e f.lo f.up

shape_has : (r q : ℕ) (e : End) (shape : RowShape) → has_place (RowPlace r e) (row_sides q shape) ≡ (r == q && is_some (form_end e (form_in (Some shape))))
shape_has r q e Free = no_end (r == q)
shape_has r q e Wide = no_end (r == q)
shape_has r q e (Form f) = row_has r q e f.coeffs f.lo f.up

bound_in_shape : (j q : ℕ) (e : End) (shape : RowShape) → has_place (Bound j e) (row_sides q shape) ≡ false
bound_in_shape j q e Free = refl
bound_in_shape j q e Wide = refl
bound_in_shape j q e (Form f) = bound_in_row j q e f.coeffs f.lo f.up

both_have : (place : Place) (xs ys : List Side) (a b : Bool) → has_place place xs ≡ a → has_place place ys ≡ b → has_place place (xs ++ ys) ≡ (a || b)
both_have place xs ys a b e f = list_any-append (λ s. same_place place s.place) xs ys ∙ ap (λ c. c || has_place place ys) e ∙ ap (λ c. a || c) f

other_number : (r q : ℕ) (b : Bool) → (r ≡ q → ⊥) → (r == q && b) ≡ false
other_number r q b h = ap (λ c. c && b) (ne_eqb r q h)

same_number : (r q : ℕ) (b : Bool) → r ≡ q → (r == q && b) ≡ b
same_number r q b h = ap (λ c. c && b) (eq-eqb r q h)

or_false : (b : Bool) → (b || false) ≡ b
or_false true = refl
or_false false = refl

earlier_row : (r q : ℕ) (e : End) (shapes : List RowShape) → r < q → has_place (RowPlace r e) (row_sides_from q shapes) ≡ false
earlier_row r q e [] h = refl
earlier_row r q e (shape ∷ shapes) h =
    both_have (RowPlace r e) (row_sides q shape) _ false false
    (shape_has r q e shape ∙ other_number r q _ (λ same. omega arith)) (earlier_row r (q + 1) e shapes (omega arith))

rows_have : (q k : ℕ) (e : End) (shapes : List RowShape) → has_place (RowPlace (q + k) e) (row_sides_from q shapes) ≡ is_some (form_end e (form_in (slice_get shapes k)))
rows_have q k e [] = refl
rows_have q zero e (shape ∷ shapes) =
    let here = is_some (form_end e (form_in (Some shape))) in
    both_have (RowPlace (q + 0) e) (row_sides q shape) _ here false
    (shape_has (q + 0) q e shape ∙ same_number (q + 0) q here (omega arith)) (earlier_row (q + 0) (q + 1) e shapes (omega arith))
    ∙ or_false here
rows_have q (suc k) e (shape ∷ shapes) =
    let there = is_some (form_end e (form_in (slice_get shapes k))) in
    both_have (RowPlace (q + suc k) e) (row_sides q shape) _ false there
    (shape_has (q + suc k) q e shape ∙ other_number (q + suc k) q _ (λ same. omega arith))
    (ap (λ n. has_place (RowPlace n e) (row_sides_from (q + 1) shapes)) (let next : q + suc k ≡ q + 1 + k = omega arith in next) ∙ rows_have (q + 1) k e shapes)

bound_in_rows : (j q : ℕ) (e : End) (shapes : List RowShape) → has_place (Bound j e) (row_sides_from q shapes) ≡ false
bound_in_rows j q e [] = refl
bound_in_rows j q e (shape ∷ shapes) = both_have (Bound j e) (row_sides q shape) _ false false (bound_in_shape j q e shape) (bound_in_rows j (q + 1) e shapes)

-- ---- the sides of columns

abbrev bound_in : End → Option Column → Option Decimal
bound_in e None = None
bound_in e (Some c) = chosen_end e c.lo c.up

earlier_column : (j k : ℕ) (e : End) (cols : List Column) → j < k → has_place (Bound j e) (column_sides_from k cols) ≡ false
earlier_column j k e [] h = refl
earlier_column j k e (c ∷ cols) h =
    both_have (Bound j e) (column_sides k c) _ false false
    (column_has j k e c.lo c.up ∙ other_number j k _ (λ same. omega arith)) (earlier_column j (k + 1) e cols (omega arith))

columns_have : (k i : ℕ) (e : End) (cols : List Column) → has_place (Bound (k + i) e) (column_sides_from k cols) ≡ is_some (bound_in e (slice_get cols i))
columns_have k i e [] = refl
columns_have k zero e (c ∷ cols) =
    let here = is_some (chosen_end e c.lo c.up) in
    both_have (Bound (k + 0) e) (column_sides k c) _ here false
    (column_has (k + 0) k e c.lo c.up ∙ same_number (k + 0) k here (omega arith)) (earlier_column (k + 0) (k + 1) e cols (omega arith))
    ∙ or_false here
columns_have k (suc i) e (c ∷ cols) =
    let there = is_some (bound_in e (slice_get cols i)) in
    both_have (Bound (k + suc i) e) (column_sides k c) _ false there
    (column_has (k + suc i) k e c.lo c.up ∙ other_number (k + suc i) k _ (λ same. omega arith))
    (ap (λ n. has_place (Bound n e) (column_sides_from (k + 1) cols)) (let next : k + suc i ≡ k + 1 + i = omega arith in next) ∙ columns_have (k + 1) i e cols)

row_in_columns : (r k : ℕ) (e : End) (cols : List Column) → has_place (RowPlace r e) (column_sides_from k cols) ≡ false
row_in_columns r k e [] = refl
row_in_columns r k e (c ∷ cols) = both_have (RowPlace r e) (column_sides k c) _ false false (row_in_column r k e c.lo c.up) (row_in_columns r (k + 1) e cols)

-- ---- which ends are finite

abbrev has_lower : RowKind → Bool → Bool
has_lower N range = false
has_lower L range = range
has_lower G range = true
has_lower E range = true

abbrev has_upper : RowKind → Bool → Bool
has_upper N range = false
has_upper L range = true
has_upper G range = range
has_upper E range = true

either_some : (b : Bool) (x y : ℤ) → is_some (cond b (Some x) (Some y)) ≡ true
either_some true x y = refl
either_some false x y = refl

lower_there : (kind : RowKind) (b : ℤ) (range : Option ℤ) → is_some (lower_end kind b range) ≡ has_lower kind (is_some range)
lower_there N b range = refl
lower_there L b None = refl
lower_there L b (Some r) = refl
lower_there G b range = refl
lower_there E b None = refl
lower_there E b (Some r) = either_some (int_lt r (pos 0)) _ _

upper_there : (kind : RowKind) (b : ℤ) (range : Option ℤ) → is_some (upper_end kind b range) ≡ has_upper kind (is_some range)
upper_there N b range = refl
upper_there L b range = refl
upper_there G b None = refl
upper_there G b (Some r) = refl
upper_there E b None = refl
upper_there E b (Some r) = either_some (int_lt r (pos 0)) _ _

mapped : {A B : Type 0} (f : A → B) (o : Option A) → is_some (option_map f o) ≡ is_some o
mapped f None = refl
mapped f (Some a) = refl

-- an end of the form is finite where that of the row is
form_end_there : (e : End) (kind : RowKind) (n : RowNumbers) (range : Option Decimal) (b c : ℤ) → is_some n.range ≡ is_some range
    → is_some (chosen_end e (lower_end kind n.rhs n.range) (upper_end kind n.rhs n.range)) ≡ is_some (chosen_end e (lower_end kind b (option_map weight range)) (upper_end kind c (option_map weight range)))
form_end_there Lower kind n range b c h =
    lower_there kind n.rhs n.range ∙ ap (has_lower kind) (h ∙ sym (mapped weight range)) ∙ sym (lower_there kind b (option_map weight range))
form_end_there Upper kind n range b c h =
    upper_there kind n.rhs n.range ∙ ap (has_upper kind) (h ∙ sym (mapped weight range)) ∙ sym (upper_there kind c (option_map weight range))

ends_are : (e : End) (row : Row) → chosen_end e (row_end Lower row) (row_end Upper row) ≡ row_end e row
ends_are Lower row = refl
ends_are Upper row = refl

form_there : (m : Model) (r : ℕ) (e : End) (row : Row) (f : RowForm) → row_shape (row_entries m r) row ≡ Form f → is_some (chosen_end e f.lo f.up) ≡ is_some (row_end e row)
unfolding row_shape
form_there m r e row f h =
    let n = scaled_row (row_places (row_entries m r) row) (row_entries m r) row in
    let g = gcd_of (row_numbers n) in
    let F : RowForm → Type 0 = λ form. is_some (chosen_end e form.lo form.up) ≡ is_some (row_end e row) in
    let range = mapped (divided g) n.range ∙ mapped (scaled (row_places (row_entries m r) row)) row.range in
    subst F (form_is row.kind n f h) (form_end_there e row.kind (divided_row g n) row.range (weight row.rhs) (weight row.rhs) range ∙ ap is_some (ends_are e row))

-- ---- rows without a form

chosen_shape : (wide : Bool) (f : RowForm) → cond wide Wide (Form f) ≡ Free → ⊥
chosen_shape true f e = cc
chosen_shape false f e = cc

free_kind : (kind : RowKind) (n : RowNumbers) → row_shape_of kind n ≡ Free → kind ≡ N
free_kind N n e = refl
free_kind L n e = absurd (chosen_shape (is_wide_row L n) _ e)
free_kind G n e = absurd (chosen_shape (is_wide_row G n) _ e)
free_kind E n e = absurd (chosen_shape (is_wide_row E n) _ e)

free_is : (entries : List (ℕ × Decimal)) (row : Row) → row_shape entries row ≡ Free → row.kind ≡ N
unfolding row_shape
free_is entries row e = free_kind row.kind _ e

no_form : (m : Model) (r : ℕ) (row : Row) (f : RowForm) → row_shape (row_entries m r) row ≡ Form f → IsFreeOrWide m r row → ⊥
no_form m r row f e h = elim h [
  | inl free ↦ let is = free_row (row_entries m r) row free in let same : Free ≡ Form f = is ∙ e in cc
  | inr wide ↦ let same : Wide ≡ Form f = sym wide ∙ e in cc
]

none_there : {A : Type 0} (o : Option A) → (is_some o ≡ false) ↔ (o ≡ None)
none_there None = (λ h. refl, λ h. refl)
none_there (Some a) = (λ h. cc, λ h. cc)

row_lacks : (m : Model) (r : ℕ) (e : End) (row : Row) (shape : RowShape) → row_shape (row_entries m r) row ≡ shape
    → (is_some (form_end e (form_in (Some shape))) ≡ false) ↔ (IsFreeOrWide m r row ⊎ (row_end e row ≡ None))
row_lacks m r e row Free is = (λ h. inl (inl (free_is (row_entries m r) row is)), λ h. refl)
row_lacks m r e row Wide is = (λ h. inl (inr is), λ h. refl)
row_lacks m r e row (Form f) is =
    let same = form_there m r e row f is in
    let law = none_there (row_end e row) in (
      λ h. inr (law.0 (sym same ∙ h)),
      λ h. elim h [
        | inl none ↦ absurd (no_form m r row f is none)
        | inr infinite ↦ same ∙ law.1 infinite
      ],
    )

row_absent : (m : Model) (r : ℕ) (e : End) (o : Option Row)
    → (is_some (form_end e (form_in (option_map (row_shape (row_entries m r)) o))) ≡ false) ↔ IfSome o (λ row. IsFreeOrWide m r row ⊎ (row_end e row ≡ None))
row_absent m r e None = (λ h. tt, λ h. refl)
row_absent m r e (Some row) = row_lacks m r e row (row_shape (row_entries m r) row) refl

column_lacks : (e : End) (c : Column) → (is_some (chosen_end e c.lo c.up) ≡ false) ↔ (column_bound e c ≡ None)
column_lacks Lower c = none_there c.lo
column_lacks Upper c = none_there c.up

column_absent : (e : End) (o : Option Column) → (is_some (bound_in e o) ≡ false) ↔ IfSome o (λ c. column_bound e c ≡ None)
column_absent e None = (λ h. tt, λ h. refl)
column_absent e (Some c) = column_lacks e c

-- ---- all sides

by_value : (b c : Bool) {P : Type 0} → b ≡ c → (c ≡ false) ↔ P → (b ≡ false) ↔ P
by_value b c e law = (λ h. law.0 (sym e ∙ h), λ p. e ∙ law.1 p)

row_place : (m : Model) (r : ℕ) (e : End) → has_place (RowPlace r e) (forms_of m).sides ≡ is_some (form_end e (form_in (option_map (row_shape (row_entries m r)) (slice_get m.rows r))))
unfolding forms_of
row_place m r e =
    let there = is_some (form_end e (form_in (slice_get (row_shapes m) r))) in
    let place = ap (λ n. has_place (RowPlace n e) (row_sides_from 0 (row_shapes m))) (let plain : r ≡ 0 + r = omega arith in plain) in
    both_have (RowPlace r e) (row_sides_from 0 (row_shapes m)) _ there false (place ∙ rows_have 0 r e (row_shapes m)) (row_in_columns r 0 e m.cols)
    ∙ or_false there ∙ ap (λ o. is_some (form_end e (form_in o))) (shape_at m r)

column_place : (m : Model) (j : ℕ) (e : End) → has_place (Bound j e) (forms_of m).sides ≡ is_some (bound_in e (slice_get m.cols j))
unfolding forms_of
column_place m j e =
    let there = is_some (bound_in e (slice_get m.cols j)) in
    let place = ap (λ n. has_place (Bound n e) (column_sides_from 0 m.cols)) (let plain : j ≡ 0 + j = omega arith in plain) in
    both_have (Bound j e) (row_sides_from 0 (row_shapes m)) _ false there (bound_in_rows j 0 e (row_shapes m)) (place ∙ columns_have 0 j e m.cols)

pub absent_is : (m : Model) (place : Place) → (side_number place (forms_of m).sides ≡ None) ↔ IsAbsent m place
absent_is m (RowPlace r e) = through (unnumbered (RowPlace r e) (forms_of m).sides) (by_value _ _ (row_place m r e) (row_absent m r e (slice_get m.rows r)))
absent_is m (Bound j e) = through (unnumbered (Bound j e) (forms_of m).sides) (by_value _ _ (column_place m j e) (column_absent e (slice_get m.cols j)))

-- ---- forms

formless_case : (m : Model) (r : ℕ) (row : Row) (shape : RowShape) → row_shape (row_entries m r) row ≡ shape → (form_in (Some shape) ≡ None) ↔ IsFreeOrWide m r row
formless_case m r row Free is = (λ h. inl (free_is (row_entries m r) row is), λ h. refl)
formless_case m r row Wide is = (λ h. inr is, λ h. refl)
formless_case m r row (Form f) is = (λ h. cc, λ h. absurd (no_form m r row f is h))

formless_at : (m : Model) (r : ℕ) (o : Option Row) → (form_in (option_map (row_shape (row_entries m r)) o) ≡ None) ↔ IfSome o (IsFreeOrWide m r)
formless_at m r None = (λ h. tt, λ h. refl)
formless_at m r (Some row) = formless_case m r row (row_shape (row_entries m r) row) refl

pub formless : (m : Model) (r : ℕ) → (form_at (forms_of m).rows r ≡ None) ↔ IsFormless m r
formless m r =
    let law = formless_at m r (slice_get m.rows r) in
    (λ h. law.0 (sym (ap form_in (shape_at m r)) ∙ h), λ h. ap form_in (shape_at m r) ∙ law.1 h)

wide_shape : (shape : RowShape) → (is_wide_in (Some shape) ≡ true) ↔ (shape ≡ Wide)
wide_shape Free = (λ h. cc, λ h. cc)
wide_shape Wide = (λ h. refl, λ h. refl)
wide_shape (Form f) = (λ h. cc, λ h. cc)

wide_case : (m : Model) (r : ℕ) (o : Option Row)
    → (is_wide_in (option_map (row_shape (row_entries m r)) o) ≡ true) ↔ ((row : Row) × (o ≡ Some row) × IsWideRow m r row)
wide_case m r None = (λ h. cc, λ h. let none = h.1 in cc)
wide_case m r (Some row) =
    let law = wide_shape (row_shape (row_entries m r) row) in
    let F : Row → Type 0 = IsWideRow m r in (
      λ h. (row, refl, law.0 h),
      λ h. let same : h.0 ≡ row = let is = h.1 in cc in law.1 (subst F same h.2),
    )

pub wide_is : (m : Model) (r : ℕ) → (is_wide_at (forms_of m).rows r ≡ true) ↔ IsWideAt m r
wide_is m r =
    let law = wide_case m r (slice_get m.rows r) in
    (λ h. law.0 (sym (ap is_wide_in (shape_at m r)) ∙ h), λ h. ap is_wide_in (shape_at m r) ∙ law.1 h)
