-- The columns of sides are columns of the model.
use Rattle.std.proofs.Common.{◌≡◌, ℕ, ℤ, ◌+◌, ◌≤◌, ◌<◌, refl, subst, arith, Bool, true, false, cond, List, [], ◌∷◌, map, length}
use Rattle.std.specs.Prelude.{Option, Some, None}
use Rattle.std.specs.List.{filter}
use Rattle.cgl_num.specs.Decimal.{Decimal}
use Rattle.cgl_num.specs.Gcd.{gcd_of}
use Rattle.cgl_model.specs.declared.mip.Row.{Row}
use Rattle.cgl_model.specs.declared.mip.Column.{Column}
use Rattle.cgl_model.specs.declared.mip.Model.{Model}
use Rattle.cgl_model.specs.declared.places.Place.{Place}
use Rattle.cgl_model.specs.declared.places.Side.{Side}
use Rattle.cgl_model.specs.declared.places.End.TheVariants.{Lower, Upper}
use Rattle.cgl_model.specs.declared.places.Place.TheVariants.{Row as RowPlace}
use Rattle.cgl_model.specs.declared.integer_forms.RowForm.{RowForm}
use Rattle.cgl_model.specs.declared.integer_forms.RowShape.{RowShape}
use Rattle.cgl_model.specs.declared.integer_forms.RowShape.TheVariants.{Free, Wide, Form}
use Rattle.cgl_model.specs.Inequality.{Term, AreColumnsBelow}
use Rattle.cgl_model.specs.RowEntries.{AreEntriesBelow, entry_at, onto_entries, row_entries_from, row_entries}
use Rattle.cgl_model.specs.IntegerForm.{column_sides, column_sides_from, divided, divided_row, forms_of, is_nonzero_term, lower_bound_side, lower_side, negated, row_numbers, row_places, row_shape, row_shapes_from, row_sides, row_sides_from, scaled_row, scaled_term, upper_bound_side, upper_side}
use Rattle.cgl_model.proofs.RowLaws.{form_is}
use Rattle.cgl_model.proofs.SideLaws.{All, joined}

onto_below : (n j : ℕ) (d : Option Decimal) (entries : List (ℕ × Decimal)) → j < n → AreEntriesBelow n entries → AreEntriesBelow n (onto_entries j d entries)
onto_below n j None entries h k = k
onto_below n j (Some d) entries h k = (h, k)

pub entries_below : (n r j : ℕ) (cols : List Column) → j + length cols ≤ n → AreEntriesBelow n (row_entries_from r j cols)
entries_below n r j [] h = tt
entries_below n r j (c ∷ cols) h = onto_below n j (entry_at r c.entries) _ (omega arith) (entries_below n r (j + 1) cols (omega arith))

pub scaled_below : (n k : ℕ) (entries : List (ℕ × Decimal)) → AreEntriesBelow n entries → AreColumnsBelow n (map (scaled_term k) entries)
scaled_below n k [] h = tt
scaled_below n k (e ∷ entries) h = (h.0, scaled_below n k entries h.1)

pub divided_below : (n g : ℕ) (terms : List Term) → AreColumnsBelow n terms → AreColumnsBelow n (map (λ t. (t.0, divided g t.1)) terms)
divided_below n g [] h = tt
divided_below n g (t ∷ terms) h = (h.0, divided_below n g terms h.1)

kept_below : (n : ℕ) (t : Term) (terms : List Term) (kept : Bool) → t.0 < n → AreColumnsBelow n (filter is_nonzero_term terms)
    → AreColumnsBelow n (cond kept (t ∷ filter is_nonzero_term terms) (filter is_nonzero_term terms))
kept_below n t terms true h k = (h, k)
kept_below n t terms false h k = k

pub nonzero_below : (n : ℕ) (terms : List Term) → AreColumnsBelow n terms → AreColumnsBelow n (filter is_nonzero_term terms)
nonzero_below n [] h = tt
nonzero_below n (t ∷ terms) h = kept_below n t terms (is_nonzero_term t) h.0 (nonzero_below n terms h.1)

pub negated_below : (n : ℕ) (terms : List Term) → AreColumnsBelow n terms → AreColumnsBelow n (negated terms)
negated_below n [] h = tt
negated_below n (t ∷ terms) h = (h.0, negated_below n terms h.1)

pub form_below : (n : ℕ) (entries : List (ℕ × Decimal)) (row : Row) (f : RowForm) → AreEntriesBelow n entries → row_shape entries row ≡ Form f → AreColumnsBelow n f.coeffs
unfolding row_shape
form_below n entries row f h e =
    let k = row_places entries row in
    let numbers = scaled_row k entries row in
    let g = gcd_of (row_numbers numbers) in
    let F : RowForm → Type 0 = λ form. AreColumnsBelow n form.coeffs in
    subst F (form_is row.kind numbers f e) (nonzero_below n (divided_row g numbers).coeffs (divided_below n g numbers.coeffs (scaled_below n k entries h)))

abbrev pub IsBelow : ℕ → Side → Type 0
IsBelow n s = AreColumnsBelow n s.ineq.terms

lower_below : (n : ℕ) (place : Place) (terms : List Term) (b : Option ℤ) → AreColumnsBelow n terms → All (IsBelow n) (lower_side place terms b)
lower_below n place terms None h = tt
lower_below n place terms (Some b) h = (h, tt)

upper_below : (n : ℕ) (place : Place) (terms : List Term) (b : Option ℤ) → AreColumnsBelow n terms → All (IsBelow n) (upper_side place terms b)
upper_below n place terms None h = tt
upper_below n place terms (Some b) h = (negated_below n terms h, tt)

shape_below : (n r : ℕ) (entries : List (ℕ × Decimal)) (row : Row) (shape : RowShape) → AreEntriesBelow n entries → row_shape entries row ≡ shape → All (IsBelow n) (row_sides r shape)
shape_below n r entries row Free h e = tt
shape_below n r entries row Wide h e = tt
shape_below n r entries row (Form f) h e =
    let terms = form_below n entries row f h e in
    joined (IsBelow n) (lower_side (RowPlace r Lower) f.coeffs f.lo) _ (lower_below n (RowPlace r Lower) f.coeffs f.lo terms) (upper_below n (RowPlace r Upper) f.coeffs f.up terms)

rows_below : (m : Model) (r : ℕ) (rows : List Row) → All (IsBelow (length m.cols)) (row_sides_from r (row_shapes_from m r rows))
rows_below m r [] = tt
rows_below m r (row ∷ rows) =
    joined (IsBelow (length m.cols)) (row_sides r (row_shape (row_entries m r) row)) _
    (shape_below (length m.cols) r (row_entries m r) row (row_shape (row_entries m r) row) (entries_below (length m.cols) r 0 m.cols (omega arith)) refl)
    (rows_below m (r + 1) rows)

lower_bound_below : (n j : ℕ) (d : Option Decimal) → j < n → All (IsBelow n) (lower_bound_side j d)
lower_bound_below n j None h = tt
lower_bound_below n j (Some d) h = ((h, tt), tt)

upper_bound_below : (n j : ℕ) (d : Option Decimal) → j < n → All (IsBelow n) (upper_bound_side j d)
upper_bound_below n j None h = tt
upper_bound_below n j (Some d) h = ((h, tt), tt)

columns_below : (n j : ℕ) (cols : List Column) → j + length cols ≤ n → All (IsBelow n) (column_sides_from j cols)
columns_below n j [] h = tt
columns_below n j (c ∷ cols) h =
    joined (IsBelow n) (column_sides j c) _
    (joined (IsBelow n) (lower_bound_side j c.lo) _ (lower_bound_below n j c.lo (omega arith)) (upper_bound_below n j c.up (omega arith)))
    (columns_below n (j + 1) cols (omega arith))

pub sides_below : (m : Model) → All (IsBelow (length m.cols)) (forms_of m).sides
unfolding forms_of
sides_below m =
    joined (IsBelow (length m.cols)) (row_sides_from 0 (row_shapes_from m 0 m.rows)) _ (rows_below m 0 m.rows) (columns_below (length m.cols) 0 m.cols (omega arith))
