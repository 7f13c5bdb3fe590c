-- The terms of each side rise.
use Rattle.std.proofs.Common.{◌≡◌, ℕ, zero, suc, ℤ, pos, ◌+◌, ◌^◌, ◌≤◌, ◌<◌, ap, refl, sym, ◌∙◌, subst, arith, lit<, Bool, true, false, cond, not, List, [], ◌∷◌, ◌++◌, map}
use Rattle.std.specs.Prelude.{unsigned_abs, Option, Some, None}
use Rattle.std.specs.List.{AllByRecursion, filter, list_any}
use Rattle.std.specs.Option.{IfSome}
use Rattle.std.specs.Ordering.{int_eq}
use Rattle.std.proofs.lemmas.Bool.{true≢false, or_parts}
use Rattle.std.proofs.lemmas.Int.{ints}
use Rattle.std.proofs.lemmas.List.Folds.{list_any-append}
use Rattle.cgl_num.specs.Decimal.{Decimal, IsDecimal, scaled, places}
use Rattle.cgl_num.specs.Fraction.{lowest}
use Rattle.cgl_num.specs.Gcd.{gcd, gcd_of}
use Rattle.cgl_num.proofs.FractionLaws.{lowest_positive, quotient_narrow}
use Rattle.cgl_model.specs.declared.mip.Row.{Row}
use Rattle.cgl_model.specs.declared.mip.Column.{Column}
use Rattle.cgl_model.specs.declared.mip.Model.{Model}
use Rattle.cgl_model.specs.declared.mip.RowKind.{RowKind}
use Rattle.cgl_model.specs.declared.mip.RowKind.TheVariants.{N, L, G, E}
use Rattle.cgl_model.specs.declared.places.Place.{Place}
use Rattle.cgl_model.specs.declared.places.Side.{Side}
use Rattle.cgl_model.specs.declared.places.End.TheVariants.{Lower, Upper}
use Rattle.cgl_model.specs.declared.places.Place.TheVariants.{Row as RowPlace}
use Rattle.cgl_model.specs.declared.row_numbers.RowNumbers.{RowNumbers}
use Rattle.cgl_model.specs.declared.integer_forms.RowForm.{RowForm}
use Rattle.cgl_model.specs.declared.integer_forms.RowShape.{RowShape}
use Rattle.cgl_model.specs.declared.integer_forms.RowShape.TheVariants.{Free, Wide, Form}
use Rattle.cgl_model.specs.HasDecimals.{HasDecimals, IsDecimalColumn}
use Rattle.cgl_model.specs.Inequality.{Term}
use Rattle.cgl_model.specs.Rising.{IsCoefficient, IsRising}
use Rattle.cgl_model.specs.RowEntries.{RiseFrom, row_entries}
use Rattle.cgl_model.specs.IntegerForm.{bound_of, column_sides, column_sides_from, divided, divided_row, forms_of, is_nonzero_term, is_wide_number, is_wide_row, lower_bound_side, lower_side, negated, row_ends, row_numbers, row_places, row_shape, row_shape_of, row_shapes_from, row_sides, row_sides_from, scaled_row, upper_bound_side, upper_side}
use Rattle.cgl_model.proofs.BuildLaws.{narrow_first}
use Rattle.cgl_model.proofs.RiseLaws.{entries_rise, rise_lower, scaled_rise}
use Rattle.cgl_model.proofs.RowLaws.{divided_is, form_is}
use Rattle.cgl_model.proofs.ScaleLaws.{places_limit}
use Rattle.cgl_model.proofs.SideLaws.{All, joined}
use Rattle.cgl_model.proofs.SideListLaws.{negated_coefficient, places_size, ten_above}

-- ---- terms that rise

pub rising_of : (j : ℕ) (terms : List Term) → RiseFrom j terms → AllByRecursion (λ t. IsCoefficient t.1) terms → IsRising terms
rising_of j [] r a = tt
rising_of j (t ∷ []) r a = a.0
rising_of j (t ∷ u ∷ terms) r a = (a.0, (let next = r.1.0 in omega arith), rising_of (t.0 + 1) (u ∷ terms) r.1 a.1)

pub negated_rising : (terms : List Term) → IsRising terms → IsRising (negated terms)
negated_rising [] r = tt
negated_rising (t ∷ []) r = negated_coefficient t.1 r
negated_rising (t ∷ u ∷ terms) r = (negated_coefficient t.1 r.0, r.1, negated_rising (u ∷ terms) r.2)

-- ---- divided numbers without those that are 0

abbrev AreNarrow : List Term → Type 0
AreNarrow terms = AllByRecursion (λ t. unsigned_abs t.1 < 2 ^ 127) terms

divided_narrow : (g : ℕ) (z : ℤ) → unsigned_abs z < 2 ^ 100 → unsigned_abs (divided g z) < 2 ^ 127
divided_narrow zero z h = let small : 2 ^ 100 < 2 ^ 127 = lit< tt in omega arith
divided_narrow (suc g) z h =
    let small : 2 ^ 100 < 2 ^ 127 = lit< tt in
    subst (λ y. unsigned_abs y < 2 ^ 127) (sym (divided_is (suc g) z (omega arith))) (quotient_narrow z (suc g) (2 ^ 127) (omega arith))

narrow_terms : (g : ℕ) (terms : List Term) (rest : List ℤ) → list_any is_wide_number (map (λ t. t.1) terms ++ rest) ≡ false → AreNarrow (map (λ t. (t.0, divided g t.1)) terms)
narrow_terms g [] rest e = tt
narrow_terms g (t ∷ terms) rest e = let parts = narrow_first t.1 (map (λ u. u.1) terms ++ rest) e in (divided_narrow g t.1 parts.0, narrow_terms g terms rest parts.1)

divided_rise : (g j : ℕ) (terms : List Term) → RiseFrom j terms → RiseFrom j (map (λ t. (t.0, divided g t.1)) terms)
divided_rise g j [] r = tt
divided_rise g j (t ∷ terms) r = (r.0, divided_rise g (t.0 + 1) terms r.1)

kept_rise : (j : ℕ) (t : Term) (terms : List Term) (kept : Bool) → j ≤ t.0 → RiseFrom (t.0 + 1) terms → RiseFrom j (cond kept (t ∷ terms) terms)
kept_rise j t terms true h r = (h, r)
kept_rise j t terms false h r = rise_lower j (t.0 + 1) terms (omega arith) r

nonzero_rise : (j : ℕ) (terms : List Term) → RiseFrom j terms → RiseFrom j (filter is_nonzero_term terms)
nonzero_rise j [] r = tt
nonzero_rise j (t ∷ terms) r = kept_rise j t (filter is_nonzero_term terms) (is_nonzero_term t) r.0 (nonzero_rise (t.0 + 1) terms r.1)

not_zero : (z : ℤ) → not (int_eq z (pos 0)) ≡ true → z ≡ pos 0 → ⊥
not_zero z h e = true≢false (sym h ∙ ap (λ y. not (int_eq y (pos 0))) e)

kept_coefficients : (t : Term) (terms : List Term) (kept : Bool) → is_nonzero_term t ≡ kept → unsigned_abs t.1 < 2 ^ 127 → AllByRecursion (λ u. IsCoefficient u.1) terms
    → AllByRecursion (λ u. IsCoefficient u.1) (cond kept (t ∷ terms) terms)
kept_coefficients t terms true e h a = (record { not_zero = not_zero t.1 e; narrow = h }, a)
kept_coefficients t terms false e h a = a

nonzero_coefficients : (terms : List Term) → AreNarrow terms → AllByRecursion (λ t. IsCoefficient t.1) (filter is_nonzero_term terms)
nonzero_coefficients [] h = tt
nonzero_coefficients (t ∷ terms) h = kept_coefficients t (filter is_nonzero_term terms) (is_nonzero_term t) refl h.0 (nonzero_coefficients terms h.1)

-- ---- the forms of rows

narrow_choice : (g f : RowForm) (wide : Bool) → cond wide Wide (Form g) ≡ Form f → wide ≡ false
narrow_choice g f true e = cc
narrow_choice g f false e = refl

form_narrow : (kind : RowKind) (n : RowNumbers) (f : RowForm) → row_shape_of kind n ≡ Form f → is_wide_row kind n ≡ false
form_narrow N n f e = cc
form_narrow L n f e = narrow_choice _ f (is_wide_row L n) e
form_narrow G n f e = narrow_choice _ f (is_wide_row G n) e
form_narrow E n f e = narrow_choice _ f (is_wide_row E n) e

pub form_rising : (entries : List (ℕ × Decimal)) (row : Row) (f : RowForm) → RiseFrom 0 entries → row_shape entries row ≡ Form f → IsRising f.coeffs
unfolding row_shape
form_rising entries row f h e =
    let k = row_places entries row in
    let n = scaled_row k entries row in
    let g = gcd_of (row_numbers n) in
    let F : RowForm → Type 0 = λ form. IsRising form.coeffs in
    let wide = sym (list_any-append is_wide_number (row_numbers n) (row_ends row.kind n)) ∙ form_narrow row.kind n f e in
    let narrow = (or_parts (list_any is_wide_number (row_numbers n)) _ wide).0 in
    let terms = (divided_row g n).coeffs in
    let rise = nonzero_rise 0 terms (divided_rise g 0 n.coeffs (scaled_rise 0 k entries h)) in
    subst F (form_is row.kind n f e) (rising_of 0 (filter is_nonzero_term terms) rise (nonzero_coefficients terms (narrow_terms g n.coeffs _ narrow)))

-- ---- the sides

abbrev pub IsRisingSide : Side → Type 0
IsRisingSide s = IsRising s.ineq.terms

lower_rising : (place : Place) (terms : List Term) (b : Option ℤ) → IsRising terms → All IsRisingSide (lower_side place terms b)
lower_rising place terms None h = tt
lower_rising place terms (Some b) h = (h, tt)

upper_rising : (place : Place) (terms : List Term) (b : Option ℤ) → IsRising terms → All IsRisingSide (upper_side place terms b)
upper_rising place terms None h = tt
upper_rising place terms (Some b) h = (negated_rising terms h, tt)

shape_rising : (r : ℕ) (entries : List (ℕ × Decimal)) (row : Row) (shape : RowShape) → RiseFrom 0 entries → row_shape entries row ≡ shape → All IsRisingSide (row_sides r shape)
shape_rising r entries row Free h e = tt
shape_rising r entries row Wide h e = tt
shape_rising r entries row (Form f) h e =
    let terms = form_rising entries row f h e in
    joined IsRisingSide (lower_side (RowPlace r Lower) f.coeffs f.lo) _ (lower_rising (RowPlace r Lower) f.coeffs f.lo terms) (upper_rising (RowPlace r Upper) f.coeffs f.up terms)

rows_rising : (m : Model) (r : ℕ) (rows : List Row) → All IsRisingSide (row_sides_from r (row_shapes_from m r rows))
rows_rising m r [] = tt
rows_rising m r (row ∷ rows) =
    joined IsRisingSide (row_sides r (row_shape (row_entries m r) row)) _
    (shape_rising r (row_entries m r) row (row_shape (row_entries m r) row) (entries_rise r 0 m.cols) refl)
    (rows_rising m (r + 1) rows)

lowest_narrow : (num den : ℤ) (n : ℕ) → unsigned_abs den < n → unsigned_abs (lowest num den).den < n
unfolding lowest
lowest_narrow num den n h = quotient_narrow den (gcd (unsigned_abs num) (unsigned_abs den)) n h

denominator : (d : Decimal) → IsDecimal d → IsCoefficient (bound_of d).den
denominator d h =
    let ten = ten_above (places d) in
    let size = places_size (places d) (places_limit d h) in
    let small : 10 ^ 36 < 2 ^ 127 = lit< tt in
    let above = lowest_positive (scaled (places d) d) (pos (10 ^ places d)) (omega (arith, ints)) in
    record {
      not_zero = λ e. omega (arith, ints, above, e);
      narrow = lowest_narrow (scaled (places d) d) (pos (10 ^ places d)) (2 ^ 127) (omega arith);
    }

lower_bound_rising : (j : ℕ) (d : Option Decimal) → IfSome d IsDecimal → All IsRisingSide (lower_bound_side j d)
lower_bound_rising j None h = tt
lower_bound_rising j (Some d) h = (denominator d h, tt)

upper_bound_rising : (j : ℕ) (d : Option Decimal) → IfSome d IsDecimal → All IsRisingSide (upper_bound_side j d)
upper_bound_rising j None h = tt
upper_bound_rising j (Some d) h = (negated_coefficient (bound_of d).den (denominator d h), tt)

columns_rising : (j : ℕ) (cols : List Column) → AllByRecursion IsDecimalColumn cols → All IsRisingSide (column_sides_from j cols)
columns_rising j [] h = tt
columns_rising j (c ∷ cols) h =
    joined IsRisingSide (column_sides j c) _
    (joined IsRisingSide (lower_bound_side j c.lo) _ (lower_bound_rising j c.lo h.0.lower) (upper_bound_rising j c.up h.0.upper))
    (columns_rising (j + 1) cols h.1)

pub sides_rising : (m : Model) → HasDecimals m → All IsRisingSide (forms_of m).sides
unfolding forms_of
sides_rising m h = joined IsRisingSide (row_sides_from 0 (row_shapes_from m 0 m.rows)) _ (rows_rising m 0 m.rows) (columns_rising 0 m.cols h.columns)
