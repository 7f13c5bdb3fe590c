-- Sides rise in the order of their places, and are found by it.
use Rattle.std.proofs.Common.{◌≡◌, ℕ, zero, suc, ℤ, ◌+◌, ◌*◌, ◌^◌, ◌≤◌, ◌<◌, ◌==◌, ◌&&◌, ap, refl, sym, ◌∙◌, subst, arith, drop, true, false, List, [], ◌∷◌, ◌++◌, length, get_or, inl, inr}
use Rattle.std.specs.Prelude.{Option, Some, None, option_map}
use Rattle.std.specs.List.{AllByRecursion}
use Rattle.std.proofs.lemmas.Bool.{cases_eq, cases_order, cond-false, cond-true, false_from_ne_true}
use Rattle.std.proofs.lemmas.List.{get_or_default}
use Rattle.cgl_num.specs.Decimal.{Decimal}
use Rattle.cgl_model.specs.declared.mip.Column.{Column}
use Rattle.cgl_model.specs.declared.mip.Model.{Model}
use Rattle.cgl_model.specs.declared.places.End.{End}
use Rattle.cgl_model.specs.declared.places.End.TheVariants.{Lower, Upper}
use Rattle.cgl_model.specs.declared.places.Place.{Place}
use Rattle.cgl_model.specs.declared.places.Place.TheVariants.{Row as RowPlace, Bound}
use Rattle.cgl_model.specs.declared.places.Side.{Side}
use Rattle.cgl_model.specs.declared.integer_forms.RowShape.{RowShape}
use Rattle.cgl_model.specs.declared.integer_forms.RowShape.TheVariants.{Free, Wide, Form}
use Rattle.cgl_model.specs.contracts.places.EndPartialEq.TheImpl.{ghosts as ends}
use Rattle.cgl_model.specs.contracts.places.PlacePartialEq.TheImpl.{ghosts as places}
use Rattle.cgl_model.specs.FormList.{same_end, same_place, side_number}
use Rattle.cgl_model.specs.Inequality.{Term}
use Rattle.cgl_model.specs.IntegerForm.{column_sides, column_sides_from, lower_bound_side, lower_side, row_shapes, row_sides, row_sides_from, upper_bound_side, upper_side}
use Rattle.cgl_model.specs.PlaceOrder.{rank, RanksRise}
use Rattle.cgl_model.proofs.FormListLaws.{length_shapes, number_at, plain, same_places}

-- ---- ranks rise

abbrev pub AreRanksBelow : ℕ → List Side → Type 0
AreRanksBelow n sides = AllByRecursion (λ s. rank s.place < n) sides

rise_lower : (n k : ℕ) (sides : List Side) → n ≤ k → RanksRise k sides → RanksRise n sides
rise_lower n k [] h r = tt
rise_lower n k (s ∷ sides) h r = (let first = r.0 in omega arith, r.1)

rise_append : (n k : ℕ) (xs ys : List Side) → n ≤ k → RanksRise n xs → AreRanksBelow k xs → RanksRise k ys → RanksRise n (xs ++ ys)
rise_append n k [] ys h r b t = rise_lower n k ys h t
rise_append n k (x ∷ xs) ys h r b t = (r.0, rise_append (rank x.place + 1) k xs ys (let below = b.0 in omega arith) r.1 b.1 t)

below_append : (k : ℕ) (xs ys : List Side) → AreRanksBelow k xs → AreRanksBelow k ys → AreRanksBelow k (xs ++ ys)
below_append k [] ys a b = b
below_append k (x ∷ xs) ys a b = (a.0, below_append k xs ys a.1 b)

below_higher : (n k : ℕ) (xs : List Side) → n ≤ k → AreRanksBelow n xs → AreRanksBelow k xs
below_higher n k [] h b = tt
below_higher n k (x ∷ xs) h b = (let first = b.0 in omega arith, below_higher n k xs h b.1)

ends_rise : (r : ℕ) (terms : List Term) (lo up : Option ℤ)
    → RanksRise (2 * r) (lower_side (RowPlace r Lower) terms lo ++ upper_side (RowPlace r Upper) terms up) × AreRanksBelow (2 * (r + 1)) (lower_side (RowPlace r Lower) terms lo ++ upper_side (RowPlace r Upper) terms up)
ends_rise r terms None None = (tt, tt)
ends_rise r terms None (Some u) = ((omega arith, tt), (omega arith, tt))
ends_rise r terms (Some l) None = ((omega arith, tt), (omega arith, tt))
ends_rise r terms (Some l) (Some u) = ((omega arith, (omega arith, tt)), (omega arith, (omega arith, tt)))

row_rise : (r : ℕ) (shape : RowShape) → RanksRise (2 * r) (row_sides r shape) × AreRanksBelow (2 * (r + 1)) (row_sides r shape)
row_rise r Free = (tt, tt)
row_rise r Wide = (tt, tt)
row_rise r (Form f) = ends_rise r f.coeffs f.lo f.up

rows_rise : (r : ℕ) (shapes : List RowShape) → RanksRise (2 * r) (row_sides_from r shapes) × AreRanksBelow (2 * (r + length shapes)) (row_sides_from r shapes)
rows_rise r [] = (tt, tt)
rows_rise r (shape ∷ shapes) =
    let first = row_rise r shape in
    let rest = rows_rise (r + 1) shapes in (
      rise_append (2 * r) (2 * (r + 1)) (row_sides r shape) _ (omega arith) first.0 first.1 rest.0,
      below_append _ (row_sides r shape) _ (below_higher (2 * (r + 1)) _ (row_sides r shape) (omega arith) first.1)
          (below_higher (2 * (r + 1 + length shapes)) _ (row_sides_from (r + 1) shapes) (omega arith) rest.1),
    )

bounds_rise : (j : ℕ) (lo up : Option Decimal)
    → RanksRise (2 ^ 33 + 2 * j) (lower_bound_side j lo ++ upper_bound_side j up) × AreRanksBelow (2 ^ 33 + 2 * (j + 1)) (lower_bound_side j lo ++ upper_bound_side j up)
bounds_rise j None None = (tt, tt)
bounds_rise j None (Some u) = ((omega arith, tt), (omega arith, tt))
bounds_rise j (Some l) None = ((omega arith, tt), (omega arith, tt))
bounds_rise j (Some l) (Some u) = ((omega arith, (omega arith, tt)), (omega arith, (omega arith, tt)))

columns_rise : (j : ℕ) (cols : List Column) → RanksRise (2 ^ 33 + 2 * j) (column_sides_from j cols)
columns_rise j [] = tt
columns_rise j (c ∷ cols) =
    let first = bounds_rise j c.lo c.up in
    rise_append (2 ^ 33 + 2 * j) (2 ^ 33 + 2 * (j + 1)) (column_sides j c) _ (omega arith) first.0 first.1 (columns_rise (j + 1) cols)

pub all_sides_rise : (m : Model) (first sides : List Side) (cols : List Column) → length m.rows ≤ 2 ^ 20 → first ≡ row_sides_from 0 (row_shapes m)
    → sides ≡ first ++ column_sides_from 0 cols → RanksRise 0 sides
all_sides_rise m first sides cols h e f =
    let F : List Side → Type 0 = RanksRise 0 in
    let rows = rows_rise 0 (row_shapes m) in
    let count = length_shapes m 0 m.rows in
    let is : sides ≡ row_sides_from 0 (row_shapes m) ++ column_sides_from 0 cols = f ∙ ap (λ s. s ++ column_sides_from 0 cols) e in
    subst F (sym is)
    (rise_append 0 (2 ^ 33) (row_sides_from 0 (row_shapes m)) (column_sides_from 0 cols) (omega arith)
    (rise_lower 0 (2 * 0) _ (omega arith) rows.0)
    (below_higher (2 * (0 + length (row_shapes m))) (2 ^ 33) _ (omega (arith, count)) rows.1)
    (rise_lower (2 ^ 33) (2 ^ 33 + 2 * 0) _ (omega arith) (columns_rise 0 cols)))

-- ---- ranks by index

rank_least : (n : ℕ) (sides : List Side) (k : ℕ) (d : Side) → RanksRise n sides → k < length sides → n ≤ rank (get_or sides k d).place
rank_least n [] k d r h = absurd (omega arith)
rank_least n (s ∷ sides) zero d r h = r.0
rank_least n (s ∷ sides) (suc k) d r h = let rest = rank_least (rank s.place + 1) sides k d r.1 (omega arith) in let first = r.0 in omega arith

-- a later side has a higher rank
pub rank_less : (n : ℕ) (sides : List Side) (i k : ℕ) (d : Side) → RanksRise n sides → i < k → k < length sides → rank (get_or sides i d).place < rank (get_or sides k d).place
rank_less n [] i k d r h l = absurd (omega arith)
rank_less n (s ∷ sides) i zero d r h l = absurd (omega arith)
rank_less n (s ∷ sides) zero (suc k) d r h l = let rest = rank_least (rank s.place + 1) sides k d r.1 (omega arith) in omega arith
rank_less n (s ∷ sides) (suc i) (suc k) d r h l = rank_less (rank s.place + 1) sides i k d r.1 (omega arith) (omega arith)

-- ---- the number of a side

equal_end : (e f : End) → ends.eq e f ≡ same_end e f
equal_end Lower Lower = refl
equal_end Lower Upper = refl
equal_end Upper Lower = refl
equal_end Upper Upper = refl

-- what `==` says of places
pub equal_place : (a b : Place) → places.eq a b ≡ same_place a b
equal_place (RowPlace r e) (RowPlace s f) = ap (λ same. r == s && same) (equal_end e f)
equal_place (RowPlace r e) (Bound j f) = refl
equal_place (Bound j e) (RowPlace r f) = refl
equal_place (Bound j e) (Bound k f) = ap (λ same. j == k && same) (equal_end e f)

same_rank : (a b : Place) → same_place a b ≡ true → rank a ≡ rank b
same_rank a b h = ap rank (same_places a b h)

apart : (place other : Place) → (rank place ≡ rank other → ⊥) → same_place place other ≡ false
apart place other h = false_from_ne_true _ (λ e. h (same_rank place other e))

more : (i : ℕ) (o : Option ℕ) → option_map (λ n. n + 1) (option_map (λ n. n + i) o) ≡ option_map (λ n. n + suc i) o
more i None = refl
more i (Some n) = ap Some (omega arith)

-- sides of lower ranks are passed
passed : (place : Place) (sides : List Side) (i : ℕ) → i ≤ length sides → ((k : ℕ) (d : Side) → k < i → rank (get_or sides k d).place < rank place)
    → side_number place sides ≡ option_map (λ n. n + i) (side_number place (drop i sides))
passed place sides zero h before = sym (plain (side_number place sides))
passed place [] (suc i) h before = absurd (omega arith)
passed place (s ∷ sides) (suc i) h before =
    let first = before 0 s (omega arith) in
    cond-false (same_place place s.place) (Some 0) _ (apart place s.place (λ e. omega arith))
    ∙ ap (option_map (λ n. n + 1)) (passed place sides i (omega arith) (λ k d l. before (suc k) d (omega arith)))
    ∙ more i (side_number place (drop i sides))

-- no side has the rank
none_of : (place : Place) (sides : List Side) → ((k : ℕ) (d : Side) → k < length sides → same_place place (get_or sides k d).place ≡ false) → side_number place sides ≡ None
none_of place [] h = refl
none_of place (s ∷ sides) h =
    cond-false (same_place place s.place) (Some 0) _ (h 0 s (omega arith)) ∙ ap (option_map (λ n. n + 1)) (none_of place sides (λ k d l. h (suc k) d (omega arith)))

pub searched : (place : Place) (sides : List Side) (i : ℕ) (s : Side) → i < length sides → s ≡ get_or sides i s → ((k : ℕ) (d : Side) → k < i → rank (get_or sides k d).place < rank place)
    → same_place place s.place ≡ true → Some i ≡ side_number place sides
searched place sides i s h is before here =
    sym (passed place sides i (omega arith) before ∙ ap (option_map (λ n. n + i)) (number_at place sides i s h is ∙ cond-true (same_place place s.place) (Some 0) _ here) ∙ ap Some (omega arith))

-- past the last one
pub searched_all : (place : Place) (sides : List Side) (i : ℕ) → length sides ≤ i → ((k : ℕ) (d : Side) → k < i → rank (get_or sides k d).place < rank place) → None ≡ side_number place sides
searched_all place sides i h before =
    sym (none_of place sides (λ k d l. let low = before k d (omega arith) in apart place (get_or sides k d).place (λ e. omega arith)))

apart_at : (place : Place) (sides : List Side) (i : ℕ) (s : Side) → RanksRise 0 sides → i < length sides → s ≡ get_or sides i s
    → ((k : ℕ) (d : Side) → k < i → rank (get_or sides k d).place < rank place) → rank place ≤ rank s.place → same_place place s.place ≡ false
    → (k : ℕ) (d : Side) → k < length sides → same_place place (get_or sides k d).place ≡ false
apart_at place sides i s r h is before least other k d l =
    let F : Side → Type 0 = λ t. rank place ≤ rank t.place in
    let G : Side → Type 0 = λ t. same_place place t.place ≡ false in
    let at_i : rank place ≤ rank (get_or sides i d).place = subst F (is ∙ get_or_default sides i s d h) least in
    elim (cases_order k i) [
      | inl same ↦
          let H : ℕ → Type 0 = λ n. same_place place (get_or sides n d).place ≡ false in
          subst H (sym same) (subst G (is ∙ get_or_default sides i s d h) other)
      | inr sides_of ↦ elim sides_of [
        | inl low ↦ let below = before k d low in apart place (get_or sides k d).place (λ e. omega arith)
        | inr high ↦ let above = rank_less 0 sides i k d r high l in apart place (get_or sides k d).place (λ e. omega arith)
      ]
    ]

-- the first side that is not below has another place
pub searched_apart : (place : Place) (sides : List Side) (i : ℕ) (s : Side) → RanksRise 0 sides → i < length sides → s ≡ get_or sides i s
    → ((k : ℕ) (d : Side) → k < i → rank (get_or sides k d).place < rank place) → rank place ≤ rank s.place → same_place place s.place ≡ false → None ≡ side_number place sides
searched_apart place sides i s r h is before least other =
    sym (none_of place sides (λ k d l. apart_at place sides i s r h is before least other k d l))

-- ---- steps of the search

rank_order : (sides : List Side) (k m : ℕ) (d : Side) → RanksRise 0 sides → k ≤ m → m < length sides → rank (get_or sides k d).place ≤ rank (get_or sides m d).place
rank_order sides k m d r h l =
    elim (cases_eq k m) [
      | inl same ↦ let is = ap (λ n. rank (get_or sides n d).place) same in omega arith
      | inr apart_of ↦ let less = rank_less 0 sides k m d r (omega arith) l in omega arith
    ]

pub before_middle : (sides : List Side) (m target : ℕ) (e : Side) → RanksRise 0 sides → m < length sides → rank (get_or sides m e).place < target
    → (k : ℕ) (d : Side) → k < m + 1 → rank (get_or sides k d).place < target
before_middle sides m target e r l h k d below =
    let same = ap (λ t. rank t.place) (get_or_default sides m e d l) in
    let order = rank_order sides k m d r (omega arith) l in
    omega arith

pub after_middle : (sides : List Side) (m target : ℕ) (e : Side) → RanksRise 0 sides → m < length sides → target ≤ rank (get_or sides m e).place
    → (k : ℕ) (d : Side) → m ≤ k → k < length sides → target ≤ rank (get_or sides k d).place
after_middle sides m target e r l h k d above within =
    let same = ap (λ t. rank t.place) (get_or_default sides m e d l) in
    let order = rank_order sides m k d r above within in
    omega arith
