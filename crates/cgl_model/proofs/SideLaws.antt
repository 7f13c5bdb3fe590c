-- What sides mean: each is met exactly where its end is met.
use Rattle.std.proofs.Common.{◌≡◌, ℕ, zero, suc, ℤ, pos, ◌+◌, ◌-◌, ◌*◌, ◌^◌, ◌≤◌, ◌<◌, ◌==◌, ap, refl, sym, ◌∙◌, subst, arith, Bool, true, false, cond, List, [], ◌∷◌, ◌++◌}
use Rattle.std.specs.Prelude.{◌+ℤ◌, ◌*ℤ◌, ◌≤ℤ◌, ◌<ℤ◌, ◌↔◌, unsigned_abs, Option, Some, None, option_map, slice_get, find}
use Rattle.std.specs.List.{AllByRecursion}
use Rattle.std.specs.Option.{IfSome}
use Rattle.std.proofs.lemmas.Int.{ints}
use Rattle.std.proofs.Math.IntN.{neg_ℤ}
use Rattle.std.proofs.Math.Nat.{one-le-pow}
use Rattle.std.proofs.lemmas.Nat.{mul-le, pow-add}
use Rattle.cgl_num.specs.IntegerLaws.{*ℤ_assoc, neg-*ℤ, scale_right, cancel_right}
use Rattle.cgl_num.specs.Decimal.{Decimal, IsDecimal, scaled, places}
use Rattle.cgl_num.specs.Fraction.{Fraction, lowest}
use Rattle.cgl_num.specs.Gcd.{gcd}
use Rattle.cgl_num.proofs.GcdLaws.{gcd_is, gcd_above}
use Rattle.cgl_num.proofs.FractionLaws.{exact_quotient}
use Rattle.cgl_model.specs.declared.mip.Row.{Row}
use Rattle.cgl_model.specs.declared.mip.Column.{Column}
use Rattle.cgl_model.specs.declared.mip.Model.{Model}
use Rattle.cgl_model.specs.declared.places.End.TheVariants.{Lower, Upper}
use Rattle.cgl_model.specs.declared.places.Place.{Place}
use Rattle.cgl_model.specs.declared.places.Place.TheVariants.{Row as RowPlace, Bound}
use Rattle.cgl_model.specs.declared.places.Side.{Side}
use Rattle.cgl_model.specs.declared.integer_forms.RowForm.{RowForm}
use Rattle.cgl_model.specs.declared.integer_forms.RowShape.{RowShape}
use Rattle.cgl_model.specs.declared.integer_forms.RowShape.TheVariants.{Free, Wide, Form}
use Rattle.cgl_model.specs.HasDecimals.{HasDecimals, IsDecimalRow, IsDecimalColumn}
use Rattle.cgl_model.specs.Point.{Point, number_at}
use Rattle.cgl_model.specs.Inequality.{Term, Meets, sum_at}
use Rattle.cgl_model.specs.RowEntries.{entry_at, onto_entries, row_entries_from, row_entries}
use Rattle.cgl_model.specs.Feasible.{IsAtLeast, IsAtMost, weight, IsFeasible, MeetsLowerEnd, MeetsUpperEnd, MeetsLowerBound, MeetsUpperBound, MeetsEnd, MeansItsEnd}
use Rattle.cgl_model.specs.IntegerForm.{bound_of, column_sides, column_sides_from, forms_of, lower_bound_side, lower_side, negated, row_shape, row_shapes_from, row_sides, row_sides_from, upper_bound_side, upper_side}
use Rattle.cgl_model.proofs.ScaleLaws.{places_limit, scaled_more, sum_negated, times, turned}
use Rattle.cgl_model.proofs.RowLaws.{back, row_lower, row_upper, through}

-- ---- lists of which each item has a property

abbrev pub All : (Side → Type 0) → List Side → Type 0
All P sides = AllByRecursion P sides

pub joined : (P : Side → Type 0) (s t : List Side) → All P s → All P t → All P (s ++ t)
joined P [] t h k = k
joined P (a ∷ s) t h k = (h.0, joined P s t h.1 k)

pub weaker : (P Q : Side → Type 0) → ((s : Side) → P s → Q s) → (s : List Side) → All P s → All Q s
weaker P Q f [] h = tt
weaker P Q f (a ∷ s) h = (f a h.0, weaker P Q f s h.1)

-- ---- the coefficients of a row are decimals

found_decimal : (r : ℕ) (e : ℕ × Decimal) (entries : List (ℕ × Decimal)) (here : Bool) → IsDecimal e.1 → IfSome (entry_at r entries) IsDecimal
    → IfSome (option_map (λ f. f.1) (cond here (Some e) (find (λ f. r == f.0) entries))) IsDecimal
found_decimal r e entries true h k = h
found_decimal r e entries false h k = k

entry_decimal : (r : ℕ) (entries : List (ℕ × Decimal)) → AllByRecursion (λ e. IsDecimal e.1) entries → IfSome (entry_at r entries) IsDecimal
entry_decimal r [] h = tt
entry_decimal r (e ∷ entries) h = found_decimal r e entries (r == e.0) h.0 (entry_decimal r entries h.1)

onto_decimal : (j : ℕ) (d : Option Decimal) (entries : List (ℕ × Decimal)) → IfSome d IsDecimal → AllByRecursion (λ e. IsDecimal e.1) entries
    → AllByRecursion (λ e. IsDecimal e.1) (onto_entries j d entries)
onto_decimal j None entries h k = k
onto_decimal j (Some d) entries h k = (h, k)

row_decimal : (r j : ℕ) (cols : List Column) → AllByRecursion IsDecimalColumn cols → AllByRecursion (λ e. IsDecimal e.1) (row_entries_from r j cols)
row_decimal r j [] h = tt
row_decimal r j (c ∷ cols) h = onto_decimal j (entry_at r c.entries) _ (entry_decimal r c.entries h.0.entries) (row_decimal r (j + 1) cols h.1)

-- ---- an end and its side

at_some : {A : Type 0} (o : Option A) (a : A) (P : A → Type 0) → o ≡ Some a → IfSome o P ↔ P a
at_some o a P e =
    let F : Option _ → Type 0 = λ p. IfSome p P ↔ P a in
    subst F (sym e) (λ h. h, λ h. h)

lower_means : (m : Model) (x : Point) (r : ℕ) (row : Row) (terms : List Term) (b : Option ℤ) → slice_get m.rows r ≡ Some row
    → MeetsLowerEnd m x r row ↔ IsAtLeast b x.d (sum_at x.p terms) → All (MeansItsEnd m x) (lower_side (RowPlace r Lower) terms b)
lower_means m x r row terms None e law = tt
lower_means m x r row terms (Some b) e law = (back (through (at_some (slice_get m.rows r) row (MeetsLowerEnd m x r) e) law), tt)

turned_over : (p : List ℤ) (q b : ℤ) (terms : List Term) → (sum_at p terms ≤ℤ (b *ℤ q)) ↔ ((neg_ℤ b *ℤ q) ≤ℤ sum_at p (negated terms))
turned_over p q b terms =
    let minus = neg-*ℤ b q in
    let sum = sum_negated p terms in
    (λ h. omega (arith, ints, h, minus, sum), λ h. omega (arith, ints, h, minus, sum))

upper_means : (m : Model) (x : Point) (r : ℕ) (row : Row) (terms : List Term) (b : Option ℤ) → slice_get m.rows r ≡ Some row
    → MeetsUpperEnd m x r row ↔ IsAtMost b x.d (sum_at x.p terms) → All (MeansItsEnd m x) (upper_side (RowPlace r Upper) terms b)
upper_means m x r row terms None e law = tt
upper_means m x r row terms (Some b) e law =
    (back (through (at_some (slice_get m.rows r) row (MeetsUpperEnd m x r) e) (through law (turned_over x.p x.d b terms))), tt)

-- ---- rows

shape_means : (m : Model) (x : Point) (r : ℕ) (row : Row) (shape : RowShape) → slice_get m.rows r ≡ Some row → AllByRecursion (λ e. IsDecimal e.1) (row_entries m r) → IsDecimalRow row
    → row_shape (row_entries m r) row ≡ shape → All (MeansItsEnd m x) (row_sides r shape)
shape_means m x r row Free e a b is = tt
shape_means m x r row Wide e a b is = tt
shape_means m x r row (Form f) e a b is =
    joined (MeansItsEnd m x) (lower_side (RowPlace r Lower) f.coeffs f.lo) _
    (lower_means m x r row f.coeffs f.lo e (row_lower (row_entries m r) row f x.p x.d a b is))
    (upper_means m x r row f.coeffs f.up e (row_upper (row_entries m r) row f x.p x.d a b is))

-- the list is that of the model from r on
abbrev pub RowsFrom : Model → ℕ → List Row → Type 0
RowsFrom m r rows = (i : ℕ) (row : Row) → slice_get rows i ≡ Some row → slice_get m.rows (r + i) ≡ Some row

first_row : (m : Model) (r : ℕ) (row : Row) (rows : List Row) → RowsFrom m r (row ∷ rows) → slice_get m.rows r ≡ Some row
first_row m r row rows from = let F : ℕ → Type 0 = λ n. slice_get m.rows n ≡ Some row in subst F (omega arith) (from 0 row refl)

next_rows : (m : Model) (r : ℕ) (row : Row) (rows : List Row) → RowsFrom m r (row ∷ rows) → RowsFrom m (r + 1) rows
next_rows m r row rows from i other e = let F : ℕ → Type 0 = λ n. slice_get m.rows n ≡ Some other in subst F (omega arith) (from (suc i) other e)

rows_mean : (m : Model) (x : Point) (r : ℕ) (rows : List Row) → HasDecimals m → RowsFrom m r rows → AllByRecursion IsDecimalRow rows
    → All (MeansItsEnd m x) (row_sides_from r (row_shapes_from m r rows))
rows_mean m x r [] h from a = tt
rows_mean m x r (row ∷ rows) h from a =
    joined (MeansItsEnd m x) (row_sides r (row_shape (row_entries m r) row)) _
    (shape_means m x r row (row_shape (row_entries m r) row) (first_row m r row rows from) (row_decimal r 0 m.cols h.columns) a.0 refl)
    (rows_mean m x (r + 1) rows h (next_rows m r row rows from) a.1)

-- ---- bounds

-- both numbers are those in lowest terms times one number above 0
record AreTimes (n d : ℤ) (f : Fraction) : Type 0 where
  by : ℕ
  above : 0 < by
  num : n ≡ times by f.num
  den : d ≡ times by f.den

lowest_times : (n d : ℤ) → pos 0 <ℤ d → AreTimes n d (lowest n d)
unfolding lowest
lowest_times n d h =
    let g = gcd (unsigned_abs n) (unsigned_abs d) in
    let is = gcd_is (unsigned_abs n) (unsigned_abs d) in
    record {
      by = g;
      above = gcd_above (unsigned_abs n) (unsigned_abs d) (omega (arith, ints, h));
      num = sym (exact_quotient n g is.0);
      den = sym (exact_quotient d g is.1);
    }

times_twice : (c g : ℕ) (z : ℤ) → times c (times g z) ≡ times (g * c) z
times_twice c g z = *ℤ_assoc z (pos g) (pos c)

bound_times : (d : Decimal) → IsDecimal d → AreTimes (weight d) (pos (10 ^ 30)) (bound_of d)
bound_times d h =
    let k = places d in
    let limit : k ≤ 30 = places_limit d h in
    let c = 10 ^ (30 - k) in
    let ten : (n : ℕ) → 0 < 10 ^ n = λ n. one-le-pow n 10 (omega arith) in
    let parts = lowest_times (scaled k d) (pos (10 ^ k)) (let above = ten k in omega (arith, ints, above)) in
    let whole : 10 ^ 30 ≡ 10 ^ k * c = ap (λ n. 10 ^ n) (let parts : 30 ≡ k + (30 - k) = omega arith in parts) ∙ pow-add 10 k (30 - k) in
    record {
      by = parts.by * c;
      above = let product : 1 * 1 ≤ parts.by * c = mul-le 1 1 parts.by c parts.above (ten (30 - k)) in omega (arith, product);
      num = scaled_more k d (omega arith) limit ∙ ap (times c) parts.num ∙ times_twice c parts.by (bound_of d).num;
      den = ap pos whole ∙ ap (times c) parts.den ∙ times_twice c parts.by (bound_of d).den;
    }

below_times : (g : ℕ) (num den q x : ℤ) → 0 < g → ((times g num *ℤ q) ≤ℤ (times g den *ℤ x)) ↔ ((num *ℤ q) ≤ℤ (den *ℤ x +ℤ pos 0))
below_times g num den q x h =
    let left = turned num q g in
    let right = turned den x g in (
      λ e. let e' = cancel_right (num *ℤ q) (den *ℤ x) g h (rw (left, right) at e) in omega (arith, ints, e'),
      λ e. let e' : (num *ℤ q) ≤ℤ (den *ℤ x) = omega (arith, ints, e) in rw (left, right) (scale_right (num *ℤ q) (den *ℤ x) g e'),
    )

above_times : (g : ℕ) (num den q x : ℤ) → 0 < g → ((times g den *ℤ x) ≤ℤ (times g num *ℤ q)) ↔ ((neg_ℤ num *ℤ q) ≤ℤ (neg_ℤ den *ℤ x +ℤ pos 0))
above_times g num den q x h =
    let left = turned num q g in
    let right = turned den x g in
    let minus = neg-*ℤ num q in
    let less = neg-*ℤ den x in (
      λ e. let e' = cancel_right (den *ℤ x) (num *ℤ q) g h (rw (left, right) at e) in omega (arith, ints, e', minus, less),
      λ e. let e' : (den *ℤ x) ≤ℤ (num *ℤ q) = omega (arith, ints, e, minus, less) in rw (left, right) (scale_right (den *ℤ x) (num *ℤ q) g e'),
    )

bound_lower : (d : Decimal) (q x : ℤ) → IsDecimal d → ((weight d *ℤ q) ≤ℤ (pos (10 ^ 30) *ℤ x)) ↔ (((bound_of d).num *ℤ q) ≤ℤ ((bound_of d).den *ℤ x +ℤ pos 0))
bound_lower d q x h =
    let t = bound_times d h in
    let F : ℤ → ℤ → Type 0 = λ w ten. ((w *ℤ q) ≤ℤ (ten *ℤ x)) ↔ (((bound_of d).num *ℤ q) ≤ℤ ((bound_of d).den *ℤ x +ℤ pos 0)) in
    subst (λ w. F w (pos (10 ^ 30))) (sym t.num) (subst (λ ten. F (times t.by (bound_of d).num) ten) (sym t.den) (below_times t.by (bound_of d).num (bound_of d).den q x t.above))

bound_upper : (d : Decimal) (q x : ℤ) → IsDecimal d → ((pos (10 ^ 30) *ℤ x) ≤ℤ (weight d *ℤ q)) ↔ ((neg_ℤ (bound_of d).num *ℤ q) ≤ℤ (neg_ℤ (bound_of d).den *ℤ x +ℤ pos 0))
bound_upper d q x h =
    let t = bound_times d h in
    let F : ℤ → ℤ → Type 0 = λ w ten. ((ten *ℤ x) ≤ℤ (w *ℤ q)) ↔ ((neg_ℤ (bound_of d).num *ℤ q) ≤ℤ (neg_ℤ (bound_of d).den *ℤ x +ℤ pos 0)) in
    subst (λ w. F w (pos (10 ^ 30))) (sym t.num) (subst (λ ten. F (times t.by (bound_of d).num) ten) (sym t.den) (above_times t.by (bound_of d).num (bound_of d).den q x t.above))

lower_bound_means : (m : Model) (x : Point) (j : ℕ) (c : Column) (d : Option Decimal) → slice_get m.cols j ≡ Some c → c.lo ≡ d → IfSome d IsDecimal
    → All (MeansItsEnd m x) (lower_bound_side j d)
lower_bound_means m x j c None e is h = tt
lower_bound_means m x j c (Some d) e is h =
    let F : Option Decimal → Type 0 = λ o. IsAtLeast (option_map weight o) x.d (pos (10 ^ 30) *ℤ number_at x.p j) ↔ (((bound_of d).num *ℤ x.d) ≤ℤ ((bound_of d).den *ℤ number_at x.p j +ℤ pos 0)) in
    (back (through (at_some (slice_get m.cols j) c (MeetsLowerBound x j) e) (subst F (sym is) (bound_lower d x.d (number_at x.p j) h))), tt)

upper_bound_means : (m : Model) (x : Point) (j : ℕ) (c : Column) (d : Option Decimal) → slice_get m.cols j ≡ Some c → c.up ≡ d → IfSome d IsDecimal
    → All (MeansItsEnd m x) (upper_bound_side j d)
upper_bound_means m x j c None e is h = tt
upper_bound_means m x j c (Some d) e is h =
    let F : Option Decimal → Type 0 = λ o. IsAtMost (option_map weight o) x.d (pos (10 ^ 30) *ℤ number_at x.p j) ↔ ((neg_ℤ (bound_of d).num *ℤ x.d) ≤ℤ (neg_ℤ (bound_of d).den *ℤ number_at x.p j +ℤ pos 0)) in
    (back (through (at_some (slice_get m.cols j) c (MeetsUpperBound x j) e) (subst F (sym is) (bound_upper d x.d (number_at x.p j) h))), tt)

-- the list is that of the model from j on
abbrev pub ColumnsFrom : Model → ℕ → List Column → Type 0
ColumnsFrom m j cols = (i : ℕ) (c : Column) → slice_get cols i ≡ Some c → slice_get m.cols (j + i) ≡ Some c

first_column : (m : Model) (j : ℕ) (c : Column) (cols : List Column) → ColumnsFrom m j (c ∷ cols) → slice_get m.cols j ≡ Some c
first_column m j c cols from = let F : ℕ → Type 0 = λ n. slice_get m.cols n ≡ Some c in subst F (omega arith) (from 0 c refl)

next_columns : (m : Model) (j : ℕ) (c : Column) (cols : List Column) → ColumnsFrom m j (c ∷ cols) → ColumnsFrom m (j + 1) cols
next_columns m j c cols from i other e = let F : ℕ → Type 0 = λ n. slice_get m.cols n ≡ Some other in subst F (omega arith) (from (suc i) other e)

columns_mean : (m : Model) (x : Point) (j : ℕ) (cols : List Column) → ColumnsFrom m j cols → AllByRecursion IsDecimalColumn cols
    → All (MeansItsEnd m x) (column_sides_from j cols)
columns_mean m x j [] from a = tt
columns_mean m x j (c ∷ cols) from a =
    let here = first_column m j c cols from in
    joined (MeansItsEnd m x) (column_sides j c) _
    (joined (MeansItsEnd m x) (lower_bound_side j c.lo) _ (lower_bound_means m x j c c.lo here refl a.0.lower) (upper_bound_means m x j c c.up here refl a.0.upper))
    (columns_mean m x (j + 1) cols (next_columns m j c cols from) a.1)

-- ---- all sides

from_start : {A : Type 0} (xs : List A) (i : ℕ) (a : A) → slice_get xs i ≡ Some a → slice_get xs (0 + i) ≡ Some a
from_start xs i a e = let F : ℕ → Type 0 = λ n. slice_get xs n ≡ Some a in subst F (omega arith) e

pub sides_mean : (m : Model) (x : Point) → HasDecimals m → All (MeansItsEnd m x) (forms_of m).sides
unfolding forms_of
sides_mean m x h =
    joined (MeansItsEnd m x) (row_sides_from 0 (row_shapes_from m 0 m.rows)) _
    (rows_mean m x 0 m.rows h (from_start m.rows) h.rows) (columns_mean m x 0 m.cols (from_start m.cols) h.columns)

if_some : {A : Type 0} (o : Option A) (P : A → Type 0) → ((a : A) → o ≡ Some a → P a) → IfSome o P
if_some None P f = tt
if_some (Some a) P f = f a refl

pub feasible_end : (m : Model) (x : Point) (place : Place) → IsFeasible m x → MeetsEnd m x place
feasible_end m x (RowPlace r Lower) h = if_some (slice_get m.rows r) _ (λ row e. (h.rows r row e).lower)
feasible_end m x (RowPlace r Upper) h = if_some (slice_get m.rows r) _ (λ row e. (h.rows r row e).upper)
feasible_end m x (Bound j Lower) h = if_some (slice_get m.cols j) _ (λ c e. (h.bounds j c e).lower)
feasible_end m x (Bound j Upper) h = if_some (slice_get m.cols j) _ (λ c e. (h.bounds j c e).upper)

pub feasible_sides : (m : Model) (x : Point) → HasDecimals m → IsFeasible m x → All (λ s. Meets x s.ineq) (forms_of m).sides
feasible_sides m x h f = weaker (MeansItsEnd m x) (λ s. Meets x s.ineq) (λ s law. law.1 (feasible_end m x s.place f)) (forms_of m).sides (sides_mean m x h)

pub lower_meaning : (m : Model) (x : Point) (r : ℕ) (row : Row) (f : RowForm) → HasDecimals m → IsDecimalRow row → row_shape (row_entries m r) row ≡ Form f
    → MeetsLowerEnd m x r row ↔ IsAtLeast f.lo x.d (sum_at x.p f.coeffs)
lower_meaning m x r row f h a e = row_lower (row_entries m r) row f x.p x.d (row_decimal r 0 m.cols h.columns) a e

pub upper_meaning : (m : Model) (x : Point) (r : ℕ) (row : Row) (f : RowForm) → HasDecimals m → IsDecimalRow row → row_shape (row_entries m r) row ≡ Form f
    → MeetsUpperEnd m x r row ↔ IsAtMost f.up x.d (sum_at x.p f.coeffs)
upper_meaning m x r row f h a e = row_upper (row_entries m r) row f x.p x.d (row_decimal r 0 m.cols h.columns) a e

pub row_of : (rows : List Row) (r : ℕ) (row : Row) → AllByRecursion IsDecimalRow rows → slice_get rows r ≡ Some row → IsDecimalRow row
row_of [] r row h e = cc
row_of (first ∷ rows) zero row h e = let F : Row → Type 0 = IsDecimalRow in let same : first ≡ row = cc in subst F same h.0
row_of (first ∷ rows) (suc r) row h e = row_of rows r row h.1 e
