-- Extended models: their parts, their sizes and their points.
use Rattle.std.proofs.Common.{◌≡◌, List, ℕ, pos, ◌+◌, ◌-◌, ◌^◌, ◌<◌, ◌≤◌, ◌++◌, length, map, ap, refl, sym, ◌∙◌, Bool, true, false, None, Some, inl, inr, arith, subst, cond, ◌&&◌, option_map, is_some, nat_le, not, length-append}
use Rattle.std.specs.Prelude.{◌*ℤ◌, ◌≤ℤ◌}
use Rattle.std.specs.List.{list_all, AllByRecursion, position, slice_get, zip}
use Rattle.std.proofs.lemmas.Bool.{and_parts, leb-true, cases_lt, not-true}
use Rattle.std.proofs.lemmas.List.{length-map}
use Rattle.std.proofs.lemmas.Option.{slice_get_within}
use Rattle.std.proofs.lemmas.Slice.Zip.{length-zip}
use Rattle.cgl_num.specs.Decimal.{decimal_of}
use Rattle.cgl_model.specs.declared.linear.Ineq.{Ineq}
use Rattle.cgl_model.specs.declared.mip.Column.{Column}
use Rattle.cgl_model.specs.declared.mip.Model.{Model}
use Rattle.cgl_model.specs.declared.mip.Row.{Row}
use Rattle.cgl_model.specs.Ends.{lower_end, upper_end}
use Rattle.cgl_model.specs.Feasible.{IsAtLeast, IsAtMost, IsFeasible, MeetsBounds, MeetsRow, SamePoints, row_sum, weight, weight_term}
use Rattle.cgl_model.specs.Inequality.{Meets, sum_at}
use Rattle.cgl_model.specs.Point.{Point}
use Rattle.cgl_model.specs.Rising.{IsRising}
use Rattle.cgl_model.specs.RowEntries.{row_entries}
use Rattle.cgl_model.specs.Valid.{IsSized}
use Rattle.cgl_deck.specs.CutNames.{cut_names}
use Rattle.cgl_deck.specs.Extended.{AreInRows, AreMet, AreRising, IsTooMany, cut_row, decimal_or_zero, decimal_terms, entry_count, extended, extended_column, is_decimal, is_known, is_within_sizes, term_count, with_rows}
use Rattle.cgl_deck.proofs.EntryLaws.{new_row, old_row_from}
use Rattle.cgl_deck.proofs.ListLaws.{one_fails}
use Rattle.cgl_deck.proofs.PlaceLaws.{IsCutRow, IsMapped, column_at, cut_row_at, each_at, get_back, get_front, mapped_some, passes_at}
use Rattle.cgl_deck.proofs.PointLaws.{cut_met, sum_scaled, weight-is}
use Rattle.cgl_deck.proofs.SizeLaws.{columns_length, extended_few}

pub record IsExtension (m : Model) (cuts : List Ineq) (n : Model) : Type 0 where
  pub known : list_all (is_known m) cuts ≡ true
  pub decimal : list_all is_decimal cuts ≡ true
  pub sizes : is_within_sizes m cuts ≡ true
  pub is : with_rows m cuts ≡ n

given : (a b c : Bool) (d n : Model) → cond (a && b && c) (Some d) None ≡ Some n → (a ≡ true) × (b ≡ true) × (c ≡ true) × (d ≡ n)
given true true true d n h = (refl, refl, refl, cc)
given true true false d n h = absurd (cc)
given true false c d n h = absurd (cc)
given false b c d n h = absurd (cc)

pub extension_of : (m : Model) (cuts : List Ineq) (n : Model) → extended m cuts ≡ Some n → IsExtension m cuts n
unfolding extended
extension_of m cuts n h =
    let parts = given (list_all (is_known m) cuts) (list_all is_decimal cuts) (is_within_sizes m cuts) (with_rows m cuts) n h in
    record { known = parts.0; decimal = parts.1; sizes = parts.2; is = parts.3 }

-- where no cause of a refusal stands
pub extension_stands : (m : Model) (cuts : List Ineq) → list_all (is_known m) cuts ≡ true → list_all is_decimal cuts ≡ true → is_within_sizes m cuts ≡ true
    → extended m cuts ≡ Some (with_rows m cuts)
unfolding extended
extension_stands m cuts known decimal sizes = rw (known, decimal, sizes) refl

pub rows_of_extension : (m n : Model) (cuts : List Ineq) → extended m cuts ≡ Some n → n.rows ≡ m.rows ++ map cut_row (zip (cut_names m (length cuts)) cuts)
rows_of_extension m n cuts h = ap (λ (v : Model). v.rows) (sym (extension_of m cuts n h).is)

pub columns_of_extension : (m n : Model) (cuts : List Ineq) → extended m cuts ≡ Some n → (j : ℕ) → slice_get n.cols j ≡ option_map (extended_column (length m.rows) j cuts) (slice_get m.cols j)
columns_of_extension m n cuts h j =
    ap (λ (v : Model). slice_get v.cols j) (sym (extension_of m cuts n h).is) ∙ column_at (length m.rows) 0 j j cuts m.cols (omega arith)

pub column_count_of_extension : (m n : Model) (cuts : List Ineq) → extended m cuts ≡ Some n → length n.cols ≡ length m.cols
column_count_of_extension m n cuts h = ap (λ (v : Model). length v.cols) (sym (extension_of m cuts n h).is) ∙ columns_length (length m.rows) 0 cuts m.cols

pub with_rows_few : (m : Model) (cuts : List Ineq) → is_within_sizes m cuts ≡ true → length m.rows + length cuts ≤ 2 ^ 20
with_rows_few m cuts h =
    leb-true _ _ (and_parts (nat_le (length m.rows + length cuts) (2 ^ 20)) (nat_le (entry_count m + term_count cuts) (2 ^ 22)) h).0

pub with_rows_sized : (m : Model) (cuts : List Ineq) → is_within_sizes m cuts ≡ true → IsSized m → IsSized (with_rows m cuts)
with_rows_sized m cuts h sized =
    let parts = and_parts (nat_le (length m.rows + length cuts) (2 ^ 20)) (nat_le (entry_count m + term_count cuts) (2 ^ 22)) h in
    let rows : length m.rows + length cuts ≤ 2 ^ 20 = leb-true _ _ parts.0 in
    let entries : entry_count m + term_count cuts ≤ 2 ^ 22 = leb-true _ _ parts.1 in
    let added = map cut_row (zip (cut_names m (length cuts)) cuts) in
    let all : length (m.rows ++ added) ≡ length m.rows + length added = length-append m.rows added in
    let named : length added ≡ length (zip (cut_names m (length cuts)) cuts) = length-map (zip (cut_names m (length cuts)) cuts) cut_row in
    let zipped = length-zip (cut_names m (length cuts)) cuts in
    let columns = columns_length (length m.rows) 0 cuts m.cols in
    let few = extended_few (length m.rows) cuts m.cols in
    record { rows = omega arith; columns = omega (arith, sized.columns); entries = omega arith }

pub extension_sized : (m n : Model) (cuts : List Ineq) → extended m cuts ≡ Some n → IsSized m → IsSized n
extension_sized m n cuts h sized = let e = extension_of m cuts n h in subst IsSized e.is (with_rows_sized m cuts e.sizes sized)

pub old_rows_of_extension : (m n : Model) (cuts : List Ineq) → extended m cuts ≡ Some n → (r : ℕ) → r < length m.rows → row_entries n r ≡ row_entries m r
old_rows_of_extension m n cuts h r lt =
    ap (λ (v : Model). row_entries v r) (sym (extension_of m cuts n h).is) ∙ old_row_from (length m.rows) r 0 cuts m.cols lt

new_row_is : (m : Model) (cuts : List Ineq) → list_all (is_known m) cuts ≡ true → AreInRows m → AreRising cuts
    → (r k : ℕ) (c : Ineq) → slice_get cuts k ≡ Some c → r ≡ length m.rows + k → row_entries (with_rows m cuts) r ≡ decimal_terms c
new_row_is m cuts known inside rising r k c at e =
    new_row (length m.rows) r k cuts c m.cols inside at e (each_at (λ v. IsRising v.terms) cuts k c rising at) (passes_at (is_known m) cuts k c known at)

pub new_rows_of_extension : (m n : Model) (cuts : List Ineq) → extended m cuts ≡ Some n → AreInRows m → AreRising cuts
    → (k : ℕ) (c : Ineq) → slice_get cuts k ≡ Some c → row_entries n (length m.rows + k) ≡ decimal_terms c
new_rows_of_extension m n cuts h inside rising k c at =
    let e = extension_of m cuts n h in
    ap (λ (v : Model). row_entries v (length m.rows + k)) (sym e.is) ∙ new_row_is m cuts e.known inside rising (length m.rows + k) k c at refl

-- ---- points

row_meets : (m n : Model) (x : Point) (r s : ℕ) (row : Row) → row_entries m r ≡ row_entries n s → MeetsRow m x r row → MeetsRow n x s row
row_meets m n x r s row e meets =
    let sums : row_sum m x r ≡ row_sum n x s = ap (λ es. sum_at x.p (map weight_term es)) e in
    record {
      lower = subst (λ v. IsAtLeast (lower_end row.kind (weight row.rhs) (option_map weight row.range)) x.d v) sums meets.lower;
      upper = subst (λ v. IsAtMost (upper_end row.kind (weight row.rhs) (option_map weight row.range)) x.d v) sums meets.upper;
    }

cut_row_meets : (n : Model) (x : Point) (r : ℕ) (name : List ℕ) (c : Ineq) → is_decimal c ≡ true → row_entries n r ≡ decimal_terms c → Meets x c
    → MeetsRow n x r (cut_row (name, c))
cut_row_meets n x r name c decimal e meets =
    let parts = and_parts (list_all (λ t. is_some (decimal_of t.1)) c.terms) (is_some (decimal_of c.rhs)) decimal in
    let sums : row_sum n x r ≡ sum_at x.p c.terms *ℤ pos (10 ^ 30) = ap (λ es. sum_at x.p (map weight_term es)) e ∙ sum_scaled x.p c.terms parts.0 in
    let side : weight (decimal_or_zero c.rhs) ≡ c.rhs *ℤ pos (10 ^ 30) = weight-is c.rhs parts.1 in
    let met : ((c.rhs *ℤ pos (10 ^ 30)) *ℤ x.d) ≤ℤ (sum_at x.p c.terms *ℤ pos (10 ^ 30)) = cut_met c.rhs x.d (sum_at x.p c.terms) meets in
    let half : (weight (decimal_or_zero c.rhs) *ℤ x.d) ≤ℤ (sum_at x.p c.terms *ℤ pos (10 ^ 30)) = subst (λ v. (v *ℤ x.d) ≤ℤ (sum_at x.p c.terms *ℤ pos (10 ^ 30))) (sym side) met in
    record { lower = subst (λ v. (weight (decimal_or_zero c.rhs) *ℤ x.d) ≤ℤ v) (sym sums) half; upper = tt }

new_row_meets : (m : Model) (cuts : List Ineq) (x : Point) → list_all (is_known m) cuts ≡ true → list_all is_decimal cuts ≡ true → AreInRows m → AreRising cuts
    → AllByRecursion (Meets x) cuts → (r k : ℕ) (row : Row) → r ≡ length m.rows + k → IsCutRow cuts k row → MeetsRow (with_rows m cuts) x r row
new_row_meets m cuts x known decimal inside rising met r k row e found =
    subst (λ v. MeetsRow (with_rows m cuts) x r v) (sym found.is)
    (cut_row_meets (with_rows m cuts) x r found.name found.cut (passes_at is_decimal cuts k found.cut decimal found.at)
    (new_row_is m cuts known inside rising r k found.cut found.at e) (each_at (Meets x) cuts k found.cut met found.at))

any_row_meets : (m : Model) (cuts : List Ineq) (x : Point) → list_all (is_known m) cuts ≡ true → list_all is_decimal cuts ≡ true → AreInRows m → AreRising cuts
    → AllByRecursion (Meets x) cuts → IsFeasible m x → (r : ℕ) (row : Row) → slice_get (with_rows m cuts).rows r ≡ Some row → MeetsRow (with_rows m cuts) x r row
any_row_meets m cuts x known decimal inside rising met feasible r row h =
    let added = map cut_row (zip (cut_names m (length cuts)) cuts) in
    elim (cases_lt r (length m.rows)) [
      | inl lt ↦ row_meets m (with_rows m cuts) x r r row (sym (old_row_from (length m.rows) r 0 cuts m.cols lt)) (feasible.rows r row (sym (get_front m.rows added r lt) ∙ h))
      | inr le ↦
          let e : r ≡ length m.rows + (r - length m.rows) = omega arith in
          new_row_meets m cuts x known decimal inside rising met r (r - length m.rows) row e
          (cut_row_at (cut_names m (length cuts)) cuts (r - length m.rows) row (sym (get_back m.rows added r (r - length m.rows) e) ∙ h))
    ]

to_extension : (m : Model) (cuts : List Ineq) (x : Point) → list_all (is_known m) cuts ≡ true → list_all is_decimal cuts ≡ true → AreInRows m → AreRising cuts
    → AllByRecursion (Meets x) cuts → IsFeasible m x → IsFeasible (with_rows m cuts) x
to_extension m cuts x known decimal inside rising met feasible =
    let old : (j : ℕ) (c : Column) → slice_get (with_rows m cuts).cols j ≡ Some c → IsMapped (extended_column (length m.rows) j cuts) (slice_get m.cols j) c =
    λ j c h. mapped_some (extended_column (length m.rows) j cuts) (slice_get m.cols j) c (sym (column_at (length m.rows) 0 j j cuts m.cols (omega arith)) ∙ h) in
    record {
      point = record { size = feasible.point.size ∙ sym (columns_length (length m.rows) 0 cuts m.cols); positive = feasible.point.positive };
      rows = any_row_meets m cuts x known decimal inside rising met feasible;
      bounds = λ j c h.
          let o = old j c h in
          let meets = feasible.bounds j o.from o.some in
          subst (MeetsBounds x j) o.is (record { lower = meets.lower; upper = meets.upper });
      integers = λ j c h whole. let o = old j c h in feasible.integers j o.from o.some (ap (λ (v : Column). v.integer) o.is ∙ whole);
    }

from_extension : (m : Model) (cuts : List Ineq) (x : Point) → IsFeasible (with_rows m cuts) x → IsFeasible m x
from_extension m cuts x feasible =
    let added = map cut_row (zip (cut_names m (length cuts)) cuts) in
    let new : (j : ℕ) (c : Column) → slice_get m.cols j ≡ Some c → slice_get (with_rows m cuts).cols j ≡ Some (extended_column (length m.rows) j cuts c) =
    λ j c h. column_at (length m.rows) 0 j j cuts m.cols (omega arith) ∙ ap (option_map (extended_column (length m.rows) j cuts)) h in
    record {
      point = record { size = feasible.point.size ∙ columns_length (length m.rows) 0 cuts m.cols; positive = feasible.point.positive };
      rows = λ r row h.
          let lt : r < length m.rows = slice_get_within m.rows r row h in
          row_meets (with_rows m cuts) m x r r row (old_row_from (length m.rows) r 0 cuts m.cols lt) (feasible.rows r row (get_front m.rows added r lt ∙ h));
      bounds = λ j c h.
          let meets = feasible.bounds j (extended_column (length m.rows) j cuts c) (new j c h) in
          record { lower = meets.lower; upper = meets.upper };
      integers = λ j c h whole. feasible.integers j (extended_column (length m.rows) j cuts c) (new j c h) whole;
    }

pub extension_keeps_points : (m n : Model) (cuts : List Ineq) → extended m cuts ≡ Some n → AreInRows m → AreRising cuts → AreMet m cuts → SamePoints m n
extension_keeps_points m n cuts h inside rising met x =
    let e = extension_of m cuts n h in (
      (λ feasible. subst (λ v. IsFeasible v x) e.is (to_extension m cuts x e.known e.decimal inside rising (met x feasible) feasible)),
      (λ feasible. from_extension m cuts x (subst (λ v. IsFeasible v x) (sym e.is) feasible)),
    )

-- ---- refusals

refused_first : (a b c : Bool) (d : Model) → a ≡ false → cond (a && b && c) (Some d) None ≡ None
refused_first false b c d h = refl
refused_first true b c d h = absurd (cc)

refused_second : (a b c : Bool) (d : Model) → b ≡ false → cond (a && b && c) (Some d) None ≡ None
refused_second false b c d h = refl
refused_second true false c d h = refl
refused_second true true c d h = absurd (cc)

refused_third : (a b c : Bool) (d : Model) → c ≡ false → cond (a && b && c) (Some d) None ≡ None
refused_third false b c d h = refl
refused_third true false c d h = refl
refused_third true true false d h = refl
refused_third true true true d h = absurd (cc)

pub unknown_refused : (m : Model) (cuts : List Ineq) (k : ℕ) → position (λ c. not (is_known m c)) cuts ≡ Some k → extended m cuts ≡ None
unfolding extended
unknown_refused m cuts k h = refused_first (list_all (is_known m) cuts) (list_all is_decimal cuts) (is_within_sizes m cuts) (with_rows m cuts) (one_fails (is_known m) cuts k h)

pub not_decimal_refused : (m : Model) (cuts : List Ineq) (k : ℕ) → position (λ c. not (is_decimal c)) cuts ≡ Some k → extended m cuts ≡ None
unfolding extended
not_decimal_refused m cuts k h = refused_second (list_all (is_known m) cuts) (list_all is_decimal cuts) (is_within_sizes m cuts) (with_rows m cuts) (one_fails is_decimal cuts k h)

pub too_many_refused : (m : Model) (cuts : List Ineq) → IsTooMany m cuts → extended m cuts ≡ None
unfolding extended
too_many_refused m cuts h = refused_third (list_all (is_known m) cuts) (list_all is_decimal cuts) (is_within_sizes m cuts) (with_rows m cuts) (not-true (is_within_sizes m cuts) h.large)
