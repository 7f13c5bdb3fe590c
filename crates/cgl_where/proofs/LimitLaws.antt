-- The limits that a point keeps, and the least common denominator.
use Rattle.std.proofs.Common.{◌≡◌, refl, sym, ap, ◌∙◌, subst, arith, ℕ, zero, suc, ◌+◌, ◌*◌, ◌/◌, ◌^◌, ◌<◌, nat_le, false, List, [], ◌∷◌, ◌++◌, length, map, Option, Some, None, Ok}
use Rattle.std.specs.Prelude.{ℤ, pos, negsuc, ◌*ℤ◌, ◌<ℤ◌, unsigned_abs}
use Rattle.std.specs.Int.{◌∣◌}
use Rattle.std.specs.List.{list_any}
use Rattle.std.proofs.lemmas.Int.{ints}
use Rattle.std.proofs.lemmas.List.{length-map}
use Rattle.std.proofs.lemmas.Nat.Gcd.{dvd_trans}
use Rattle.std.proofs.Math.Nat.{div-mul_cancel, one-dvd}
use Rattle.std.proofs.Math.IntN.{neg_ℤ}
use Rattle.cgl_num.specs.Fraction.{Fraction}
use Rattle.cgl_text.specs.Text.{lines_of, most_bytes}
use Rattle.cgl_model.specs.declared.mip.Column.{Column}
use Rattle.cgl_model.specs.declared.mip.Model.{Model}
use Rattle.cgl_model.specs.Point.{Point}
use Rattle.cgl_where.specs.PointFile.{Record, record_of, kept, values, value_at, column_names, common_denominator, numerator_over, is_too_fine, fault_after, faults, records, outcome, point_from, point_of, Outcome, Values, Fault}
use Rattle.cgl_where.specs.PointRead.{outcome_result, point_result}
use Rattle.cgl_where.specs.Reading.{turn, read_from}
use Rattle.cgl_where.specs.Limits.{ArePositive}
use Rattle.cgl_where.specs.Laws.{AreSmall, IsWithin, PointsAreWithin, ResultsArePoints, DivideAll, DenominatorsAreLeast, AreOver, ValuesAreKept}
use Rattle.cgl_where.proofs.LcmLaws.{lcm_first, lcm_second, lcm_least, denominator_above}
use Rattle.cgl_where.proofs.PointLaws.{or-left, or-right, not_at_least, denominator_within, point_ready}
use Rattle.cgl_where.proofs.ReadingLaws.{fine_after, reads_alike}

small_each : (d : ℕ) (fs : List Fraction) → list_any (λ f. nat_le (2 ^ 100) (unsigned_abs (numerator_over d f))) fs ≡ false → AreSmall (map (numerator_over d) fs)
small_each d [] none = tt
small_each d (f ∷ fs) none = (not_at_least _ _ (or-left _ _ none), small_each d fs (or-right _ _ none))

from_within : (m : Model) (before : List Record) → is_too_fine (values before) ≡ false → IsWithin (point_from m before)
from_within m before e =
    let fs = map (value_at before) (column_names m) in
    let ready = point_ready before (column_names m) e in
    let above : 0 < common_denominator fs = denominator_above fs ready.positive in
    record {
      positive = omega (arith, ints, above);
      denominator = denominator_within fs ready.within;
      numerators = small_each (common_denominator fs) fs (or-right _ _ ready.within);
    }

is_within : (x y : Point) → IsWithin x → Values x ≡ Values y → IsWithin y
is_within x y w e = let same : x ≡ y = cc in subst IsWithin same w

turn_case : (n : ℕ) (later : Outcome) (x : Point) (kind : Option ℕ) → turn kind n later ≡ Values x → (kind ≡ None → later ≡ Values x → IsWithin x) → IsWithin x
turn_case n later x (Some kind) e goes_on = cc
turn_case n later x None e goes_on = goes_on refl e

reads_within : (bytes : List ℕ) (m : Model) (lines : List (List ℕ)) (n : ℕ) (before : List Record) (x : Point) → is_too_fine (values before) ≡ false
    → read_from most_bytes bytes m n before lines ≡ Values x → IsWithin x
reads_within bytes m [] n before x fine e = is_within (point_from m before) x (from_within m before fine) e
reads_within bytes m (line ∷ lines) n before x fine e =
    let r = record_of n line in
    turn_case n (read_from most_bytes bytes m (n + 1) (before ++ kept (r ∷ [])) lines) x (fault_after most_bytes bytes m before r) e
    (λ none later. reads_within bytes m lines (n + 1) (before ++ kept (r ∷ [])) x (fine_after bytes m before r none fine) later)

pub points_within : PointsAreWithin
unfolding point_of
points_within bytes m x e = reads_within bytes m (lines_of bytes) 1 [] x refl (sym (reads_alike most_bytes bytes m) ∙ e)

-- ---- what a point file is read as

values_sized : (m : Model) (found : List (ℕ × ℕ)) (records : List Record) (x : Point) → outcome m found records ≡ Values x → length x.p ≡ length m.cols
values_sized m [] records x e =
    let same : point_from m (kept records) ≡ x = cc in
    ap (λ (y : Point). length y.p) (sym same)
    ∙ length-map (map (value_at (kept records)) (column_names m)) (numerator_over (common_denominator (map (value_at (kept records)) (column_names m))))
    ∙ length-map (column_names m) (value_at (kept records)) ∙ length-map m.cols (λ (c : Column). c.name)
values_sized m (fault ∷ others) records x e = cc

point_sized : (bytes : List ℕ) (m : Model) (x : Point) → point_of bytes m ≡ Values x → length x.p ≡ length m.cols
unfolding point_of
point_sized bytes m x e = values_sized m (faults most_bytes bytes m (records bytes)) (records bytes) x e

result_case : (o : Outcome) (x : Point) → outcome_result o ≡ Ok x → o ≡ Values x
result_case (Values y) x e = let same : y ≡ x = cc in ap Values same
result_case (Fault line kind) x e = cc

pub results_are_points : ResultsArePoints
unfolding point_result
results_are_points m bytes x e =
    let found = result_case (point_of bytes m) x e in
    (point_sized bytes m x found, points_within bytes m x found)

-- ---- the least common denominator

divide_more : (d n : ℕ) (fs : List Fraction) → d ∣ n → DivideAll d fs → DivideAll n fs
divide_more d n [] part all = tt
divide_more d n (f ∷ fs) part all = (dvd_trans _ all.0 part, divide_more d n fs part all.1)

divides_each : (fs : List Fraction) → DivideAll (common_denominator fs) fs
divides_each [] = tt
divides_each (f ∷ fs) =
    let d = unsigned_abs f.den in
    (lcm_first d (common_denominator fs), divide_more (common_denominator fs) (common_denominator (f ∷ fs)) fs (lcm_second d (common_denominator fs)) (divides_each fs))

divides_other : (fs : List Fraction) (n : ℕ) → ArePositive fs → DivideAll n fs → common_denominator fs ∣ n
divides_other [] n positive all = one-dvd n
divides_other (f ∷ fs) n positive all =
    lcm_least (unsigned_abs f.den) (common_denominator fs) n (denominator_above fs positive.1) all.0 (divides_other fs n positive.1 all.1)

pub denominators_least : DenominatorsAreLeast
denominators_least fs positive = (divides_each fs, λ n all. divides_other fs n positive all)

-- ---- numerators over a multiple of the denominators

neg-times : (n e : ℕ) → neg_ℤ (pos n) *ℤ pos e ≡ neg_ℤ (pos (n * e))
neg-times zero e = let none : 0 * e ≡ 0 = omega arith in ap pos none ∙ ap (λ k. neg_ℤ (pos k)) (sym none)
neg-times (suc n) e = refl

product_over : (a d e : ℕ) → e ∣ d → (a * (d / e)) * e ≡ a * d
product_over a d e part = let whole : a * (d / e * e) ≡ a * d = ap (λ n. a * n) (div-mul_cancel e part) in omega (arith, whole)

over : (num : ℤ) (d e : ℕ) → e ∣ d → (num *ℤ pos (d / e)) *ℤ pos e ≡ num *ℤ pos d
over (pos a) d e part = ap pos (product_over a d e part)
over (negsuc a) d e part = neg-times (suc a * (d / e)) e ∙ ap (λ n. neg_ℤ (pos n)) (product_over (suc a) d e part)

over_den : (num den : ℤ) (d : ℕ) → pos 0 <ℤ den → unsigned_abs den ∣ d → (num *ℤ pos (d / unsigned_abs den)) *ℤ den ≡ num *ℤ pos d
over_den num (pos e) d above part = over num d e part
over_den num (negsuc e) d above part = absurd (omega (arith, ints, above))

over_each : (d : ℕ) (fs : List Fraction) → ArePositive fs → DivideAll d fs → AreOver d fs
over_each d [] positive all = tt
over_each d (f ∷ fs) positive all = (over_den f.num f.den d positive.0 all.0, over_each d fs positive.1 all.1)

pub values_kept : ValuesAreKept
values_kept fs positive = over_each (common_denominator fs) fs positive (divides_each fs)
