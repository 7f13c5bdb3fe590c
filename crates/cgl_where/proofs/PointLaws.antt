-- The values of a model's columns are no finer than those of the lines.
use Rattle.std.proofs.Common.{◌≡◌, refl, sym, ap, ap₂, ◌∙◌, subst, arith, ℕ, ◌*◌, ◌/◌, ◌^◌, ◌<◌, ◌≤◌, nat_lt, nat_le, Bool, true, false, cond, ◌||◌, ◌&&◌, List, [], ◌∷◌, map, length, get_or, find, Option, Some, None, option_map, option_and_then}
use Rattle.std.specs.Prelude.{ℤ, pos, ◌<ℤ◌, unsigned_abs, unwrap_or}
use Rattle.std.specs.Int.{◌∣◌}
use Rattle.std.specs.List.{list_any, cons_option}
use Rattle.std.proofs.lemmas.Int.{ints, unsigned_abs-mul}
use Rattle.std.proofs.lemmas.Bool.Decides.{nat_tests}
use Rattle.std.proofs.lemmas.Nat.Gcd.{le_of_dvd, dvd_trans, dvd_refl}
use Rattle.std.proofs.Math.Nat.{div-mul-le_self, le-div_iff_mul-le, mul-le-mul_left, dvd-mul_right}
use Rattle.cgl_num.specs.Fraction.{Fraction, lowest}
use Rattle.cgl_num.specs.Decimal.{Decimal, scaled, places}
use Rattle.cgl_num.specs.NumberText.{Word, natural, unsigned, signed, number, is_digits}
use Rattle.cgl_num.proofs.FractionLaws.{lowest_positive}
use Rattle.cgl_num.proofs.DecimalLaws.{tens_pos}
use Rattle.cgl_num.proofs.DigitLaws.{and-left, and-right}
use Rattle.cgl_where.specs.PointValue.{is_slash, numerator, denominator, is_quotient, quotient, fraction_of, value}
use Rattle.cgl_where.specs.PointFile.{Record, field, common_denominator, numerator_over, is_too_fine, values, value_at, names_column, zero_fraction, point_over, point_in}
use Rattle.cgl_where.specs.Limits.{ArePositive, fitting_denominator, fitting_numerator}
use Rattle.cgl_where.specs.Carried.{is_wide}
use Rattle.cgl_model.specs.Point.{Point}
use Rattle.cgl_where.proofs.StepLaws.{none_at}
use Rattle.cgl_where.proofs.LcmLaws.{lcm_first, lcm_second, lcm_least, denominator_above, fits}

-- ---- values have denominators above 0

abbrev IsPositive : Fraction → Type 0
IsPositive f = pos 0 <ℤ f.den

some_of : {X : Type 0} (P : X → Type 0) (x y : X) → P x → Some x ≡ Some y → P y
some_of P x y p e = let same : x ≡ y = cc in subst P same p

quotient_case : (z : ℤ) (n : ℕ) (f : Fraction) (b : Bool) → (b ≡ true → 0 < n) → cond b (Some (lowest z (pos n))) None ≡ Some f → IsPositive f
quotient_case z n f true some e = let above : 0 < n = some refl in some_of IsPositive (lowest z (pos n)) f (lowest_positive z (pos n) (omega (arith, ints, above))) e
quotient_case z n f false some e = cc

above_zero : (n : ℕ) → nat_lt 0 n ≡ true → 0 < n
above_zero n e = grind (arith, nat_tests)

denominator_some : (text : Word) → is_quotient text ≡ true → 0 < natural (denominator text)
denominator_some text e =
    let p = is_digits (unsigned (numerator text)) in
    let q = is_digits (denominator text) in
    let r = nat_lt 0 (natural (denominator text)) in
    let s = nat_lt (natural (unsigned (numerator text))) (10 ^ 36) in
    let t = nat_lt (natural (denominator text)) (10 ^ 36) in
    above_zero (natural (denominator text)) (and-right (p && q) r (and-left (p && q && r) s (and-left (p && q && r && s) t e)))

fraction_case : (o : Option Decimal) (f : Fraction) → option_map fraction_of o ≡ Some f → IsPositive f
fraction_case None f e = cc
fraction_case (Some d) f e =
    let some : 0 < 10 ^ places d = tens_pos (places d) in
    some_of IsPositive (fraction_of d) f (lowest_positive (scaled (places d) d) (pos (10 ^ places d)) (omega (arith, ints, some))) e

value_case : (text : Word) (f : Fraction) (b : Bool) → cond b (quotient text) (option_map fraction_of (number text)) ≡ Some f → IsPositive f
value_case text f true e = quotient_case (signed (numerator text) (natural (unsigned (numerator text)))) (natural (denominator text)) f (is_quotient text) (denominator_some text) e
value_case text f false e = fraction_case (number text) f e

value_positive : (text : Word) (f : Fraction) → value text ≡ Some f → IsPositive f
unfolding value
value_positive text f e = value_case text f (list_any is_slash text) e

some_positive : (o : Option Fraction) (fs : List Fraction) → ((f : Fraction) → o ≡ Some f → IsPositive f) → ArePositive fs → ArePositive (cons_option o fs)
some_positive (Some f) fs here all = (here f refl, all)
some_positive None fs here all = all

pub values_positive : (records : List Record) → ArePositive (values records)
values_positive [] = tt
values_positive (r ∷ records) = some_positive (value (field 1 r)) (values records) (λ f e. value_positive (field 1 r) f e) (values_positive records)

-- ---- fractions over a denominator

pub record IsFine (d : ℕ) (f : Fraction) : Type 0 where
  pub positive : pos 0 <ℤ f.den
  pub divides : unsigned_abs f.den ∣ d
  pub within : unsigned_abs f.num * (d / unsigned_abs f.den) < 2 ^ 100

abbrev pub AreFine : ℕ → List Fraction → Type 0
AreFine d [] = Unit {0}
AreFine d (f ∷ fs) = IsFine d f × AreFine d fs

size_over : (d : ℕ) (f : Fraction) → unsigned_abs (numerator_over d f) ≡ unsigned_abs f.num * (d / unsigned_abs f.den)
size_over d f = unsigned_abs-mul f.num (pos (d / unsigned_abs f.den))

pub or-left : (a b : Bool) → (a || b) ≡ false → a ≡ false
or-left true b e = e
or-left false b e = refl

pub or-right : (a b : Bool) → (a || b) ≡ false → b ≡ false
or-right true b e = cc
or-right false b e = e

pub not_at_least : (n m : ℕ) → nat_le m n ≡ false → n < m
not_at_least n m e = grind (arith, nat_tests)

pub below_is : (n m : ℕ) → n < m → nat_le m n ≡ false
below_is n m lt = grind (arith, nat_tests)

not_above : (n m : ℕ) → nat_lt m n ≡ false → n ≤ m
not_above n m e = grind (arith, nat_tests)

at_most_is : (n m : ℕ) → n ≤ m → nat_lt m n ≡ false
at_most_is n m le = grind (arith, nat_tests)

fine_each : (d : ℕ) (fs : List Fraction) → ArePositive fs → common_denominator fs ∣ d → list_any (λ f. nat_le (2 ^ 100) (unsigned_abs (numerator_over d f))) fs ≡ false → AreFine d fs
fine_each d [] all part none = tt
fine_each d (f ∷ fs) all part none =
    let here : unsigned_abs (numerator_over d f) < 2 ^ 100 = not_at_least _ _ (or-left _ _ none) in (
      record {
        positive = all.0;
        divides = dvd_trans _ (lcm_first (unsigned_abs f.den) (common_denominator fs)) part;
        within = omega (arith, here, size_over d f);
      },
      fine_each d fs all.1 (dvd_trans _ (lcm_second (unsigned_abs f.den) (common_denominator fs)) part) (or-right _ _ none),
    )

fine_positive : (d : ℕ) (fs : List Fraction) → AreFine d fs → ArePositive fs
fine_positive d [] all = tt
fine_positive d (f ∷ fs) all = (all.0.positive, fine_positive d fs all.1)

fine_divides : (d : ℕ) (fs : List Fraction) → AreFine d fs → common_denominator fs ∣ d
fine_divides d [] all = let D : ℕ → Type 0 = λ n. 1 ∣ n in subst D (omega arith) (dvd-mul_right 1 d)
fine_divides d (f ∷ fs) all =
    lcm_least (unsigned_abs f.den) (common_denominator fs) d (denominator_above fs (fine_positive d fs all.1)) all.0.divides (fine_divides d fs all.1)

smaller : (d e den num : ℕ) → 0 < den → e ≤ d → num * (d / den) < 2 ^ 100 → num * (e / den) < 2 ^ 100
smaller d e den num some le lt =
    let down : e / den * den ≤ d = omega (arith, div-mul-le_self e den, le) in
    let quotients : e / den ≤ d / den = (le-div_iff_mul-le some).1 down in
    omega (arith, mul-le-mul_left num quotients, lt)

fine_none : (d e : ℕ) (fs : List Fraction) → e ≤ d → AreFine d fs → list_any (λ f. nat_le (2 ^ 100) (unsigned_abs (numerator_over e f))) fs ≡ false
fine_none d e [] le all = refl
fine_none d e (f ∷ fs) le all =
    let some : 0 < unsigned_abs f.den = omega (arith, ints, all.0.positive) in
    let here : unsigned_abs (numerator_over e f) < 2 ^ 100 = omega (arith, size_over e f, smaller d e (unsigned_abs f.den) (unsigned_abs f.num) some le all.0.within) in
    ap₂ (λ a b. a || b) (below_is _ _ here) (fine_none d e fs le all.1)

from_fine : (fs : List Fraction) → ArePositive fs → is_too_fine fs ≡ false → AreFine (common_denominator fs) fs
from_fine fs all e = fine_each (common_denominator fs) fs all (dvd_refl (common_denominator fs)) (or-right _ _ e)

pub denominator_within : (fs : List Fraction) → is_too_fine fs ≡ false → common_denominator fs ≤ 2 ^ 62
denominator_within fs e = not_above _ _ (or-left _ _ e)

to_fine : (d : ℕ) (fs : List Fraction) → 0 < d → d ≤ 2 ^ 62 → AreFine d fs → is_too_fine fs ≡ false
to_fine d fs some le all =
    let less : common_denominator fs ≤ d = le_of_dvd some (fine_divides d fs all) in
    ap₂ (λ a b. a || b) (at_most_is (common_denominator fs) (2 ^ 62) (omega (arith, less, le))) (fine_none d (common_denominator fs) fs less all)

-- ---- the columns

zero_fine : (d : ℕ) → IsFine d zero_fraction
zero_fine d = record {
  positive = omega (arith, ints);
  divides = let D : ℕ → Type 0 = λ n. 1 ∣ n in subst D (omega arith) (dvd-mul_right 1 d);
  within = omega arith;
}

others_fine : (d : ℕ) (o : Option Fraction) (fs : List Fraction) → AreFine d (cons_option o fs) → AreFine d fs
others_fine d (Some f) fs all = all.1
others_fine d None fs all = all

column_case : (d : ℕ) (name : Word) (r : Record) (records : List Record) → IsFine d (value_at records name) → (b : Bool) (o : Option Fraction) → value (field 1 r) ≡ o → AreFine d (cons_option o (values records))
    → IsFine d (unwrap_or (option_and_then (λ q. value (field 1 q)) (cond b (Some r) (find (names_column name) records))) zero_fraction)
column_case d name r records later true (Some f) e all = let P : Option Fraction → Type 0 = λ o. IsFine d (unwrap_or o zero_fraction) in subst P (sym e) all.0
column_case d name r records later true None e all = let P : Option Fraction → Type 0 = λ o. IsFine d (unwrap_or o zero_fraction) in subst P (sym e) (zero_fine d)
column_case d name r records later false o e all = later

column_fine : (d : ℕ) (name : Word) (records : List Record) → AreFine d (values records) → IsFine d (value_at records name)
column_fine d name [] all = zero_fine d
column_fine d name (r ∷ records) all =
    column_case d name r records (column_fine d name records (others_fine d (value (field 1 r)) (values records) all)) (names_column name r) (value (field 1 r)) refl all

columns_fine : (d : ℕ) (names : List Word) (records : List Record) → AreFine d (values records) → AreFine d (map (value_at records) names)
columns_fine d [] records all = tt
columns_fine d (name ∷ names) records all = (column_fine d name records all, columns_fine d names records all)

pub record IsReady (fs : List Fraction) : Type 0 where
  pub positive : ArePositive fs
  pub within : is_too_fine fs ≡ false

pub point_ready : (records : List Record) (names : List Word) → is_too_fine (values records) ≡ false → IsReady (map (value_at records) names)
point_ready records names e =
    let d = common_denominator (values records) in
    let all = columns_fine d names records (from_fine (values records) (values_positive records) e) in
    record {
      positive = fine_positive d (map (value_at records) names) all;
      within = to_fine d (map (value_at records) names) (denominator_above (values records) (values_positive records)) (denominator_within (values records) e) all;
    }

-- ---- the point over the common denominator

pub number_fits : (fs : List Fraction) (d i : ℕ) (f : Fraction) → is_too_fine fs ≡ false → Some d ≡ fitting_denominator (common_denominator fs) → i < length fs → f ≡ get_or fs i f
    → Some (numerator_over d f) ≡ fitting_numerator (numerator_over d f)
number_fits fs d i f fine is lt at =
    let narrow : is_wide (common_denominator fs) f ≡ false = none_at (is_wide (common_denominator fs)) fs i f lt at (or-right _ _ fine) in
    ap (λ b. cond b None (Some (numerator_over d f))) (sym (ap (λ n. is_wide n f) (fits (common_denominator fs) d is).0 ∙ narrow))

pub point_is : (fs : List Fraction) (d : ℕ) (x : Point) → Some d ≡ fitting_denominator (common_denominator fs) → x.p ≡ map (numerator_over d) fs → x.d ≡ pos d → x ≡ point_in fs
point_is fs d x is numbers denominator = ap₂ (λ p e. record { p = p; d = e }) numbers denominator ∙ ap (λ n. point_over n fs) (fits (common_denominator fs) d is).0
