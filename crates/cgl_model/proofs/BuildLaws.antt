-- The steps by which forms are built.
use Rattle.std.proofs.Common.{◌≡◌, ℕ, zero, suc, ℤ, pos, negsuc, ◌+◌, ◌*◌, ◌/◌, ◌^◌, ◌≤◌, ◌<◌, max, ap, refl, sym, ◌∙◌, subst, arith, lit<, List, [], ◌∷◌, ◌++◌, ◌-◌, map, length, take, drop, get_or, true, false, to_z, of_z}
use Rattle.std.specs.Prelude.{◌*ℤ◌, ◌-ℤ◌, ◌≤ℤ◌, ◌<ℤ◌, int_div, unsigned_abs, FitsSigned, Option, Some, None, option_to_list}
use Rattle.std.specs.Int.{w128}
use Rattle.std.specs.Int.Signed.{lt_z}
use Rattle.std.proofs.Math.IntN.{neg_ℤ, negsuc-*ℤ-pos}
use Rattle.std.proofs.Math.Nat.{div-le_self, pow-le-pow_right}
use Rattle.std.proofs.lemmas.Int.{ints, fits_signed_from_abs, unsigned_abs-mul}
use Rattle.std.proofs.lemmas.List.{map_more, take_all}
use Rattle.std.proofs.lemmas.Bool.{le-leb, leb-false, lt-leb, or_from, or_parts, or_left, or_right}
use Rattle.std.proofs.lemmas.Bool.Decides.{nat_tests}
use Rattle.std.specs.List.{filter, list_any}
use Rattle.std.specs.Option.{IfSome}
use Rattle.std.proofs.lemmas.List.Folds.{list_any-append}
use Rattle.std.proofs.lemmas.List.Elements.{filter-append}
use Rattle.std.proofs.Math.Seq.{drop-cons, drop-length}
use Rattle.cgl_num.specs.Gcd.{gcd, gcd_of}
use Rattle.cgl_num.specs.Decimal.{Decimal, places, scaled}
use Rattle.cgl_model.specs.declared.mip.Row.{Row}
use Rattle.cgl_model.specs.declared.row_numbers.RowNumbers.{RowNumbers}
use Rattle.cgl_model.specs.Inequality.{Term}
use Rattle.cgl_model.specs.IntegerForm.{divided, is_nonzero_term, is_wide_number, most_places, row_numbers, row_places, scaled_term}
use Rattle.cgl_model.proofs.RowLaws.{numbers_of}

-- ---- decimal places

most-append : (ds es : List Decimal) → most_places (ds ++ es) ≡ max (most_places ds) (most_places es)
most-append [] es = omega arith
most-append (d ∷ ds) es = let rest = most-append ds es in omega arith

pub most_more : (entries : List (ℕ × Decimal)) (i : ℕ) (e : ℕ × Decimal) (n m : ℕ) → i < length entries → e ≡ get_or entries i e
    → n ≡ max (most_places (numbers_of (take i entries))) m → max n (places e.1) ≡ max (most_places (numbers_of (take (i + 1) entries))) m
most_more entries i e n m h is before =
    let F : ℕ × Decimal → Type 0 = λ f. numbers_of (take (i + 1) entries) ≡ numbers_of (take i entries) ++ (f.1 ∷ []) in
    let more = subst F (sym is) (map_more (λ f. f.1) entries i e h) in
    let most = ap most_places more ∙ most-append (numbers_of (take i entries)) (e.1 ∷ []) in
    omega (arith, most)

pub most_all : (entries : List (ℕ × Decimal)) (row : Row) (i n : ℕ) → length entries ≤ i
    → n ≡ max (most_places (numbers_of (take i entries))) (most_places (row.rhs ∷ option_to_list row.range)) → n ≡ row_places entries row
most_all entries row i n h is =
    let whole = ap (λ es. most_places (numbers_of es)) (take_all i entries h) in
    let both = most-append (numbers_of entries) (row.rhs ∷ option_to_list row.range) in
    is ∙ ap (λ k. max k (most_places (row.rhs ∷ option_to_list row.range))) whole ∙ sym both

-- ---- numbers that are too large

ten_small : (p : ℕ) → p ≤ 30 → 2 ^ 128 ≤ 10 ^ p → ⊥
ten_small p h e =
    let below : 10 ^ p ≤ 10 ^ 30 = pow-le-pow_right (lit< tt) h in
    let small : 10 ^ 30 < 2 ^ 128 = lit< tt in
    omega arith

pub too_large : (m : ℤ) (p : ℕ) → (m ≡ pos 0 → p ≤ 30) → 2 ^ 128 ≤ 10 ^ p → 2 ^ 100 ≤ unsigned_abs m * 10 ^ p
too_large (pos zero) p h e = absurd (ten_small p (h refl) e)
too_large (pos (suc n)) p h e = omega (arith, e)
too_large (negsuc n) p h e = omega (arith, e)

-- the magnitude of the scaled number
pub scaled_size : (k : ℕ) (d : Decimal) (p : ℕ) → scaled k d ≡ d.m *ℤ pos (10 ^ p) → unsigned_abs (scaled k d) ≡ unsigned_abs d.m * 10 ^ p
scaled_size k d p e = ap unsigned_abs e ∙ unsigned_abs-mul d.m (pos (10 ^ p))

-- a scaled number by its magnitude and its sign
pub below_zero : (m z : ℤ) (p t : ℕ) → z ≡ m *ℤ pos (10 ^ p) → t ≡ unsigned_abs m * 10 ^ p → lt_z m (pos 0) ≡ true → neg_ℤ (pos t) ≡ z
below_zero (pos n) z p t e f h = absurd (omega (arith, ints, h))
below_zero (negsuc n) z p t e f h = ap (λ k. neg_ℤ (pos k)) f ∙ sym (e ∙ negsuc-*ℤ-pos n (10 ^ p))

pub from_zero : (m z : ℤ) (p t : ℕ) → z ≡ m *ℤ pos (10 ^ p) → t ≡ unsigned_abs m * 10 ^ p → lt_z m (pos 0) ≡ false → pos t ≡ z
from_zero (pos n) z p t e f h = ap pos f ∙ sym e
from_zero (negsuc n) z p t e f h = absurd (omega (arith, ints, h))

pub minus_magnitude : (t : ℕ) → t < 2 ^ 126 → to_z w128 (of_z w128 (pos 0 -ℤ to_z w128 t)) ≡ neg_ℤ (pos t)
minus_magnitude t h = omega (arith, ints, h)

pub minus_narrow : (z : ℤ) (t : ℕ) → z ≡ neg_ℤ (pos t) → t < 2 ^ 100 → unsigned_abs z < 2 ^ 100
minus_narrow z t e h = omega (arith, ints, e, h)

pub plus_narrow : (z : ℤ) (t : ℕ) → z ≡ pos t → t < 2 ^ 100 → unsigned_abs z < 2 ^ 100
plus_narrow z t e h = omega (arith, ints, e, h)

-- ---- scaled coefficients

pub wide_number : (z : ℤ) → 2 ^ 100 ≤ unsigned_abs z → is_wide_number z ≡ true
wide_number z h = le-leb (2 ^ 100) (unsigned_abs z) h

pub wide_at : (k : ℕ) (entries : List (ℕ × Decimal)) (i : ℕ) (e : ℕ × Decimal) → i < length entries → e ≡ get_or entries i e → 2 ^ 100 ≤ unsigned_abs (scaled k e.1)
    → list_any is_wide_number (map (λ t. t.1) (map (scaled_term k) entries)) ≡ true
wide_at k [] i e h is w = absurd (omega arith)
wide_at k (first ∷ entries) zero e h is w =
    let F : ℕ × Decimal → Type 0 = λ f. 2 ^ 100 ≤ unsigned_abs (scaled k f.1) in
    or_left _ _ (wide_number (scaled k first.1) (subst F is w))
wide_at k (first ∷ entries) (suc i) e h is w = or_right (is_wide_number (scaled k first.1)) _ (wide_at k entries i e (omega arith) is w)

pub scaled_push : (k : ℕ) (entries : List (ℕ × Decimal)) (i : ℕ) (e : ℕ × Decimal) (before after : List Term) → i < length entries → e ≡ get_or entries i e
    → before ≡ map (scaled_term k) (take i entries) → after ≡ before ++ scaled_term k e ∷ [] → after ≡ map (scaled_term k) (take (i + 1) entries)
scaled_push k entries i e before after h is start now =
    let F : ℕ × Decimal → Type 0 = λ f. map (scaled_term k) (take (i + 1) entries) ≡ map (scaled_term k) (take i entries) ++ scaled_term k f ∷ [] in
    let more = subst F (sym is) (map_more (scaled_term k) entries i e h) in
    now ∙ ap (λ s. s ++ scaled_term k e ∷ []) start ∙ sym more

narrow_more : (terms : List Term) (t : Term) → list_any is_wide_number (map (λ t. t.1) terms) ≡ false → is_wide_number t.1 ≡ false
    → list_any is_wide_number (map (λ t. t.1) (terms ++ t ∷ [])) ≡ false
narrow_more [] t h w = or_from _ _ w refl
narrow_more (u ∷ terms) t h w = let parts = or_parts (is_wide_number u.1) _ h in or_from _ _ parts.0 (narrow_more terms t parts.1 w)

pub narrow_push : (before after : List Term) (t : Term) → list_any is_wide_number (map (λ t. t.1) before) ≡ false → unsigned_abs t.1 < 2 ^ 100 → after ≡ before ++ t ∷ []
    → list_any is_wide_number (map (λ t. t.1) after) ≡ false
narrow_push before after t h w now =
    let F : List Term → Type 0 = λ ts. list_any is_wide_number (map (λ t. t.1) ts) ≡ false in
    subst F (sym now) (narrow_more before t h (lt-leb (2 ^ 100) (unsigned_abs t.1) w))

-- ---- the gcd of a row's numbers

is_narrow : (z : ℤ) → is_wide_number z ≡ false → unsigned_abs z < 2 ^ 100
is_narrow z e = leb-false (2 ^ 100) (unsigned_abs z) e

pub narrow_at : (terms : List Term) (rest : List ℤ) (i : ℕ) (t : Term) → list_any is_wide_number (map (λ t. t.1) terms ++ rest) ≡ false → i < length terms
    → unsigned_abs (get_or terms i t).1 < 2 ^ 100
narrow_at [] rest i t e h = absurd (omega arith)
narrow_at (u ∷ terms) rest zero t e h = is_narrow u.1 (or_parts (is_wide_number u.1) _ e).0
narrow_at (u ∷ terms) rest (suc i) t e h = narrow_at terms rest i t (or_parts (is_wide_number u.1) _ e).1 (omega arith)

pub narrow_first : (z : ℤ) (rest : List ℤ) → list_any is_wide_number (z ∷ rest) ≡ false → (unsigned_abs z < 2 ^ 100) × (list_any is_wide_number rest ≡ false)
narrow_first z rest e = let parts = or_parts (is_wide_number z) _ e in (is_narrow z parts.0, parts.1)

narrow_rest : (terms : List Term) (rest : List ℤ) → list_any is_wide_number (map (λ t. t.1) terms ++ rest) ≡ false → list_any is_wide_number rest ≡ false
narrow_rest [] rest e = e
narrow_rest (t ∷ terms) rest e = narrow_rest terms rest (or_parts (is_wide_number t.1) _ e).1

pub narrow_signed : (z : ℤ) → unsigned_abs z < 2 ^ 100 → FitsSigned w128 z
narrow_signed z h = fits_signed_from_abs w128 z (omega arith)

pub narrow_some : (range : Option ℤ) → list_any is_wide_number (option_to_list range) ≡ false → IfSome range (λ r. unsigned_abs r < 2 ^ 100)
narrow_some None e = tt
narrow_some (Some r) e = (narrow_first r [] e).0

-- what narrow numbers of a row say of its right side and its range
pub record AreNarrowSides (rhs : ℤ) (range : Option ℤ) : Type 0 where
  pub right : unsigned_abs rhs < 2 ^ 100
  pub fits : FitsSigned w128 rhs
  pub range_any : list_any is_wide_number (option_to_list range) ≡ false
  pub range_each : IfSome range (λ r. unsigned_abs r < 2 ^ 100)

pub narrow_sides : (n : RowNumbers) → list_any is_wide_number (row_numbers n) ≡ false → AreNarrowSides n.rhs n.range
narrow_sides n e =
    let parts = narrow_first n.rhs (option_to_list n.range) (narrow_rest n.coeffs (n.rhs ∷ option_to_list n.range) e) in
    record { right = parts.0; fits = narrow_signed n.rhs parts.0; range_any = parts.1; range_each = narrow_some n.range parts.1 }

-- ---- all numbers of a row

pub wide_coeffs : (n : RowNumbers) → list_any is_wide_number (map (λ t. t.1) n.coeffs) ≡ true → list_any is_wide_number (row_numbers n) ≡ true
wide_coeffs n h = list_any-append is_wide_number (map (λ t. t.1) n.coeffs) (n.rhs ∷ option_to_list n.range) ∙ or_left _ _ h

wide_sides : (n : RowNumbers) → list_any is_wide_number (n.rhs ∷ option_to_list n.range) ≡ true → list_any is_wide_number (row_numbers n) ≡ true
wide_sides n h = list_any-append is_wide_number (map (λ t. t.1) n.coeffs) (n.rhs ∷ option_to_list n.range) ∙ or_right _ _ h

pub wide_right : (n : RowNumbers) → 2 ^ 100 ≤ unsigned_abs n.rhs → list_any is_wide_number (row_numbers n) ≡ true
wide_right n h = wide_sides n (or_left _ _ (wide_number n.rhs h))

pub wide_range : (n : RowNumbers) → list_any is_wide_number (option_to_list n.range) ≡ true → list_any is_wide_number (row_numbers n) ≡ true
wide_range n h = wide_sides n (or_right _ _ h)

pub narrow_numbers : (n : RowNumbers) → list_any is_wide_number (map (λ t. t.1) n.coeffs) ≡ false → unsigned_abs n.rhs < 2 ^ 100 → list_any is_wide_number (option_to_list n.range) ≡ false
    → list_any is_wide_number (row_numbers n) ≡ false
narrow_numbers n e h f =
    let right = lt-leb (2 ^ 100) (unsigned_abs n.rhs) h in
    list_any-append is_wide_number (map (λ t. t.1) n.coeffs) (n.rhs ∷ option_to_list n.range) ∙ or_from _ _ e (or_from _ _ right f)

pub gcd_step : (terms : List Term) (rest : List ℤ) (i : ℕ) (t : Term) (d r : ℤ) → 0 < i → i ≤ length terms
    → d ≡ pos (gcd_of (map (λ t. t.1) (drop i terms) ++ rest)) → r ≡ pos (gcd (unsigned_abs (get_or terms (i - 1) t).1) (unsigned_abs d))
    → r ≡ pos (gcd_of (map (λ t. t.1) (drop (i - 1) terms) ++ rest))
unfolding gcd_of
gcd_step terms rest zero t d r p h before is = absurd (omega arith)
gcd_step terms rest (suc i) t d r p h before is =
    let i_is : suc i - 1 ≡ i = omega arith in
    let F : ℕ → Type 0 = λ n. r ≡ pos (gcd (unsigned_abs (get_or terms n t).1) (unsigned_abs d)) → r ≡ pos (gcd_of (map (λ t. t.1) (drop n terms) ++ rest)) in
    let at_i : F i = λ e.
    e ∙ ap (λ z. pos (gcd (unsigned_abs (get_or terms i t).1) (unsigned_abs z))) before
    ∙ sym (ap (λ xs. pos (gcd_of (map (λ t. t.1) xs ++ rest))) (drop-cons terms i t (omega arith))) in
    subst F (sym i_is) at_i is

pub sides_none : (rhs r : ℤ) → r ≡ pos (gcd (unsigned_abs rhs) 0) → r ≡ pos (gcd_of (rhs ∷ []))
unfolding gcd_of
sides_none rhs r e = e

pub sides_some : (rhs range g r : ℤ) → g ≡ pos (gcd (unsigned_abs range) 0) → r ≡ pos (gcd (unsigned_abs rhs) (unsigned_abs g)) → r ≡ pos (gcd_of (rhs ∷ range ∷ []))
unfolding gcd_of
sides_some rhs range g r e f = f ∙ ap (λ z. pos (gcd (unsigned_abs rhs) (unsigned_abs z))) e

pub gcd_start : (terms : List Term) (rest : List ℤ) (d : ℤ) → d ≡ pos (gcd_of rest) → d ≡ pos (gcd_of (map (λ t. t.1) (drop (length terms) terms) ++ rest))
gcd_start terms rest d e = e ∙ sym (ap (λ xs. pos (gcd_of (map (λ t. t.1) xs ++ rest))) (drop-length terms))

-- ---- divided numbers

pub above_zero : (d : ℤ) → pos 0 ≤ℤ d → (of_z w128 d ≡ 0 → ⊥) → pos 0 <ℤ d
above_zero (pos zero) h none = absurd (none refl)
above_zero (pos (suc n)) h none = omega (arith, ints)
above_zero (negsuc n) h none = absurd (omega (arith, ints, h))

pub divided_is : (a d : ℤ) → pos 0 <ℤ d → int_div a d ≡ divided (unsigned_abs d) a
divided_is a (pos zero) h = absurd (omega (arith, ints, h))
divided_is a (pos (suc n)) h = grind (arith, nat_tests)
divided_is a (negsuc n) h = absurd (omega (arith, ints, h))

pub divided_by_zero : (a d : ℤ) → d ≡ pos 0 → a ≡ divided (unsigned_abs d) a
divided_by_zero a d e = sym (ap (λ x. divided (unsigned_abs x) a) e)

pub quotient_narrow : (a d : ℤ) → pos 0 <ℤ d → unsigned_abs a < 2 ^ 100 → unsigned_abs (int_div a d) < 2 ^ 100
quotient_narrow (pos a) (pos d) h k = omega (arith, k, div-le_self a d)
quotient_narrow (negsuc a) (pos d) h k = minus_narrow _ (suc a / d) refl (omega (arith, k, div-le_self (suc a) d))
quotient_narrow a (negsuc d) h k = absurd (omega (arith, ints, h))

-- ---- divided coefficients

pub divided_push : (g : ℕ) (coeffs : List Term) (i : ℕ) (t : Term) (z : ℤ) (before after : List Term) → i < length coeffs
    → before ≡ filter is_nonzero_term (map (λ u. (u.0, divided g u.1)) (take i coeffs)) → z ≡ divided g (get_or coeffs i t).1
    → after ≡ before ++ filter is_nonzero_term (((get_or coeffs i t).0, z) ∷ []) → after ≡ filter is_nonzero_term (map (λ u. (u.0, divided g u.1)) (take (i + 1) coeffs))
divided_push g coeffs i t z before after h first same now =
    let by : Term → Term = λ u. (u.0, divided g u.1) in
    let u = get_or coeffs i t in
    let more = ap (filter is_nonzero_term) (map_more by coeffs i t h) ∙ filter-append is_nonzero_term (map by (take i coeffs)) (by u ∷ []) in
    now ∙ ap (λ xs. xs ++ filter is_nonzero_term ((u.0, z) ∷ [])) first ∙ ap (λ y. filter is_nonzero_term (map by (take i coeffs)) ++ filter is_nonzero_term ((u.0, y) ∷ [])) same ∙ sym more
