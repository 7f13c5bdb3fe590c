-- A row's integer form has its ends.
use Rattle.std.proofs.Common.{◌≡◌, ℕ, zero, suc, ℤ, pos, ◌-◌, ◌^◌, ◌≤◌, ◌<◌, ap, refl, sym, ◌∙◌, subst, arith, Bool, true, false, cond, List, [], ◌∷◌, ◌++◌, map}
use Rattle.std.specs.Prelude.{◌↔◌, unsigned_abs, int_div, Option, Some, None, option_map, option_to_list}
use Rattle.std.specs.List.{AllByRecursion}
use Rattle.std.specs.Option.{IfSome}
use Rattle.std.specs.Int.{◌∣◌}
use Rattle.std.proofs.lemmas.Int.{ints}
use Rattle.std.proofs.lemmas.List.Elements.{recursion_from_All}
use Rattle.std.proofs.lemmas.Bool.{cond-false, ne_eqb}
use Rattle.std.proofs.Math.Nat.{one-le-pow}
use Rattle.cgl_num.specs.Decimal.{Decimal, IsDecimal, scaled, places}
use Rattle.cgl_num.specs.Gcd.{gcd_of}
use Rattle.cgl_num.proofs.GcdLaws.{gcd_of_divides}
use Rattle.cgl_num.proofs.FractionLaws.{exact_quotient}
use Rattle.cgl_model.specs.declared.mip.RowKind.{RowKind}
use Rattle.cgl_model.specs.declared.mip.RowKind.TheVariants.{N, L, G, E}
use Rattle.cgl_model.specs.declared.mip.Row.{Row}
use Rattle.cgl_model.specs.declared.row_numbers.RowNumbers.{RowNumbers}
use Rattle.cgl_model.specs.declared.integer_forms.RowForm.{RowForm}
use Rattle.cgl_model.specs.declared.integer_forms.RowShape.TheVariants.{Wide, Form}
use Rattle.cgl_model.specs.Ends.{lower_end, upper_end}
use Rattle.cgl_model.specs.HasDecimals.{IsDecimalRow}
use Rattle.cgl_model.specs.Inequality.{Term, sum_at}
use Rattle.cgl_model.specs.Feasible.{IsAtLeast, IsAtMost, weight, weight_term}
use Rattle.cgl_model.specs.IntegerForm.{most_places, row_places, scaled_term, scaled_row, row_numbers, divided, divided_row, form_of, is_wide_row, row_shape_of, row_shape}
use Rattle.cgl_model.proofs.ScaleLaws.{scaled_more, places_limit, times, times_term, lower_times, upper_times, sum_times, sum_nonzero, at_least_times, at_most_times}

-- ---- a row's numbers times a factor above 0

abbrev pub times_row : ℕ → RowNumbers → RowNumbers
times_row c n = record { coeffs = map (times_term c) n.coeffs; rhs = times c n.rhs; range = option_map (times c) n.range }

abbrev pub IsAtLower : RowKind → RowNumbers → List ℤ → ℤ → Type 0
IsAtLower kind n p q = IsAtLeast (lower_end kind n.rhs n.range) q (sum_at p n.coeffs)

abbrev pub IsAtUpper : RowKind → RowNumbers → List ℤ → ℤ → Type 0
IsAtUpper kind n p q = IsAtMost (upper_end kind n.rhs n.range) q (sum_at p n.coeffs)

lower_row : (kind : RowKind) (c : ℕ) (n : RowNumbers) (p : List ℤ) (q : ℤ) → 0 < c → IsAtLower kind (times_row c n) p q ↔ IsAtLower kind n p q
lower_row kind c n p q h =
    let law = at_least_times c (lower_end kind n.rhs n.range) q (sum_at p n.coeffs) h in
    let F : Option ℤ → Type 0 = λ b. IsAtLeast b q (times c (sum_at p n.coeffs)) ↔ IsAtLower kind n p q in
    let G : ℤ → Type 0 = λ s. IsAtLeast (lower_end kind (times c n.rhs) (option_map (times c) n.range)) q s ↔ IsAtLower kind n p q in
    subst G (sym (sum_times p c n.coeffs)) (subst F (sym (lower_times kind c n.rhs n.range h)) law)

upper_row : (kind : RowKind) (c : ℕ) (n : RowNumbers) (p : List ℤ) (q : ℤ) → 0 < c → IsAtUpper kind (times_row c n) p q ↔ IsAtUpper kind n p q
upper_row kind c n p q h =
    let law = at_most_times c (upper_end kind n.rhs n.range) q (sum_at p n.coeffs) h in
    let F : Option ℤ → Type 0 = λ b. IsAtMost b q (times c (sum_at p n.coeffs)) ↔ IsAtUpper kind n p q in
    let G : ℤ → Type 0 = λ s. IsAtMost (upper_end kind (times c n.rhs) (option_map (times c) n.range)) q s ↔ IsAtUpper kind n p q in
    subst G (sym (sum_times p c n.coeffs)) (subst F (sym (upper_times kind c n.rhs n.range h)) law)

-- ---- the weights are the scaled numbers times a power of ten

abbrev pub ArePlaced : ℕ → List Decimal → Type 0
ArePlaced k ds = AllByRecursion (λ d. places d ≤ k) ds

most_below : (ds : List Decimal) (k : ℕ) → most_places ds ≤ k → ArePlaced k ds
most_below [] k h = tt
most_below (d ∷ ds) k h = (omega arith, most_below ds k (omega arith))

pub most_at : (ds : List Decimal) (k : ℕ) → k ≡ most_places ds → ArePlaced k ds
most_at ds k e = most_below ds k (omega arith)

most_limit : (ds : List Decimal) → AllByRecursion IsDecimal ds → most_places ds ≤ 30
most_limit [] h = omega arith
most_limit (d ∷ ds) h = let first = places_limit d h.0 in let rest = most_limit ds h.1 in omega arith

pub left_part : (P : Decimal → Type 0) (ds es : List Decimal) → AllByRecursion P (ds ++ es) → AllByRecursion P ds
left_part P [] es h = tt
left_part P (a ∷ ds) es h = (h.0, left_part P ds es h.1)

pub right_part : (P : Decimal → Type 0) (ds es : List Decimal) → AllByRecursion P (ds ++ es) → AllByRecursion P es
right_part P [] es h = h
right_part P (a ∷ ds) es h = right_part P ds es h.1

both_parts : (P : Decimal → Type 0) (ds es : List Decimal) → AllByRecursion P ds → AllByRecursion P es → AllByRecursion P (ds ++ es)
both_parts P [] es h k = k
both_parts P (a ∷ ds) es h k = (h.0, both_parts P ds es h.1 k)

abbrev pub numbers_of : List (ℕ × Decimal) → List Decimal
numbers_of entries = map (λ e. e.1) entries

decimal_entries : (entries : List (ℕ × Decimal)) → AllByRecursion (λ e. IsDecimal e.1) entries → AllByRecursion IsDecimal (numbers_of entries)
decimal_entries [] h = tt
decimal_entries (e ∷ entries) h = (h.0, decimal_entries entries h.1)

decimal_range : (r : Option Decimal) → IfSome r IsDecimal → AllByRecursion IsDecimal (option_to_list r)
decimal_range None h = tt
decimal_range (Some r) h = (h, tt)

scaled_terms : (k : ℕ) (entries : List (ℕ × Decimal)) → k ≤ 30 → ArePlaced k (numbers_of entries)
    → map weight_term entries ≡ map (times_term (10 ^ (30 - k))) (map (scaled_term k) entries)
scaled_terms k [] h a = refl
scaled_terms k (e ∷ entries) h a =
    let first = scaled_more k e.1 a.0 h in
    let rest = scaled_terms k entries h a.1 in
    cc

scaled_range : (k : ℕ) (r : Option Decimal) → k ≤ 30 → ArePlaced k (option_to_list r)
    → option_map weight r ≡ option_map (times (10 ^ (30 - k))) (option_map (scaled k) r)
scaled_range k None h a = refl
scaled_range k (Some r) h a = ap Some (scaled_more k r a.0 h)

abbrev pub weight_row : List (ℕ × Decimal) → Row → RowNumbers
weight_row entries row = record { coeffs = map weight_term entries; rhs = weight row.rhs; range = option_map weight row.range }

power_above : (k : ℕ) → 0 < 10 ^ k
power_above k = one-le-pow k 10 (omega arith)

weights : (entries : List (ℕ × Decimal)) (row : Row) (k : ℕ) → k ≤ 30 → ArePlaced k (numbers_of entries ++ (row.rhs ∷ option_to_list row.range))
    → weight_row entries row ≡ times_row (10 ^ (30 - k)) (scaled_row k entries row)
weights entries row k h a =
    let first = scaled_terms k entries h (left_part _ (numbers_of entries) _ a) in
    let rest = right_part _ (numbers_of entries) (row.rhs ∷ option_to_list row.range) a in
    let rhs = scaled_more k row.rhs rest.0 h in
    let range = scaled_range k row.range h rest.1 in
    cc

-- ---- the scaled numbers are those of the form times the gcd

abbrev pub factor : ℕ → ℕ
factor zero = 1
factor (suc g) = suc g

factor_above : (g : ℕ) → 0 < factor g
factor_above zero = omega arith
factor_above (suc g) = omega arith

pub divided_is : (g : ℕ) (z : ℤ) → 0 < g → divided g z ≡ int_div z (pos g)
divided_is g z h = cond-false _ _ _ (ne_eqb g 0 (λ e. omega arith))

undivided : (g : ℕ) (z : ℤ) → g ∣ unsigned_abs z → times (factor g) (divided g z) ≡ z
undivided zero z h = omega (arith, ints)
undivided (suc g) z h = ap (times (suc g)) (divided_is (suc g) z (omega arith)) ∙ exact_quotient z (suc g) h

abbrev pub AreMultiples : ℕ → List ℤ → Type 0
AreMultiples g zs = AllByRecursion (λ z. g ∣ unsigned_abs z) zs

undivided_terms : (g : ℕ) (terms : List Term) (zs : List ℤ) → AreMultiples g (map (λ t. t.1) terms ++ zs)
    → (map (times_term (factor g)) (map (λ t. (t.0, divided g t.1)) terms) ≡ terms) × AreMultiples g zs
undivided_terms g [] zs h = (refl, h)
undivided_terms g (t ∷ terms) zs h =
    let rest = undivided_terms g terms zs h.1 in
    let first = undivided g t.1 h.0 in
    let front : ◌≡◌ {A = Term} (t.0, times (factor g) (divided g t.1)) t = ap (λ z. (t.0, z)) first in
    (cc (front, rest.0), rest.1)

undivided_range : (g : ℕ) (r : Option ℤ) → AreMultiples g (option_to_list r) → option_map (times (factor g)) (option_map (divided g) r) ≡ r
undivided_range g None h = refl
undivided_range g (Some r) h = ap Some (undivided g r h.0)

same_numbers : (n m : RowNumbers) → n.coeffs ≡ m.coeffs → n.rhs ≡ m.rhs → n.range ≡ m.range → n ≡ m
same_numbers n m a b c =
    let A : List Term → RowNumbers = λ z. record { coeffs = z; rhs = n.rhs; range = n.range } in
    let B : ℤ → RowNumbers = λ z. record { coeffs = m.coeffs; rhs = z; range = n.range } in
    let C : Option ℤ → RowNumbers = λ z. record { coeffs = m.coeffs; rhs = m.rhs; range = z } in
    ap A a ∙ ap B b ∙ ap C c

undivided_row : (n : RowNumbers) → times_row (factor (gcd_of (row_numbers n))) (divided_row (gcd_of (row_numbers n)) n) ≡ n
undivided_row n =
    let g = gcd_of (row_numbers n) in
    let all : AreMultiples g (row_numbers n) = recursion_from_All _ (row_numbers n) (gcd_of_divides (row_numbers n)) in
    let parts = undivided_terms g n.coeffs (n.rhs ∷ option_to_list n.range) all in
    let rhs = undivided g n.rhs parts.1.0 in
    let range = undivided_range g n.range parts.1.1 in
    same_numbers (times_row (factor g) (divided_row g n)) n parts.0 rhs range

-- ---- the form

chosen : (kind : RowKind) (n : RowNumbers) (g : RowForm) (f : RowForm) (wide : Bool) → cond wide Wide (Form g) ≡ Form f → g ≡ f
chosen kind n g f true e = cc
chosen kind n g f false e = cc

pub form_is : (kind : RowKind) (n : RowNumbers) (f : RowForm) → row_shape_of kind n ≡ Form f → form_of kind (divided_row (gcd_of (row_numbers n)) n) ≡ f
form_is N n f e = cc
form_is L n f e = chosen L n _ f (is_wide_row L n) e
form_is G n f e = chosen G n _ f (is_wide_row G n) e
form_is E n f e = chosen E n _ f (is_wide_row E n) e

lower_form : (kind : RowKind) (n : RowNumbers) (p : List ℤ) (q : ℤ) → IsAtLeast (form_of kind n).lo q (sum_at p (form_of kind n).coeffs) ↔ IsAtLower kind n p q
lower_form kind n p q =
    let F : ℤ → Type 0 = λ s. IsAtLeast (lower_end kind n.rhs n.range) q s in
    (λ h. subst F (sum_nonzero p n.coeffs) h, λ h. subst F (sym (sum_nonzero p n.coeffs)) h)

upper_form : (kind : RowKind) (n : RowNumbers) (p : List ℤ) (q : ℤ) → IsAtMost (form_of kind n).up q (sum_at p (form_of kind n).coeffs) ↔ IsAtUpper kind n p q
upper_form kind n p q =
    let F : ℤ → Type 0 = λ s. IsAtMost (upper_end kind n.rhs n.range) q s in
    (λ h. subst F (sum_nonzero p n.coeffs) h, λ h. subst F (sym (sum_nonzero p n.coeffs)) h)

pub through : {A B C : Type 0} → A ↔ B → B ↔ C → A ↔ C
through f g = (λ a. g.0 (f.0 a), λ c. f.1 (g.1 c))

pub back : {A B : Type 0} → A ↔ B → B ↔ A
back f = (f.1, f.0)

row_decimals : (entries : List (ℕ × Decimal)) (row : Row) → AllByRecursion (λ e. IsDecimal e.1) entries → IsDecimalRow row
    → AllByRecursion IsDecimal (numbers_of entries ++ (row.rhs ∷ option_to_list row.range))
row_decimals entries row a b = both_parts IsDecimal (numbers_of entries) _ (decimal_entries entries a) (b.rhs, decimal_range row.range b.range)

-- the weights are the form's numbers times a number above 0
weights_of_form : (entries : List (ℕ × Decimal)) (row : Row) → AllByRecursion (λ e. IsDecimal e.1) entries → IsDecimalRow row
    → weight_row entries row ≡ times_row (10 ^ (30 - row_places entries row)) (scaled_row (row_places entries row) entries row)
weights_of_form entries row a b =
    let all = numbers_of entries ++ (row.rhs ∷ option_to_list row.range) in
    weights entries row (row_places entries row) (most_limit all (row_decimals entries row a b)) (most_below all (row_places entries row) (omega arith))

-- at the weights a point meets the lower end where it meets that of the form
pub row_lower : (entries : List (ℕ × Decimal)) (row : Row) (f : RowForm) (p : List ℤ) (q : ℤ) → AllByRecursion (λ e. IsDecimal e.1) entries → IsDecimalRow row
    → row_shape entries row ≡ Form f
    → IsAtLeast (lower_end row.kind (weight row.rhs) (option_map weight row.range)) q (sum_at p (map weight_term entries)) ↔ IsAtLeast f.lo q (sum_at p f.coeffs)
unfolding row_shape
row_lower entries row f p q a b e =
    let k = row_places entries row in
    let n = scaled_row k entries row in
    let g = gcd_of (row_numbers n) in
    let d = divided_row g n in
    let c = 10 ^ (30 - k) in
    let W : RowNumbers → Type 0 = λ w. IsAtLower row.kind w p q ↔ IsAtLower row.kind n p q in
    let first = subst W (sym (weights_of_form entries row a b)) (lower_row row.kind c n p q (power_above (30 - k))) in
    let V : RowNumbers → Type 0 = λ w. IsAtLower row.kind w p q ↔ IsAtLower row.kind d p q in
    let second = subst V (undivided_row n) (lower_row row.kind (factor g) d p q (factor_above g)) in
    let U : RowForm → Type 0 = λ h. IsAtLeast h.lo q (sum_at p h.coeffs) ↔ IsAtLower row.kind d p q in
    let third = subst U (form_is row.kind n f e) (lower_form row.kind d p q) in
    through first (through second (back third))

pub row_upper : (entries : List (ℕ × Decimal)) (row : Row) (f : RowForm) (p : List ℤ) (q : ℤ) → AllByRecursion (λ e. IsDecimal e.1) entries → IsDecimalRow row
    → row_shape entries row ≡ Form f
    → IsAtMost (upper_end row.kind (weight row.rhs) (option_map weight row.range)) q (sum_at p (map weight_term entries)) ↔ IsAtMost f.up q (sum_at p f.coeffs)
unfolding row_shape
row_upper entries row f p q a b e =
    let k = row_places entries row in
    let n = scaled_row k entries row in
    let g = gcd_of (row_numbers n) in
    let d = divided_row g n in
    let c = 10 ^ (30 - k) in
    let W : RowNumbers → Type 0 = λ w. IsAtUpper row.kind w p q ↔ IsAtUpper row.kind n p q in
    let first = subst W (sym (weights_of_form entries row a b)) (upper_row row.kind c n p q (power_above (30 - k))) in
    let V : RowNumbers → Type 0 = λ w. IsAtUpper row.kind w p q ↔ IsAtUpper row.kind d p q in
    let second = subst V (undivided_row n) (upper_row row.kind (factor g) d p q (factor_above g)) in
    let U : RowForm → Type 0 = λ h. IsAtMost h.up q (sum_at p h.coeffs) ↔ IsAtUpper row.kind d p q in
    let third = subst U (form_is row.kind n f e) (upper_form row.kind d p q) in
    through first (through second (back third))
