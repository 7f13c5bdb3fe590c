-- When sums of magnitudes stay below 2^127, and what a sum then proves.
use Rattle.std.proofs.Common.{◌≡◌, ℕ, zero, suc, ℤ, pos, ◌+◌, ◌*◌, ◌<◌, ◌≤◌, ◌^◌, List, [], ◌∷◌, ◌++◌, length, get_or, Bool, false, refl, sym, ap, ◌∙◌, subst, ⊎_elim, arith}
use Rattle.std.specs.Prelude.{◌↔◌, ◌*ℤ◌, ◌≤ℤ◌, ◌<ℤ◌, unsigned_abs}
use Rattle.std.specs.List.{AllByRecursion, list_any}
use Rattle.std.proofs.lemmas.Int.{unsigned_abs-mul}
use Rattle.std.proofs.lemmas.Bool.Decides.{nat_tests}
use Rattle.cgl_model.specs.declared.linear.Ineq.{Ineq}
use Rattle.cgl_model.specs.declared.mip.Model.{Model}
use Rattle.cgl_model.specs.Inequality.{Term}
use Rattle.cgl_model.specs.Rising.{IsRising}
use Rattle.cgl_derive.specs.Derives.{AreColumns, IsNarrow, LinIsRight, Part, coefficient, magnitudes}
use Rattle.cgl_derive.specs.Totals.{Amount, AreNarrow, IsSumOf, ProvesClaim, Totals, amount_at, has_column, is_wide, is_wide_claim, is_wide_side, nothing, plus}
use Rattle.cgl_derive.proofs.CoefficientLaws.{coefficient_at, coefficient_not}
use Rattle.cgl_derive.proofs.ProveLaws.{find_column}
use Rattle.cgl_derive.proofs.WeightedLaws.{magnitudes_push}
use Rattle.cgl_derive.proofs.TestLaws.{or_false, false_or, tested}

none_any : {A : Type 0} (p : A → Bool) (xs : List A) (i : ℕ) (d : A) → list_any p xs ≡ false → i < length xs → p (get_or xs i d) ≡ false
none_any p [] i d e h = absurd (omega arith)
none_any p (x ∷ xs) zero d e h = (or_false (p x) (list_any p xs) e).0
none_any p (x ∷ xs) (suc i) d e h = none_any p xs i d (or_false (p x) (list_any p xs) e).1 (omega arith)

any_none : {A : Type 0} (p : A → Bool) (xs : List A) → ((i : ℕ) (d : A) → i < length xs → p (get_or xs i d) ≡ false) → list_any p xs ≡ false
any_none p [] h = refl
any_none p (x ∷ xs) h = false_or (p x) (list_any p xs) (h 0 x (omega arith)) (any_none p xs (λ i d l. h (suc i) d (omega arith)))

narrow_amount : (a : Amount) → is_wide a ≡ false → a.magnitude < 2 ^ 127
narrow_amount a e = grind (arith, nat_tests, e)

amount_narrow : (a : Amount) → a.magnitude < 2 ^ 127 → is_wide a ≡ false
amount_narrow a h = grind (arith, nat_tests, h)

-- ---- one part more

abbrev is_wide_term : ℤ → Totals → Term → Bool
is_wide_term by t u = is_wide (plus by u.1 (amount_at t.columns u.0))

left_narrow : (parts : List Part) (c : Ineq) (by : ℤ) (t : Totals) (j : ℕ) → IsRising c.terms → IsSumOf parts t → AreNarrow parts → list_any (is_wide_term by t) c.terms ≡ false
    → magnitudes (λ d. coefficient j d.terms) parts + unsigned_abs by * unsigned_abs (coefficient j c.terms) < 2 ^ 127
left_narrow parts c by t j rising is narrow e = ⊎_elim
    (λ has.
    let found = find_column j c.terms has in
    let u = get_or c.terms found.0 (j, pos 0) in
    let column : u.0 ≡ j = found.2 (j, pos 0) in
    let number : coefficient j c.terms ≡ u.1 = ap (λ k. coefficient k c.terms) (sym column) ∙ coefficient_at c.terms found.0 (j, pos 0) rising found.1 in
    let here = narrow_amount (plus by u.1 (amount_at t.columns u.0)) (none_any (is_wide_term by t) c.terms found.0 (j, pos 0) e found.1) in
    let total : (amount_at t.columns u.0).magnitude ≡ magnitudes (λ d. coefficient j d.terms) parts = ap (λ k. (amount_at t.columns k).magnitude) column ∙ is.left_magnitude j in
    let product : unsigned_abs by * unsigned_abs (coefficient j c.terms) ≡ unsigned_abs by * unsigned_abs u.1 = ap (λ z. unsigned_abs by * unsigned_abs z) number in
    omega (arith, here, total, product))
    (λ not.
    let product : unsigned_abs by * unsigned_abs (coefficient j c.terms) ≡ unsigned_abs by * 0 = ap (λ z. unsigned_abs by * unsigned_abs z) (coefficient_not j c.terms not) in
    let before = narrow.left j in
    omega (arith, before, product))
    (tested (has_column j c.terms))

narrow_with : (parts : List Part) (c : Ineq) (by : ℤ) (t : Totals) → IsRising c.terms → IsSumOf parts t → AreNarrow parts → is_wide_side by c t ≡ false → AreNarrow (parts ++ (c, by) ∷ [])
narrow_with parts c by t rising is narrow e =
    let both = or_false (list_any (is_wide_term by t) c.terms) (is_wide (plus by c.rhs t.rhs)) e in
    let right = narrow_amount (plus by c.rhs t.rhs) both.1 in
    record {
      left = (λ j. omega (arith, left_narrow parts c by t j rising is narrow both.0, magnitudes_push (λ d. coefficient j d.terms) parts (c, by)));
      right = omega (arith, right, is.right_magnitude, magnitudes_push (λ d. d.rhs) parts (c, by));
    }

with_narrow : (parts : List Part) (c : Ineq) (by : ℤ) (t : Totals) → IsRising c.terms → IsSumOf parts t → AreNarrow (parts ++ (c, by) ∷ []) → is_wide_side by c t ≡ false
with_narrow parts c by t rising is narrow =
    false_or (list_any (is_wide_term by t) c.terms) (is_wide (plus by c.rhs t.rhs))
    (any_none (is_wide_term by t) c.terms (λ i d l.
    let u = get_or c.terms i d in
    let number : unsigned_abs by * unsigned_abs (coefficient u.0 c.terms) ≡ unsigned_abs by * unsigned_abs u.1 = ap (λ z. unsigned_abs by * unsigned_abs z) (coefficient_at c.terms i d rising l) in
    let all = narrow.left u.0 in
    amount_narrow (plus by u.1 (amount_at t.columns u.0)) (omega (arith, all, number, is.left_magnitude u.0, magnitudes_push (λ d. coefficient u.0 d.terms) parts (c, by)))))
    (let all = narrow.right in amount_narrow (plus by c.rhs t.rhs) (omega (arith, all, is.right_magnitude, magnitudes_push (λ d. d.rhs) parts (c, by))))

-- a part more is too wide exactly where a sum of magnitudes is
pub narrow_more : (parts : List Part) (c : Ineq) (by : ℤ) (t : Totals) → IsRising c.terms → IsSumOf parts t → AreNarrow parts → (is_wide_side by c t ≡ false) ↔ AreNarrow (parts ++ (c, by) ∷ [])
narrow_more parts c by t rising is narrow = (narrow_with parts c by t rising is narrow, with_narrow parts c by t rising is)

pub narrow_none : AreNarrow []
narrow_none = record { left = (λ j. omega arith); right = omega arith }

magnitudes_first : (f : Ineq → ℤ) (parts more : List Part) → magnitudes f parts ≤ magnitudes f (parts ++ more)
magnitudes_first f [] more = omega arith
magnitudes_first f (part ∷ parts) more = let rest = magnitudes_first f parts more in omega (arith, rest)

-- what comes later takes nothing away
pub narrow_first : (parts more : List Part) → AreNarrow (parts ++ more) → AreNarrow parts
narrow_first parts more narrow = record {
  left = (λ j. let all = narrow.left j in omega (arith, all, magnitudes_first (λ d. coefficient j d.terms) parts more));
  right = let all = narrow.right in omega (arith, all, magnitudes_first (λ d. d.rhs) parts more);
}

-- ---- the claim

narrow_product : (q a : ℤ) → is_wide (plus q a nothing) ≡ false → IsNarrow (q *ℤ a)
narrow_product q a e = let here = narrow_amount (plus q a nothing) e in omega (arith, here, unsigned_abs-mul q a)

product_narrow : (q a : ℤ) → IsNarrow (q *ℤ a) → is_wide (plus q a nothing) ≡ false
product_narrow q a h = amount_narrow (plus q a nothing) (omega (arith, h, unsigned_abs-mul q a))

narrow_products : (q : ℤ) (terms : List Term) → list_any (λ u. is_wide (plus q u.1 nothing)) terms ≡ false → AllByRecursion (λ u. IsNarrow (q *ℤ u.1)) terms
narrow_products q [] e = tt
narrow_products q (u ∷ terms) e =
    let both = or_false (is_wide (plus q u.1 nothing)) (list_any (λ v. is_wide (plus q v.1 nothing)) terms) e in
    (narrow_product q u.1 both.0, narrow_products q terms both.1)

products_narrow : (q : ℤ) (terms : List Term) → AllByRecursion (λ u. IsNarrow (q *ℤ u.1)) terms → list_any (λ u. is_wide (plus q u.1 nothing)) terms ≡ false
products_narrow q [] all = refl
products_narrow q (u ∷ terms) all = false_or (is_wide (plus q u.1 nothing)) (list_any (λ v. is_wide (plus q v.1 nothing)) terms) (product_narrow q u.1 all.0) (products_narrow q terms all.1)

-- a weighted sum is right exactly where it is narrow, the claim times q is, and the sum proves the claim
pub right_from : (m : Model) (parts : List Part) (q : ℤ) (claim : Ineq) (t : Totals) → IsSumOf parts t → AllByRecursion (λ part. pos 0 ≤ℤ part.1) parts → pos 0 <ℤ q → AreColumns m claim.terms
    → AreNarrow parts → is_wide_claim q claim ≡ false → ProvesClaim q claim t → LinIsRight m parts q claim
right_from m parts q claim t is multipliers positive columns narrow e proves =
    let both = or_false (list_any (λ u. is_wide (plus q u.1 nothing)) claim.terms) (is_wide (plus q claim.rhs nothing)) e in
    record {
      multipliers = multipliers;
      positive = positive;
      columns = columns;
      left = (λ j. sym (is.left j) ∙ proves.left j);
      right = subst (λ (z : ℤ). (q *ℤ claim.rhs) ≤ℤ z) is.right proves.right;
      narrow_left = narrow.left;
      narrow_right = narrow.right;
      narrow_terms = narrow_products q claim.terms both.0;
      narrow_rhs = narrow_product q claim.rhs both.1;
    }

pub from_right : (m : Model) (parts : List Part) (q : ℤ) (claim : Ineq) (t : Totals) → IsSumOf parts t → LinIsRight m parts q claim
    → AreNarrow parts × (is_wide_claim q claim ≡ false) × ProvesClaim q claim t
from_right m parts q claim t is right = (
  record { left = right.narrow_left; right = right.narrow_right },
  false_or (list_any (λ u. is_wide (plus q u.1 nothing)) claim.terms) (is_wide (plus q claim.rhs nothing)) (products_narrow q claim.terms right.narrow_terms) (product_narrow q claim.rhs right.narrow_rhs),
  record { left = (λ j. is.left j ∙ right.left j); right = subst (λ (z : ℤ). (q *ℤ claim.rhs) ≤ℤ z) (sym is.right) right.right },
)
