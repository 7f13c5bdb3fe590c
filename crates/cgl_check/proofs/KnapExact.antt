-- A knapsack step has no failure exactly where it is right.
use Rattle.std.proofs.Common.{◌≡◌, ◌⊎◌, ◌↔◌, ℕ, zero, suc, ℤ, pos, ◌+◌, ◌*◌, ◌<◌, ◌≤◌, ◌^◌, List, [], ◌∷◌, length, Option, Some, None, Bool, true, false, not, ◌&&◌, ◌||◌, refl, sym, ap, ◌∙◌, subst, inl, inr, ⊎_elim, arith}
use Rattle.std.specs.Prelude.{◌≤ℤ◌, ◌<ℤ◌, int_lt, nat_le, unsigned_abs, slice_get, option_map, unwrap_or, IsTrue}
use Rattle.std.specs.List.{AllByRecursion}
use Rattle.std.specs.Ordering.{int_eq}
use Rattle.std.proofs.lemmas.Int.{ints}
use Rattle.std.proofs.lemmas.Bool.Decides.{nat_tests}
use Rattle.cgl_num.specs.Decimal.{Decimal, zero_decimal}
use Rattle.cgl_model.specs.declared.linear.Ineq.{Ineq}
use Rattle.cgl_model.specs.declared.mip.Column.{Column}
use Rattle.cgl_model.specs.declared.mip.Model.{Model}
use Rattle.cgl_model.specs.Inequality.{Term}
use Rattle.cgl_derive.specs.declared.step.Ref.{Ref}
use Rattle.cgl_derive.specs.declared.step.Knap.{Knap}
use Rattle.cgl_derive.specs.Binary.{AreBinary, HoldsAtBits, IsBinary, IsBinaryAt, holds_at_bits, one_decimal}
use Rattle.cgl_derive.specs.Derives.{AreColumns, IsRightKnap, KnapIsRight, coefficient}
use Rattle.cgl_derive.specs.Knapsack.{IsSameSign, capacity, total_magnitude}
use Rattle.cgl_check.specs.FirstFailure.{knap_failure, knapsack_failure, bad_ref, knapsack_form, knapsack_value}
use Rattle.cgl_check.specs.Tests.{are_binary, are_columns, has_bits, has_signs, is_binary, is_bound, is_knapsack, is_small, reaches, same_decimal, same_sign}
use Rattle.cgl_check.proofs.Ground.{BitsAreTested}
use Rattle.cgl_check.proofs.TestLaws.{and_true, true_and, or_true, true_or, not_false, not_true, not_of_false, not_of_true, fails_none, none_fails, columns_hold, columns_pass, reaches_not, not_reaches, int_same, same_int, int_less, less_int, int_not_less, not_less_int}

-- ---- binary columns

decimal_is : (a b : Decimal) → same_decimal a b ≡ true → a ≡ b
decimal_is a b e =
    let both = and_true (int_eq a.m b.m) (int_eq a.e b.e) e in
    let by_number : ℤ → Decimal = λ z. record { m = z; e = a.e } in
    let by_exponent : ℤ → Decimal = λ z. record { m = b.m; e = z } in
    ap by_number (int_same a.m b.m both.0) ∙ ap by_exponent (int_same a.e b.e both.1)

same_decimal_self : (d : Decimal) → same_decimal d d ≡ true
same_decimal_self d = true_and _ _ (same_int d.m d.m refl) (same_int d.e d.e refl)

bound_is : (d : Decimal) (o : Option Decimal) → is_bound d o ≡ true → o ≡ Some d
bound_is d None e = cc
bound_is d (Some limit) e = ap Some (decimal_is limit d e)

is_bound_of : (d : Decimal) (o : Option Decimal) → o ≡ Some d → is_bound d o ≡ true
is_bound_of d o e = ap (is_bound d) e ∙ same_decimal_self d

pub bits_hold : (c : Column) → has_bits c ≡ true → IsBinary c
bits_hold c e =
    let first = and_true c.integer (is_bound zero_decimal c.lo && is_bound one_decimal c.up) e in
    let second = and_true (is_bound zero_decimal c.lo) (is_bound one_decimal c.up) first.1 in
    record { integer = first.0; lower = bound_is zero_decimal c.lo second.0; upper = bound_is one_decimal c.up second.1 }

pub bits_pass : (c : Column) → IsBinary c → has_bits c ≡ true
bits_pass c b = true_and _ _ b.integer (true_and _ _ (is_bound_of zero_decimal c.lo b.lower) (is_bound_of one_decimal c.up b.upper))

binary_in : (o : Option Column) → unwrap_or (option_map has_bits o) false ≡ true → (c : Column) × (o ≡ Some c) × IsBinary c
binary_in None e = cc
binary_in (Some c) e = (c, refl, bits_hold c e)

pub binary_hold : (m : Model) (terms : List Term) → are_binary m terms ≡ true → AreBinary m terms
binary_hold m [] e = tt
binary_hold m (t ∷ terms) e = let both = and_true (is_binary m t.0) (are_binary m terms) e in (binary_in (slice_get m.cols t.0) both.0, binary_hold m terms both.1)

in_binary : (m : Model) (j : ℕ) → IsBinaryAt m j → is_binary m j ≡ true
in_binary m j b = ap (λ o. unwrap_or (option_map has_bits o) false) b.1 ∙ bits_pass b.0 b.2

pub binary_pass : (m : Model) (terms : List Term) → AreBinary m terms → are_binary m terms ≡ true
binary_pass m [] all = refl
binary_pass m (t ∷ terms) all = true_and _ _ (in_binary m t.0 all.0) (binary_pass m terms all.1)

-- ---- signs

sign_holds : (a u : ℤ) → same_sign a u ≡ true → IsSameSign a u
sign_holds a u e = ⊎_elim
    (λ l. let both = and_true (int_lt (pos 0) a) (int_lt (pos 0) u) l in inl (int_less (pos 0) a both.0, int_less (pos 0) u both.1))
    (λ r. let both = and_true (int_lt a (pos 0)) (int_lt u (pos 0)) r in inr (int_less a (pos 0) both.0, int_less u (pos 0) both.1))
    (or_true (int_lt (pos 0) a && int_lt (pos 0) u) (int_lt a (pos 0) && int_lt u (pos 0)) e)

sign_passes : (a u : ℤ) → IsSameSign a u → same_sign a u ≡ true
sign_passes a u (inl s) = true_or _ _ (inl (true_and _ _ (less_int (pos 0) a s.0) (less_int (pos 0) u s.1)))
sign_passes a u (inr s) = true_or (int_lt (pos 0) a && int_lt (pos 0) u) _ (inr (true_and _ _ (less_int a (pos 0) s.0) (less_int u (pos 0) s.1)))

pub signs_hold : (from claim : List Term) → has_signs from claim ≡ true → AllByRecursion (λ t. IsSameSign (coefficient t.0 from) t.1) claim
signs_hold from [] e = tt
signs_hold from (t ∷ claim) e = let both = and_true (same_sign (coefficient t.0 from) t.1) (has_signs from claim) e in (sign_holds (coefficient t.0 from) t.1 both.0, signs_hold from claim both.1)

pub signs_pass : (from claim : List Term) → AllByRecursion (λ t. IsSameSign (coefficient t.0 from) t.1) claim → has_signs from claim ≡ true
signs_pass from [] all = refl
signs_pass from (t ∷ claim) all = true_and _ _ (sign_passes (coefficient t.0 from) t.1 all.0) (signs_pass from claim all.1)

-- ---- limits

le_holds : (a b : ℕ) → nat_le a b ≡ true → a ≤ b
le_holds a b e = grind (arith, nat_tests, e)

le_passes : (a b : ℕ) → a ≤ b → nat_le a b ≡ true
le_passes a b h = grind (arith, nat_tests, h)

pub record IsSmall (from : Ineq) : Type 0 where
  pub room : pos 0 ≤ℤ capacity from
  pub small : length from.terms * (unsigned_abs (capacity from) + 2) ≤ 50000000
  pub narrow : total_magnitude from.terms + unsigned_abs from.rhs < 2 ^ 127

pub small_holds : (from : Ineq) → is_small from ≡ true → IsSmall from
small_holds from e =
    let first = and_true (not (int_lt (capacity from) (pos 0))) (nat_le (length from.terms * (unsigned_abs (capacity from) + 2)) 50000000 && not (reaches (total_magnitude from.terms + unsigned_abs from.rhs))) e in
    let second = and_true (nat_le (length from.terms * (unsigned_abs (capacity from) + 2)) 50000000) (not (reaches (total_magnitude from.terms + unsigned_abs from.rhs))) first.1 in
    record { room = int_not_less (capacity from) (pos 0) (not_true _ first.0); small = le_holds _ _ second.0; narrow = reaches_not _ (not_true _ second.1) }

pub small_passes : (from : Ineq) → pos 0 ≤ℤ capacity from → length from.terms * (unsigned_abs (capacity from) + 2) ≤ 50000000 → total_magnitude from.terms + unsigned_abs from.rhs < 2 ^ 127 → is_small from ≡ true
small_passes from room small narrow =
    true_and _ _ (not_of_false _ (not_less_int (capacity from) (pos 0) room)) (true_and _ _ (le_passes _ _ small) (not_of_false _ (not_reaches _ narrow)))

-- ---- the step

knapsack_right : BitsAreTested → (m : Model) (knap : Knap) (o : Option Ineq) → knapsack_failure m knap o ≡ None → AreColumns m knap.claim.terms → IsRightKnap m o knap
knapsack_right bits m knap None e columns = cc
knapsack_right bits m knap (Some from) e columns =
    let claim = knap.claim in
    let form = fails_none (not (is_knapsack m from claim)) knapsack_form _ e in
    let value = fails_none (not (holds_at_bits m from claim)) knapsack_value None form.1 in
    let binary = and_true (are_binary m from.terms) (is_small from && (has_signs from.terms claim.terms && not (reaches (total_magnitude claim.terms + unsigned_abs claim.rhs)))) (not_false _ form.0) in
    let small = and_true (is_small from) (has_signs from.terms claim.terms && not (reaches (total_magnitude claim.terms + unsigned_abs claim.rhs))) binary.1 in
    let signs = and_true (has_signs from.terms claim.terms) (not (reaches (total_magnitude claim.terms + unsigned_abs claim.rhs))) small.1 in
    let limits = small_holds from small.0 in
    record {
      columns = columns;
      binary = binary_hold m from.terms binary.0;
      room = limits.room;
      small = limits.small;
      narrow_from = limits.narrow;
      signs = signs_hold from.terms claim.terms signs.0;
      narrow_claim = reaches_not _ (not_true _ signs.1);
      holds = (bits m from claim).0 (not_false _ value.0);
    }

right_knapsack : BitsAreTested → (m : Model) (knap : Knap) (o : Option Ineq) → IsRightKnap m o knap → (knapsack_failure m knap o ≡ None) × AreColumns m knap.claim.terms
right_knapsack bits m knap None right = absurd right
right_knapsack bits m knap (Some from) right =
    let claim = knap.claim in (
      none_fails (not (is_knapsack m from claim)) knapsack_form _
          (not_of_true _ (true_and _ _ (binary_pass m from.terms right.binary)
          (true_and _ _ (small_passes from right.room right.small right.narrow_from)
          (true_and _ _ (signs_pass from.terms claim.terms right.signs) (not_of_false _ (not_reaches _ right.narrow_claim))))))
          (none_fails (not (holds_at_bits m from claim)) knapsack_value None (not_of_true _ ((bits m from claim).1 right.holds)) refl),
      right.columns,
    )

pub knap_exact : BitsAreTested → (m : Model) (means : Ref → Option Ineq) (knap : Knap) → (knap_failure m means knap ≡ None) ↔ IsRightKnap m (means knap.from) knap
knap_exact bits m means knap = (
  (λ e.
      let first = fails_none (not (are_columns m knap.claim.terms)) bad_ref _ e in
      knapsack_right bits m knap (means knap.from) first.1 (columns_hold m knap.claim.terms (not_false _ first.0))),
  (λ right.
      let both = right_knapsack bits m knap (means knap.from) right in
      none_fails (not (are_columns m knap.claim.terms)) bad_ref _ (not_of_true _ (columns_pass m knap.claim.terms both.1)) both.0),
)
