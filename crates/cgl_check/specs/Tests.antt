-- The conditions of steps as tests.
use Rattle.std.specs.Prelude.{ℕ, zero, suc, ◌+◌, ◌*◌, ◌==◌, ◌^◌, nat_le, nat_lt, ℤ, pos, ◌+ℤ◌, ◌*ℤ◌, int_lt, unsigned_abs, Bool, true, false, ◌&&◌, ◌||◌, not, List, [], ◌∷◌, length, Option, Some, None, option_map, unwrap_or, slice_get}
use Rattle.std.specs.List.{AllByRecursion, list_all}
use Rattle.std.specs.Ordering.{int_eq}
use Rattle.cgl_num.specs.Decimal.{Decimal, zero_decimal}
use Rattle.cgl_model.specs.declared.linear.Ineq.{Ineq}
use Rattle.cgl_model.specs.declared.mip.Column.{Column}
use Rattle.cgl_model.specs.declared.mip.Model.{Model}
use Rattle.cgl_model.specs.Inequality.{Term}
use Rattle.cgl_derive.specs.declared.step.Step.{Step}
use Rattle.cgl_derive.specs.Binary.{one_decimal}
use Rattle.cgl_derive.specs.Derives.{AreColumns, Part, claim_of, coefficient, is_integer, magnitudes, weighted}
use Rattle.cgl_derive.specs.Knapsack.{capacity, total_magnitude}

-- ---- columns

abbrev pub are_columns : Model → List Term → Bool
are_columns m terms = list_all (λ t. nat_lt t.0 (length m.cols)) terms

abbrev pub are_integers : Model → List Term → Bool
are_integers m terms = list_all (λ t. is_integer m t.0) terms

abbrev pub same_decimal : Decimal → Decimal → Bool
same_decimal a b = int_eq a.m b.m && int_eq a.e b.e

abbrev pub is_bound : Decimal → Option Decimal → Bool
is_bound d None = false
is_bound d (Some limit) = same_decimal limit d

abbrev pub has_bits : Column → Bool
has_bits c = c.integer && (is_bound zero_decimal c.lo && is_bound one_decimal c.up)

abbrev pub is_binary : Model → ℕ → Bool
is_binary m j = unwrap_or (option_map has_bits (slice_get m.cols j)) false

abbrev pub are_binary : Model → List Term → Bool
are_binary m terms = list_all (λ t. is_binary m t.0) terms

-- the inequalities have columns of the model alone
abbrev pub AreOverColumns : Model → List Ineq → Type 0
AreOverColumns m inequalities = AllByRecursion (λ c. AreColumns m c.terms) inequalities

-- ---- sizes

abbrev pub reaches : ℕ → Bool
reaches n = nat_le (2 ^ 127) n

abbrev pub is_wide_number : ℤ → Bool
is_wide_number z = reaches (unsigned_abs z)

-- ---- inequalities that are equal, and ends of lists

abbrev pub same_terms : List Term → List Term → Bool
same_terms [] [] = true
same_terms [] (u ∷ us) = false
same_terms (t ∷ ts) [] = false
same_terms (t ∷ ts) (u ∷ us) = (t.0 == u.0 && int_eq t.1 u.1) && same_terms ts us

abbrev pub same_ineq : Ineq → Ineq → Bool
same_ineq a b = same_terms a.terms b.terms && int_eq a.rhs b.rhs

abbrev pub is_absurd : Ineq → Bool
is_absurd claim = length claim.terms == 0 && int_lt (pos 0) claim.rhs

-- the last claim is the goal, or absurd
abbrev pub ends_in : List Step → Ineq → Bool
ends_in [] goal = false
ends_in (s ∷ []) goal = same_ineq (claim_of s) goal || is_absurd (claim_of s)
ends_in (s ∷ t ∷ steps) goal = ends_in (t ∷ steps) goal

-- ---- weighted sums

-- for each of the first n columns
abbrev pub all_below : ℕ → (ℕ → Bool) → Bool
all_below zero test = true
all_below (suc n) test = all_below n test && test n

abbrev pub are_narrow_sums : Model → List Part → Bool
are_narrow_sums m parts = all_below (length m.cols) (λ j. not (reaches (magnitudes (λ c. coefficient j c.terms) parts))) && not (reaches (magnitudes (λ c. c.rhs) parts))

-- the left side is q times the claim's, and the right side at least q times the claim's
abbrev pub is_claimed : Model → List Part → ℤ → Ineq → Bool
is_claimed m parts q claim =
    all_below (length m.cols) (λ j. int_eq (weighted (λ c. coefficient j c.terms) parts) (q *ℤ coefficient j claim.terms)) && not (int_lt (weighted (λ c. c.rhs) parts) (q *ℤ claim.rhs))

-- ---- knapsacks

-- the capacity is at least 0 and within the limit, and the sum of magnitudes does not reach 2^127
abbrev pub is_small : Ineq → Bool
is_small from =
    not (int_lt (capacity from) (pos 0)) && (nat_le (length from.terms * (unsigned_abs (capacity from) + 2)) 50000000 && not (reaches (total_magnitude from.terms + unsigned_abs from.rhs)))

-- both are above 0, or both below
abbrev pub same_sign : ℤ → ℤ → Bool
same_sign a u = (int_lt (pos 0) a && int_lt (pos 0) u) || (int_lt a (pos 0) && int_lt u (pos 0))

abbrev pub has_signs : List Term → List Term → Bool
has_signs from claim = list_all (λ t. same_sign (coefficient t.0 from) t.1) claim

-- each condition of a knapsack step but the last
abbrev pub is_knapsack : Model → Ineq → Ineq → Bool
is_knapsack m from claim = are_binary m from.terms && (is_small from && (has_signs from.terms claim.terms && not (reaches (total_magnitude claim.terms + unsigned_abs claim.rhs))))
