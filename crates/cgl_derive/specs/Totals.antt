-- Weighted sums of inequalities, with the sums of the magnitudes.
use Rattle.std.specs.Prelude.{◌≡◌, ℕ, suc, ◌+◌, ◌*◌, ◌^◌, ◌<◌, ◌≤◌, ◌==◌, ◌||◌, ◌&&◌, nat_le, ℤ, pos, ◌+ℤ◌, ◌*ℤ◌, ◌≤ℤ◌, unsigned_abs, Bool, not, IsTrue, List, [], ◌∷◌, replicate, slice_index_or, length}
use Rattle.std.specs.List.{list_any}
use Rattle.std.specs.Ordering.{int_eq}
use Rattle.cgl_model.specs.declared.linear.Ineq.{Ineq}
use Rattle.cgl_model.specs.Inequality.{Term}
use Rattle.cgl_derive.specs.Derives.{Part, coefficient, weighted, magnitudes}

-- a sum of products, and the sum of their magnitudes
pub record Amount : Type 0 where
  pub value : ℤ
  pub magnitude : ℕ

-- an amount for each column, and one for the right side
pub record Totals : Type 0 where
  pub columns : List Amount
  pub rhs : Amount

abbrev pub nothing : Amount
nothing = record { value = pos 0; magnitude = 0 }

abbrev pub no_totals : ℕ → Totals
no_totals n = record { columns = replicate n nothing; rhs = nothing }

-- with a product more
abbrev pub plus : ℤ → ℤ → Amount → Amount
plus by number t = record { value = t.value +ℤ by *ℤ number; magnitude = t.magnitude + unsigned_abs by * unsigned_abs number }

-- the amount of column j
abbrev pub amount_at : List Amount → ℕ → Amount
amount_at columns j = slice_index_or columns j nothing

-- with a multiple of each coefficient more; the first column is the one with this number
abbrev pub plus_columns : ℤ → List Term → ℕ → List Amount → List Amount
plus_columns by terms j [] = []
plus_columns by terms j (t ∷ columns) = plus by (coefficient j terms) t ∷ plus_columns by terms (suc j) columns

-- with a multiple of terms and one of a right side more
abbrev pub plus_form : ℤ → List Term → ℤ → ℤ → Totals → Totals
plus_form left terms right rhs t = record { columns = plus_columns left terms 0 t.columns; rhs = plus right rhs t.rhs }

-- with a multiple of an inequality more
abbrev pub plus_side : ℤ → Ineq → Totals → Totals
plus_side by c t = plus_form by c.terms by c.rhs t

abbrev pub is_wide : Amount → Bool
is_wide t = nat_le (2 ^ 127) t.magnitude

-- a column's or the right side's sum of magnitudes would reach 2^127
abbrev pub is_wide_form : ℤ → List Term → ℤ → ℤ → Totals → Bool
is_wide_form left terms right rhs t = list_any (λ u. is_wide (plus left u.1 (amount_at t.columns u.0))) terms || is_wide (plus right rhs t.rhs)

abbrev pub is_wide_side : ℤ → Ineq → Totals → Bool
is_wide_side by c t = is_wide_form by c.terms by c.rhs t

-- a number of the claim, times q, reaches 2^127
abbrev pub is_wide_claim : ℤ → Ineq → Bool
is_wide_claim q c = list_any (λ u. is_wide (plus q u.1 nothing)) c.terms || is_wide (plus q c.rhs nothing)

-- the sum's left side is q times the claim's, and its right side at least q times the claim's
pub record ProvesClaim (q : ℤ) (c : Ineq) (t : Totals) : Type 0 where
  pub left : (j : ℕ) → (amount_at t.columns j).value ≡ q *ℤ coefficient j c.terms
  pub right : (q *ℤ c.rhs) ≤ℤ t.rhs.value

-- the amounts are those of the weighted sum of the parts
pub record IsSumOf (parts : List Part) (t : Totals) : Type 0 where
  pub left : (j : ℕ) → (amount_at t.columns j).value ≡ weighted (λ c. coefficient j c.terms) parts
  pub right : t.rhs.value ≡ weighted (λ c. c.rhs) parts
  pub left_magnitude : (j : ℕ) → (amount_at t.columns j).magnitude ≡ magnitudes (λ c. coefficient j c.terms) parts
  pub right_magnitude : t.rhs.magnitude ≡ magnitudes (λ c. c.rhs) parts

-- no sum of magnitudes of the weighted sum reaches 2^127
pub record AreNarrow (parts : List Part) : Type 0 where
  pub left : (j : ℕ) → magnitudes (λ c. coefficient j c.terms) parts < 2 ^ 127
  pub right : magnitudes (λ c. c.rhs) parts < 2 ^ 127

-- ---- what the running sum keeps

pub record IsAmount (t : Amount) : Type 0 where
  pub within : unsigned_abs t.value ≤ t.magnitude
  pub narrow : t.magnitude < 2 ^ 127

abbrev pub is_nothing : Amount → Bool
is_nothing t = int_eq t.value (pos 0) && t.magnitude == 0

abbrev pub is_among : ℕ → List ℕ → Bool
is_among j columns = list_any (λ k. j == k) columns

abbrev pub has_column : ℕ → List Term → Bool
has_column j terms = list_any (λ t. j == t.0) terms

-- the same, with the columns of the terms
abbrev pub AreTouchedWith : List Amount → List Term → List ℕ → Bool → Type 0
AreTouchedWith columns terms touched full = (j : ℕ) → IsTrue ((is_nothing (amount_at columns j) && not (has_column j terms)) || (full || is_among j touched))

-- the column's value is q times the term's
abbrev pub IsTimes : ℤ → List Amount → Term → Type 0
IsTimes q columns t = (amount_at columns t.0).value ≡ q *ℤ t.1

abbrev pub IsZeroOutside : List Amount → List Term → ℕ → Type 0
IsZeroOutside columns terms j = coefficient j terms ≡ pos 0 → (amount_at columns j).value ≡ pos 0

-- each column with an amount is among these, where the list was not given up
abbrev pub AreTouched : List Amount → List ℕ → Bool → Type 0
AreTouched columns touched full = (j : ℕ) → IsTrue (is_nothing (amount_at columns j) || (full || is_among j touched))

pub record IsKept (columns : List Amount) (touched : List ℕ) (full : Bool) : Type 0 where
  pub covered : AreTouched columns touched full
  pub size : length columns < 2 ^ 32
