-- Derivations over three small models.
use Rattle.std.specs.Prelude.{ℕ, zero, suc, ◌+◌, ℤ, pos, negsuc, ◌^◌, Bool, true, false, List, [], ◌∷◌, codes, Some, None}
use Rattle.cgl_num.specs.Decimal.{Decimal}
use Rattle.cgl_model.specs.declared.linear.Ineq.{Ineq}
use Rattle.cgl_model.specs.declared.mip.Column.{Column}
use Rattle.cgl_model.specs.declared.mip.Model.{Model}
use Rattle.cgl_model.specs.declared.mip.Row.{Row}
use Rattle.cgl_model.specs.declared.mip.RowKind.{RowKind}
use Rattle.cgl_model.specs.declared.mip.RowKind.TheVariants.{L, E}
use Rattle.cgl_model.specs.declared.places.End.{End}
use Rattle.cgl_model.specs.declared.places.End.TheVariants.{Lower, Upper}
use Rattle.cgl_model.specs.declared.places.Place.TheVariants.{Row as RowPlace}
use Rattle.cgl_model.specs.Inequality.{Term}
use Rattle.cgl_derive.specs.declared.step.Ref.{Ref}
use Rattle.cgl_derive.specs.declared.step.Ref.TheVariants as by
use Rattle.cgl_derive.specs.declared.step.Step.TheOpen as step
use Rattle.cgl_derive.specs.declared.step.Split.{Split, roll-Split}
use Rattle.cgl_derive.specs.declared.step.Derivation.{Derivation}
use Rattle.cgl_derive.specs.Derives.{Layer}
use Rattle.cgl_derive.specs.Layers.{derivation}

-- ---- models

abbrev pub whole : ℤ → Decimal
whole number = record { m = number; e = pos 0 }

abbrev pub row_of : RowKind → ℤ → Row
row_of kind rhs = record { name = codes "R1"; kind = kind; rhs = whole rhs; range = None }

-- a column of the row, at least 0
abbrev pub column_of : Bool → ℤ → Column
column_of integer coefficient = record { name = codes "x"; integer = integer; lo = Some (whole (pos 0)); up = None; entries = (0, whole coefficient) ∷ [] }

abbrev pub model_of : Row → List Column → Model
model_of row columns = record { name = []; maximise = false; rows = row ∷ []; cols = columns }

-- 2x <= 3 with x integer
abbrev pub one_column : Model
one_column = model_of (row_of L (pos 3)) (column_of true (pos 2) ∷ [])

-- 2x - s <= 3 with x integer and s continuous
abbrev pub two_columns : Model
two_columns = model_of (row_of L (pos 3)) (column_of true (pos 2) ∷ record (column_of false (negsuc 0)) { name = codes "s" } ∷ [])

-- 2x = 1 with x integer
abbrev pub infeasible : Model
infeasible = model_of (row_of E (pos 1)) (column_of true (pos 2) ∷ [])

-- ---- inequalities

abbrev pub ineq : List Term → ℤ → Ineq
ineq terms rhs = record { terms = terms; rhs = rhs }

-- a x >= b
abbrev pub at_least : ℤ → ℤ → Ineq
at_least a b = ineq ((0, a) ∷ []) b

-- -x >= -1
abbrev pub at_most_one : Ineq
at_most_one = at_least (negsuc 0) (negsuc 0)

-- ---- steps

abbrev pub end_of_row : End → Ref
end_of_row end = by.Side (RowPlace 0 end)

abbrev pub lin : ℤ → List (Ref × ℤ) → Ineq → Layer
lin q refs claim = step.Lin (record { refs = refs; q = q; claim = claim })

abbrev pub round : ℤ → Ref → Ineq → Layer
round g from claim = step.Round (record { from = from; g = g; claim = claim })

-- ---- over one column

-- the upper end of the row, -2x >= -3, divided by 2
abbrev pub halved : Derivation
halved = derivation (round (pos 2) (end_of_row Upper) at_most_one ∷ [])

-- the same divided by 3
abbrev pub by_three : Derivation
by_three = derivation (round (pos 3) (end_of_row Upper) at_most_one ∷ [])

-- the same divided by 2, its right side one too great
abbrev pub too_great : Derivation
too_great = derivation (round (pos 2) (end_of_row Upper) (at_least (negsuc 0) (pos 0)) ∷ [])

-- from these references, each with its multiplier
abbrev pub summed : List (Ref × ℤ) → Ineq → Derivation
summed refs claim = derivation (lin (pos 1) refs claim ∷ [])

-- -2x >= -3, times 2^126
abbrev pub too_wide : Derivation
too_wide = derivation (lin (pos (2 ^ 126)) ((end_of_row Upper, pos (2 ^ 126)) ∷ []) (at_least (negsuc 1) (negsuc 2)) ∷ [])

-- y >= 0 for a second column
abbrev pub other_column : Ineq
other_column = ineq ((1, pos 1) ∷ []) (pos 0)

-- the cases x <= 1, proved by a list, and x >= 2, under d givens: twice the case with twice -2x >= -3
abbrev pub cases : ℕ → Derivation → Split
cases d left = roll-Split (record {
  p = (0, pos 1) ∷ [];
  p0 = pos 1;
  left = left;
  right = derivation (lin (pos 2) ((by.Given d, pos 2) ∷ (end_of_row Upper, pos 2) ∷ []) at_most_one ∷ []);
  claim = at_most_one;
})

-- twice the case x <= 1
abbrev pub left_case : ℕ → Derivation
left_case d = derivation (lin (pos 2) ((by.Given d, pos 2) ∷ []) at_most_one ∷ [])

abbrev pub by_cases : Derivation
by_cases = derivation (step.Split (cases 0 (left_case 0)) ∷ [])

-- the same, but the right case ends in its own assumption, x >= 2
abbrev pub other_cases : Split
other_cases = roll-Split (record {
  p = (0, pos 1) ∷ [];
  p0 = pos 1;
  left = left_case 0;
  right = derivation (lin (pos 1) ((by.Given 0, pos 1) ∷ []) (at_least (pos 1) (pos 2)) ∷ []);
  claim = at_most_one;
})

abbrev pub other_end : Derivation
other_end = derivation (step.Split other_cases ∷ [])

-- under d givens, cases with n more splits inside each other on the left
unfoldable pub nested : ℕ → ℕ → Derivation
nested zero d = derivation (step.Split (cases d (left_case d)) ∷ [])
nested (suc n) d = derivation (step.Split (cases d (nested n (d + 1))) ∷ [])

-- ---- over two columns

-- -2x + s >= -3, divided by 1
abbrev pub over_continuous : Derivation
over_continuous = let end = ineq ((0, negsuc 1) ∷ (1, pos 1) ∷ []) (negsuc 2) in derivation (round (pos 1) (end_of_row Upper) end ∷ [])

-- ---- of the model without a point

-- x >= 1 and -x >= 0, whose sum is 0 >= 1
abbrev pub contradiction : Derivation
contradiction =
    derivation
    (round (pos 2) (end_of_row Lower) (at_least (pos 1) (pos 1))
    ∷ round (pos 2) (end_of_row Upper) (at_least (negsuc 0) (pos 0))
    ∷ lin (pos 1) ((by.Step 0, pos 1) ∷ (by.Step 1, pos 1) ∷ []) (ineq [] (pos 1))
    ∷ [])

-- ---- repeated columns

-- x - 5x >= 1
abbrev pub repeated_column : Ineq
repeated_column = ineq ((0, pos 1) ∷ (0, negsuc 4) ∷ []) (pos 1)
