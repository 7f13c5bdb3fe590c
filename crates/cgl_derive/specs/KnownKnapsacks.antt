-- Small models of binary columns, and knapsack steps over them.
use Rattle.std.specs.Prelude.{ℤ, pos, negsuc, ◌^◌, true, [], ◌∷◌, Some}
use Rattle.cgl_model.specs.declared.linear.Ineq.{Ineq}
use Rattle.cgl_model.specs.declared.mip.Column.{Column}
use Rattle.cgl_model.specs.declared.mip.Model.{Model}
use Rattle.cgl_model.specs.declared.mip.RowKind.TheVariants.{L, G}
use Rattle.cgl_model.specs.declared.places.End.{End}
use Rattle.cgl_model.specs.declared.places.Place.TheVariants.{Bound}
use Rattle.cgl_derive.specs.declared.step.Ref.{Ref}
use Rattle.cgl_derive.specs.declared.step.Ref.TheVariants as by
use Rattle.cgl_derive.specs.declared.step.Step.TheOpen as step
use Rattle.cgl_derive.specs.declared.step.Derivation.{Derivation}
use Rattle.cgl_derive.specs.Derives.{Layer}
use Rattle.cgl_derive.specs.KnownDerivations.{at_least, column_of, ineq, model_of, row_of, whole}
use Rattle.cgl_derive.specs.Layers.{derivation}

-- ---- models

-- a binary column of the row
abbrev pub binary : ℤ → Column
binary coefficient = record (column_of true coefficient) { up = Some (whole (pos 1)) }

-- 2a + 2b + 2c + 4d <= 5
abbrev pub four_weights : Model
four_weights = model_of (row_of L (pos 5)) (binary (pos 2) ∷ binary (pos 2) ∷ binary (pos 2) ∷ binary (pos 4) ∷ [])

-- 3a + 4b - 5c <= 3
abbrev pub both_signs : Model
both_signs = model_of (row_of L (pos 3)) (binary (pos 3) ∷ binary (pos 4) ∷ binary (negsuc 4) ∷ [])

-- 3a + 4b + 5c >= 4
abbrev pub enough : Model
enough = model_of (row_of G (pos 4)) (binary (pos 3) ∷ binary (pos 4) ∷ binary (pos 5) ∷ [])

-- ---- steps

abbrev pub knap : Ref → Ineq → Layer
knap from claim = step.Knap (record { from = from; claim = claim })

abbrev pub by_knap : Ref → Ineq → Derivation
by_knap from claim = derivation (knap from claim ∷ [])

abbrev pub end_of_first : End → Ref
end_of_first end = by.Side (Bound 0 end)

-- ---- over four weights

-- -a - b - c - 2d >= -2
abbrev pub lifted_cover : Ineq
lifted_cover = ineq ((0, negsuc 0) ∷ (1, negsuc 0) ∷ (2, negsuc 0) ∷ (3, negsuc 1) ∷ []) (negsuc 1)

-- -a - b - c - 3d >= -2
abbrev pub lifted_too_far : Ineq
lifted_too_far = ineq ((0, negsuc 0) ∷ (1, negsuc 0) ∷ (2, negsuc 0) ∷ (3, negsuc 2) ∷ []) (negsuc 1)

-- ---- over both signs

-- -b + c >= 0
abbrev pub complemented : Ineq
complemented = ineq ((1, negsuc 0) ∷ (2, pos 1) ∷ []) (pos 0)

-- -b - c >= 0
abbrev pub turned : Ineq
turned = ineq ((1, negsuc 0) ∷ (2, negsuc 0) ∷ []) (pos 0)

-- ---- over enough

-- b + c >= 1
abbrev pub one_of_two : Ineq
one_of_two = ineq ((1, pos 1) ∷ (2, pos 1) ∷ []) (pos 1)

-- ---- from shared inequalities

-- -a >= -b
abbrev pub at_most : ℤ → Ineq
at_most bound = at_least (negsuc 0) bound

-- 2^126 a >= b
abbrev pub great_multiple : ℤ → Ineq
great_multiple bound = at_least (pos (2 ^ 126)) bound
