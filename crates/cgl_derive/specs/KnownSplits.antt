-- Derivations over small models, by sums and by cases.
use Rattle.std.specs.Prelude.{◌^◌, ◌∷◌, [], List, pos, ℤ, ◌-ℤ◌}
use Rattle.cgl_model.specs.declared.linear.Ineq.{Ineq}
use Rattle.cgl_model.specs.declared.places.End.TheVariants.{Lower, Upper}
use Rattle.cgl_model.specs.Inequality.{Term}
use Rattle.cgl_derive.specs.declared.step.Ref.{Ref}
use Rattle.cgl_derive.specs.declared.step.Ref.TheVariants as by
use Rattle.cgl_derive.specs.declared.step.Step.TheOpen as step
use Rattle.cgl_derive.specs.declared.step.Split.{Split, roll-Split}
use Rattle.cgl_derive.specs.declared.step.Derivation.{Derivation}
use Rattle.cgl_derive.specs.KnownDerivations.{at_least, at_most_one, cases, end_of_row, ineq, left_case, lin, round, summed}
use Rattle.cgl_derive.specs.Layers.{derivation}

-- ---- sums

-- 0 >= 0
abbrev pub nothing_said : Ineq
nothing_said = ineq [] (pos 0)

-- x >= 7 from no references, with q = 0
abbrev pub by_zero : Derivation
by_zero = derivation (lin (pos 0) [] (at_least (pos 1) (pos 7)) ∷ [])

-- both ends of an equation, each so often
abbrev pub opposite_ends : ℤ → Derivation
opposite_ends times = summed ((end_of_row Lower, times) ∷ (end_of_row Upper, times) ∷ []) nothing_said

-- ---- cases

abbrev pub split : List Term → ℤ → Derivation → Derivation → Ineq → Split
split p p0 left right claim = roll-Split (record { p = p; p0 = p0; left = left; right = right; claim = claim })

-- the cases x <= 1 and x >= 2
abbrev pub at_one : Derivation → Derivation → Ineq → Split
at_one left right claim = split ((0, pos 1) ∷ []) (pos 1) left right claim

-- what a reference means, as it stands
abbrev pub taken : Ref → Derivation
taken from = summed ((from, pos 1) ∷ []) at_most_one

abbrev pub once : Split → Derivation
once s = derivation (step.Split s ∷ [])

-- the right list takes its given for that of the left
abbrev pub one_case_twice : Derivation
one_case_twice = once (at_one (left_case 0) (left_case 0) at_most_one)

-- the right list ends in 0 >= 1
abbrev pub to_absurd : Derivation
to_absurd = derivation (lin (pos 1) ((by.Given 0, pos 2) ∷ (end_of_row Upper, pos 1) ∷ []) (ineq [] (pos 1)) ∷ [])

abbrev pub absurd_case : Derivation
absurd_case = once (at_one (left_case 0) to_absurd at_most_one)

-- each list takes the claim that stands before the cases
abbrev pub claim_before : Derivation
claim_before =
    derivation
    (round (pos 2) (end_of_row Upper) at_most_one
    ∷ step.Split (at_one (taken (by.Step 0)) (taken (by.Step 0)) at_most_one)
    ∷ [])

-- after the cases, a step that takes this
abbrev pub after_cases : Ref → Derivation
after_cases from = derivation (step.Split (cases 0 (left_case 0)) ∷ lin (pos 1) ((from, pos 1) ∷ []) at_most_one ∷ [])

-- the cases s <= 0 and s >= 1 of the second column
abbrev pub continuous_cases : Derivation
continuous_cases = once (split ((1, pos 1) ∷ []) (pos 0) (summed [] nothing_said) (summed [] nothing_said) nothing_said)

-- the cases x <= p0 and x >= p0 + 1
abbrev pub cases_at : ℤ → Derivation
cases_at p0 = once (split ((0, pos 1) ∷ []) p0 (summed [] nothing_said) (summed [] nothing_said) nothing_said)

-- 2^127 - 1
abbrev pub greatest : ℤ
greatest = pos (2 ^ 127) -ℤ pos 1
