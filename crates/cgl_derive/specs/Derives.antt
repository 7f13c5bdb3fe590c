-- When a list of steps proves an inequality.
use Rattle.std.specs.Prelude.{◌≡◌, ◌⊎◌, ℕ, zero, suc, ◌+◌, ◌*◌, ◌^◌, ◌<◌, ◌≤◌, ◌==◌, ℤ, pos, ◌+ℤ◌, ◌-ℤ◌, ◌*ℤ◌, ◌≤ℤ◌, ◌<ℤ◌, unsigned_abs, Bool, false, IsTrue, List, [], ◌∷◌, ◌++◌, length, if◌then◌else◌, Option, Some, None, option_map, unwrap_or, slice_get}
use Rattle.std.specs.List.{AllByRecursion, AllZip}
use lib.IntN.{neg_ℤ}
use Rattle.cgl_model.specs.declared.linear.Ineq.{Ineq}
use Rattle.cgl_model.specs.declared.mip.Model.{Model}
use Rattle.cgl_model.specs.IntegerForm.{forms_of, negated}
use Rattle.cgl_model.specs.Inequality.{Term}
use Rattle.cgl_derive.specs.declared.step.Ref.{Ref}
use Rattle.cgl_derive.specs.declared.step.Lin.{Lin}
use Rattle.cgl_derive.specs.declared.step.Round.{Round}
use Rattle.cgl_derive.specs.declared.step.Knap.{Knap}
use Rattle.cgl_derive.specs.declared.step.Step.{Step, out-Step}
use Rattle.cgl_derive.specs.declared.step.Step.TheOpen as step
use Rattle.cgl_derive.specs.declared.step.Split.{Split, out-Split}
use Rattle.cgl_derive.specs.declared.step.Derivation.{Derivation, out-Derivation}
use Rattle.cgl_derive.specs.Binary.{AreBinary, HoldsAtBits}
use Rattle.cgl_derive.specs.Knapsack.{IsSameSign, capacity, total_magnitude}
use Rattle.cgl_derive.specs.Meaning.{meaning}

-- one level of a step
abbrev pub Layer : Type 0
Layer = step.Step-F Step Derivation Split

abbrev pub claim_in : Layer → Ineq
claim_in (step.Lin lin) = lin.claim
claim_in (step.Round round) = round.claim
claim_in (step.Split split) = (out-Split split).claim
claim_in (step.Knap knap) = knap.claim

abbrev pub claim_of : Step → Ineq
claim_of s = claim_in (out-Step s)

-- ---- columns

abbrev pub IsColumn : Model → ℕ → Type 0
IsColumn m j = j < length m.cols

abbrev pub is_integer : Model → ℕ → Bool
is_integer m j = unwrap_or (option_map (λ c. c.integer) (slice_get m.cols j)) false

abbrev pub AreColumns : Model → List Term → Type 0
AreColumns m terms = AllByRecursion (λ t. IsColumn m t.0) terms

abbrev pub AreIntegers : Model → List Term → Type 0
AreIntegers m terms = AllByRecursion (λ t. IsTrue (is_integer m t.0)) terms

-- ---- weighted sums

abbrev pub Part : Type 0
Part = Ineq × ℤ

-- the coefficient of column j; terms of one column, which a list of the program never has, add up
abbrev pub coefficient : ℕ → List Term → ℤ
coefficient j [] = pos 0
coefficient j (t ∷ terms) = (if j == t.0 then t.1 else pos 0) +ℤ coefficient j terms

abbrev pub weighted : (Ineq → ℤ) → List Part → ℤ
weighted number [] = pos 0
weighted number (part ∷ parts) = part.1 *ℤ number part.0 +ℤ weighted number parts

abbrev pub magnitudes : (Ineq → ℤ) → List Part → ℕ
magnitudes number [] = 0
magnitudes number (part ∷ parts) = unsigned_abs part.1 * unsigned_abs (number part.0) + magnitudes number parts

abbrev pub IsNarrow : ℤ → Type 0
IsNarrow z = unsigned_abs z < 2 ^ 127

-- the weighted sum of the parts has q times the claim's left side, and a right side of at least q times the claim's
pub record LinIsRight (m : Model) (parts : List Part) (q : ℤ) (claim : Ineq) : Type 0 where
  pub multipliers : AllByRecursion (λ part. pos 0 ≤ℤ part.1) parts
  pub positive : pos 0 <ℤ q
  pub columns : AreColumns m claim.terms
  pub left : (j : ℕ) → weighted (λ c. coefficient j c.terms) parts ≡ q *ℤ coefficient j claim.terms
  pub right : (q *ℤ claim.rhs) ≤ℤ weighted (λ c. c.rhs) parts
  pub narrow_left : (j : ℕ) → magnitudes (λ c. coefficient j c.terms) parts < 2 ^ 127
  pub narrow_right : magnitudes (λ c. c.rhs) parts < 2 ^ 127
  pub narrow_terms : AllByRecursion (λ t. IsNarrow (q *ℤ t.1)) claim.terms
  pub narrow_rhs : IsNarrow (q *ℤ claim.rhs)

-- what the references mean, with their multipliers; none where one means nothing
abbrev pub onto_parts : Option Ineq → ℤ → Option (List Part) → Option (List Part)
onto_parts (Some c) by (Some parts) = Some ((c, by) ∷ parts)
onto_parts c by parts = None

abbrev pub parts_of : (Ref → Option Ineq) → List (Ref × ℤ) → Option (List Part)
parts_of means [] = Some []
parts_of means (r ∷ refs) = onto_parts (means r.0) r.1 (parts_of means refs)

abbrev pub IsRightLin : Model → Option (List Part) → Lin → Type 0
IsRightLin m None lin = ⊥
IsRightLin m (Some parts) lin = LinIsRight m parts lin.q lin.claim

-- ---- rounding

-- a term is g times another
abbrev pub IsTimes : ℤ → Term → Term → Type 0
IsTimes g t part = (t.0 ≡ part.0) × (t.1 ≡ g *ℤ part.1)

-- the claim is the inequality divided by g, its right side rounded up
pub record RoundIsRight (m : Model) (from : Ineq) (g : ℤ) (claim : Ineq) : Type 0 where
  pub positive : pos 0 <ℤ g
  pub columns : AreColumns m claim.terms
  pub integer : AreIntegers m from.terms
  pub terms : AllZip (IsTimes g) from.terms claim.terms
  pub reached : from.rhs ≤ℤ (g *ℤ claim.rhs)
  pub least : (g *ℤ (claim.rhs -ℤ pos 1)) <ℤ from.rhs

abbrev pub IsRightRound : Model → Option Ineq → Round → Type 0
IsRightRound m None round = ⊥
IsRightRound m (Some from) round = RoundIsRight m from round.g round.claim

-- ---- knapsacks

-- from an inequality over binary columns, whose capacity is from 0 on and small, each point of zeros and ones that meets
-- it meets the claim; the claim has columns of it alone, with coefficients of the same sign
pub record KnapIsRight (m : Model) (from : Ineq) (claim : Ineq) : Type 0 where
  pub columns : AreColumns m claim.terms
  pub binary : AreBinary m from.terms
  pub room : pos 0 ≤ℤ capacity from
  pub small : length from.terms * (unsigned_abs (capacity from) + 2) ≤ 50000000
  pub narrow_from : total_magnitude from.terms + unsigned_abs from.rhs < 2 ^ 127
  pub signs : AllByRecursion (λ t. IsSameSign (coefficient t.0 from.terms) t.1) claim.terms
  pub narrow_claim : total_magnitude claim.terms + unsigned_abs claim.rhs < 2 ^ 127
  pub holds : HoldsAtBits m from claim

abbrev pub IsRightKnap : Model → Option Ineq → Knap → Type 0
IsRightKnap m None knap = ⊥
IsRightKnap m (Some from) knap = KnapIsRight m from knap.claim

-- ---- lists of steps, under givens and visible claims

-- `p x <= p0`, and `p x >= p0 + 1`
abbrev pub below : List Term → ℤ → Ineq
below p p0 = record { terms = negated p; rhs = neg_ℤ p0 }

abbrev pub above : List Term → ℤ → Ineq
above p p0 = record { terms = p; rhs = p0 +ℤ pos 1 }

-- whether a list of steps proves an inequality: by the givens, the visible claims, the steps and the goal
abbrev pub Judge : Type 1
Judge = List Ineq → List Ineq → List Step → Ineq → Type 0

pub record SplitIsRight (m : Model) (inner : Judge) (givens claims : List Ineq) (s : Split) : Type 0 where
  pub narrow_low : IsNarrow (out-Split s).p0
  pub narrow_high : IsNarrow ((out-Split s).p0 +ℤ pos 1)
  pub columns : AreColumns m (out-Split s).p
  pub integer : AreIntegers m (out-Split s).p
  pub claim_columns : AreColumns m (out-Split s).claim.terms
  pub left : inner (givens ++ below (out-Split s).p (out-Split s).p0 ∷ []) claims (out-Derivation (out-Split s).left).steps (out-Split s).claim
  pub right : inner (givens ++ above (out-Split s).p (out-Split s).p0 ∷ []) claims (out-Derivation (out-Split s).right).steps (out-Split s).claim

abbrev pub IsRightIn : Model → List Ineq → Judge → List Ineq → List Ineq → Layer → Type 0
IsRightIn m shared inner givens claims (step.Lin lin) = IsRightLin m (parts_of (meaning (forms_of m).sides shared givens claims) lin.refs) lin
IsRightIn m shared inner givens claims (step.Round round) = IsRightRound m (meaning (forms_of m).sides shared givens claims round.from) round
IsRightIn m shared inner givens claims (step.Split s) = SplitIsRight m inner givens claims s
IsRightIn m shared inner givens claims (step.Knap knap) = IsRightKnap m (meaning (forms_of m).sides shared givens claims knap.from) knap

abbrev pub IsRight : Model → List Ineq → Judge → List Ineq → List Ineq → Step → Type 0
IsRight m shared inner givens claims s = IsRightIn m shared inner givens claims (out-Step s)

-- each step is right, where the claims before it are visible
abbrev pub AreRight : Model → List Ineq → Judge → List Ineq → List Ineq → List Step → Type 0
AreRight m shared inner givens claims [] = Unit {0}
AreRight m shared inner givens claims (s ∷ steps) =
    IsRight m shared inner givens claims s × AreRight m shared inner givens (claims ++ claim_of s ∷ []) steps

-- `0 >= b` with b above 0
abbrev pub IsAbsurd : Ineq → Type 0
IsAbsurd claim = (claim.terms ≡ []) × (pos 0 <ℤ claim.rhs)

-- the last claim is the goal itself
abbrev pub LastIs : List Step → Ineq → Type 0
LastIs [] goal = ⊥
LastIs (s ∷ []) goal = claim_of s ≡ goal
LastIs (s ∷ t ∷ steps) goal = LastIs (t ∷ steps) goal

-- the last claim is the goal, or absurd
abbrev pub EndsIn : List Step → Ineq → Type 0
EndsIn [] goal = ⊥
EndsIn (s ∷ []) goal = (claim_of s ≡ goal) ⊎ IsAbsurd (claim_of s)
EndsIn (s ∷ t ∷ steps) goal = EndsIn (t ∷ steps) goal

abbrev pub Proves : Model → List Ineq → Judge → Judge
Proves m shared inner givens claims steps goal = AreRight m shared inner givens claims steps × EndsIn steps goal

-- with at most n splits inside each other
unfoldable pub DerivesWithin : Model → List Ineq → ℕ → Judge
DerivesWithin m shared zero = Proves m shared (λ givens claims steps goal. ⊥)
DerivesWithin m shared (suc n) = Proves m shared (DerivesWithin m shared n)

-- the derivation proves the inequality from the model and the shared inequalities, with at most 64 splits inside each
-- other
abbrev pub Derives : Model → List Ineq → Derivation → Ineq → Type 0
Derives m shared d goal = DerivesWithin m shared 64 [] [] (out-Derivation d).steps goal
