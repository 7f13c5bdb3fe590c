-- The lists that enclose a place in a derivation, told by the splits that were entered on the way to it.
use Rattle.std.specs.Prelude.{◌≡◌, ℕ, ℤ, pos, ◌+ℤ◌, List, [], ◌∷◌, ◌++◌, map, take, Option, Some, None, option_and_then, slice_get, unwrap_or}
use Rattle.cgl_model.specs.declared.linear.Ineq.{Ineq}
use Rattle.cgl_model.specs.IntegerForm.{forms_of}
use Rattle.cgl_derive.specs.declared.step.Knap.{Knap}
use Rattle.cgl_derive.specs.declared.step.Ref.{Ref}
use Rattle.cgl_derive.specs.declared.step.Step.{Step, out-Step}
use Rattle.cgl_derive.specs.declared.step.Step.TheOpen as step
use Rattle.cgl_derive.specs.declared.step.Split.{Split, out-Split}
use Rattle.cgl_derive.specs.declared.step.Derivation.{out-Derivation}
use Rattle.cgl_derive.specs.Derives.{IsNarrow, Layer, Part, above, below, claim_of, parts_of}
use Rattle.cgl_derive.specs.Meaning.{meaning}
use Rattle.cgl_check.specs.declared.path.Branch.{Branch}
use Rattle.cgl_check.specs.declared.path.Branch.TheVariants.{Left, Right}
use Rattle.cgl_check.specs.declared.path.Reject.{Reject}
use Rattle.cgl_check.specs.declared.frames.Frame.{Frame}
use Rattle.cgl_check.specs.declared.scope.Scope.{Scope}
use Rattle.cgl_check.specs.Tests.{AreOverColumns}

-- ---- one split

abbrev pub split_in : Layer → Option Split
split_in (step.Lin lin) = None
split_in (step.Round round) = None
split_in (step.Split s) = Some s
split_in (step.Knap knap) = None

-- the split that is step k
abbrev pub split_at : List Step → ℕ → Option Split
split_at steps k = option_and_then (λ s. split_in (out-Step s)) (slice_get steps k)

abbrev pub branch_steps : Branch → Split → List Step
branch_steps Left s = (out-Derivation (out-Split s).left).steps
branch_steps Right s = (out-Derivation (out-Split s).right).steps

abbrev pub given_in : Branch → Split → Ineq
given_in Left s = below (out-Split s).p (out-Split s).p0
given_in Right s = above (out-Split s).p (out-Split s).p0

abbrev pub inner_steps : Branch → Option Split → List Step
inner_steps branch None = []
inner_steps branch (Some s) = branch_steps branch s

abbrev pub inner_givens : Branch → Option Split → List Ineq
inner_givens branch None = []
inner_givens branch (Some s) = given_in branch s ∷ []

-- the right sides of both givens are numbers of the program
pub record HasNarrowGivens (s : Split) : Type 0 where
  pub low : IsNarrow (out-Split s).p0
  pub high : IsNarrow ((out-Split s).p0 +ℤ pos 1)

abbrev pub IsEntered : Option Split → Type 0
IsEntered None = ⊥
IsEntered (Some s) = HasNarrowGivens s

abbrev pub knap_in : Layer → Option Knap
knap_in (step.Lin lin) = None
knap_in (step.Round round) = None
knap_in (step.Split s) = None
knap_in (step.Knap knap) = Some knap

-- the knapsack step that is step k
abbrev pub knap_at : List Step → ℕ → Option Knap
knap_at steps k = option_and_then (λ s. knap_in (out-Step s)) (slice_get steps k)

-- ---- the way to a list, outermost split first

-- the list that the way leads to
abbrev pub steps_at : List Step → List Frame → List Step
steps_at steps [] = steps
steps_at steps (f ∷ frames) = steps_at (inner_steps f.branch (split_at steps f.step)) frames

-- the assumptions
abbrev pub givens_at : List Step → List Frame → List Ineq
givens_at steps [] = []
givens_at steps (f ∷ frames) = inner_givens f.branch (split_at steps f.step) ++ givens_at (inner_steps f.branch (split_at steps f.step)) frames

-- the visible claims: those of the enclosing lists that stand before, and those of the first `own` steps of the list
abbrev pub claims_at : List Step → List Frame → ℕ → List Ineq
claims_at steps [] own = map claim_of (take own steps)
claims_at steps (f ∷ frames) own = map claim_of (take f.step steps) ++ claims_at (inner_steps f.branch (split_at steps f.step)) frames own

abbrev pub AreEntered : List Step → List Frame → Type 0
AreEntered steps [] = Unit {0}
AreEntered steps (f ∷ frames) = IsEntered (split_at steps f.step) × AreEntered (inner_steps f.branch (split_at steps f.step)) frames

-- ---- failures at the end of the way

abbrev pub entered : Frame → ℕ × Option Branch
entered f = (f.step, Some f.branch)

-- a failure within the list, as one of the whole derivation
abbrev pub prefixed : List Frame → Reject → Reject
prefixed frames r = record { path = map entered frames ++ r.path; why = r.why }

-- ---- what references mean on the way

pub record IsScope (s : Scope) : Type 0 where
  pub forms : s.forms.now ≡ forms_of s.model.now
  pub shared : AreOverColumns s.model.now s.shared.now

-- the splits on the way to a step behind `own` steps were entered, and what is seen there has columns of the model alone
pub record IsAt (s : Scope) (frames : List Frame) (own : ℕ) : Type 0 where
  pub entered : AreEntered s.steps.now frames
  pub givens : AreOverColumns s.model.now (givens_at s.steps.now frames)
  pub claims : AreOverColumns s.model.now (claims_at s.steps.now frames own)

abbrev pub meant_at : Scope → List Frame → ℕ → Ref → Option Ineq
meant_at s frames own = meaning s.forms.now.sides s.shared.now (givens_at s.steps.now frames) (claims_at s.steps.now frames own)

-- the parts of a weighted sum, where each reference means something
abbrev pub parts_in : (Ref → Option Ineq) → List (Ref × ℤ) → List Part
parts_in means refs = unwrap_or (parts_of means refs) []
