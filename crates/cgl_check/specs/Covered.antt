-- Knapsack tables that serve the steps of a list, and of the lists within it.
use Rattle.std.specs.Prelude.{◌≡◌, ℕ, ◌-◌, ◌≤◌, ◌<◌, List, [], ◌∷◌, ◌++◌, length, Some}
use Rattle.cgl_derive.specs.declared.step.Knap.{Knap}
use Rattle.cgl_derive.specs.declared.step.Step.TheOpen as step
use Rattle.cgl_derive.specs.declared.step.Split.{Split}
use Rattle.cgl_derive.specs.Derives.{Layer}
use Rattle.cgl_check.specs.declared.frames.Frame.{Frame}
use Rattle.cgl_check.specs.declared.path.Branch.{Branch}
use Rattle.cgl_check.specs.declared.scope.Scope.{Scope}
use Rattle.cgl_check.specs.Room.{HasTable}
use Rattle.cgl_check.specs.Walk.{AreEntered, HasNarrowGivens, knap_at, meant_at, steps_at}

-- each knapsack step behind these splits and at most so many more
abbrev pub CoversList : Scope → List Frame → ℕ → ℕ → Type 0
CoversList scope frames depth places =
    (more : List Frame) (own : ℕ) (knap : Knap) → AreEntered scope.steps.now (frames ++ more) → length more ≤ depth → knap_at (steps_at scope.steps.now (frames ++ more)) own ≡ Some knap
    → HasTable places (meant_at scope (frames ++ more) own knap.from)

-- those in the branches of a split that can be entered
abbrev pub CoversSplit : Scope → List Frame → ℕ → ℕ → ℕ → Split → Type 0
CoversSplit scope frames depth at places s =
    (branch : Branch) → HasNarrowGivens s → 0 < depth → CoversList scope (frames ++ record { step = at; branch = branch } ∷ []) (depth - 1) places

-- those of one step
abbrev pub CoversLayer : Scope → List Frame → ℕ → ℕ → ℕ → Layer → Type 0
CoversLayer scope frames depth at places (step.Lin lin) = Unit {0}
CoversLayer scope frames depth at places (step.Round round) = Unit {0}
CoversLayer scope frames depth at places (step.Split s) = CoversSplit scope frames depth at places s
CoversLayer scope frames depth at places (step.Knap knap) = HasTable places (meant_at scope frames at knap.from)
