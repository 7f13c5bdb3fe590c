-- What a derivation is told to fail by, as known derivations are tried.
use Rattle.std.specs.Prelude.{◌≡◌, ℕ, List, [], ◌∷◌, Option, Some, None}
use Rattle.cgl_model.specs.declared.linear.Ineq.{Ineq}
use Rattle.cgl_model.specs.declared.mip.Model.{Model}
use Rattle.cgl_derive.specs.declared.step.Derivation.{Derivation}
use Rattle.cgl_derive.specs.Derives.{Layer, claim_in}
use Rattle.cgl_derive.specs.Layers.{derivation}
use Rattle.cgl_check.specs.declared.path.Branch.{Branch}
use Rattle.cgl_check.specs.declared.path.Branch.TheVariants.{Left, Right}
use Rattle.cgl_check.specs.FirstFailure.{first_failure}

abbrev pub Pairs : Type 0
Pairs = List (ℕ × Option Branch)

-- step i, and a path in a branch of step i
abbrev pub step : ℕ → Pairs
step i = (i, None) ∷ []

abbrev pub left : ℕ → Pairs → Pairs
left i path = (i, Some Left) ∷ path

abbrev pub right : ℕ → Pairs → Pairs
right i path = (i, Some Right) ∷ path

-- the derivation proves the cut
abbrev pub Passes : Model → List Ineq → Derivation → Ineq → Type 0
Passes m shared d cut = first_failure m shared d cut ≡ None

-- its first failure is at this path, and for this reason
abbrev pub FailsAt : Pairs → ℕ → Model → List Ineq → Derivation → Ineq → Type 0
FailsAt path why m shared d cut = first_failure m shared d cut ≡ Some (record { path = path; why = why })

-- the same of a step alone, which proves its own claim
abbrev pub StepPasses : Model → List Ineq → Layer → Type 0
StepPasses m shared layer = Passes m shared (derivation (layer ∷ [])) (claim_in layer)

abbrev pub StepFails : ℕ → Model → List Ineq → Layer → Type 0
StepFails why m shared layer = FailsAt (step 0) why m shared (derivation (layer ∷ [])) (claim_in layer)
