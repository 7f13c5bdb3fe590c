-- Lists of steps that are told by their first level, as what makes derivations has them.
use Rattle.std.specs.Prelude.{◌≡◌, ◌⊎◌, ℕ, zero, suc, List, [], ◌∷◌, ◌++◌}
use Rattle.cgl_model.specs.declared.linear.Ineq.{Ineq}
use Rattle.cgl_model.specs.declared.mip.Model.{Model}
use Rattle.cgl_derive.specs.declared.step.Step.{Step, roll-Step}
use Rattle.cgl_derive.specs.declared.step.Derivation.{Derivation, roll-Derivation}
use Rattle.cgl_derive.specs.Derives.{Layer, Judge, claim_in, IsRightIn, IsAbsurd, DerivesWithin}

abbrev pub rolled : List Layer → List Step
rolled [] = []
rolled (layer ∷ layers) = roll-Step layer ∷ rolled layers

abbrev pub derivation : List Layer → Derivation
derivation layers = roll-Derivation (record { steps = rolled layers })

-- what lists prove inside a split, where n splits may be inside each other
unfoldable pub ProvesInside : Model → List Ineq → ℕ → Judge
ProvesInside m shared zero = λ givens claims steps goal. ⊥
ProvesInside m shared (suc n) = DerivesWithin m shared n

-- each step is right, where the claims before it are visible
abbrev pub AreLayersRight : Model → List Ineq → Judge → List Ineq → List Ineq → List Layer → Type 0
AreLayersRight m shared inner givens claims [] = Unit {0}
AreLayersRight m shared inner givens claims (layer ∷ layers) =
    IsRightIn m shared inner givens claims layer × AreLayersRight m shared inner givens (claims ++ claim_in layer ∷ []) layers

-- the last claim is the goal, or absurd
abbrev pub LayersEndIn : List Layer → Ineq → Type 0
LayersEndIn [] goal = ⊥
LayersEndIn (layer ∷ []) goal = (claim_in layer ≡ goal) ⊎ IsAbsurd (claim_in layer)
LayersEndIn (layer ∷ next ∷ layers) goal = LayersEndIn (next ∷ layers) goal
