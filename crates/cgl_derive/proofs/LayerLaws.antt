-- Lists of steps that are told by their first level.
use Rattle.std.proofs.Common.{◌≡◌, ◌⊎◌, ℕ, zero, suc, List, [], ◌∷◌, ◌++◌, sym, ap, subst, inl}
use Rattle.std.specs.Prelude.{◌↔◌}
use Rattle.cgl_model.specs.declared.linear.Ineq.{Ineq}
use Rattle.cgl_model.specs.declared.mip.Model.{Model}
use Rattle.cgl_derive.specs.declared.step.Step.{Step, roll-Step, out-roll-Step}
use Rattle.cgl_derive.specs.declared.step.Derivation.{out-Derivation, out-roll-Derivation}
use Rattle.cgl_derive.specs.Derives.{Layer, Judge, claim_in, claim_of, IsRightIn, AreRight, IsAbsurd, EndsIn, LastIs, Proves, DerivesWithin, Derives}
use Rattle.cgl_derive.specs.Layers.{rolled, derivation, ProvesInside, AreLayersRight, LayersEndIn}

claim_rolled : (layer : Layer) → claim_of (roll-Step layer) ≡ claim_in layer
claim_rolled layer = ap claim_in (out-roll-Step layer)

layers_right : (m : Model) (shared : List Ineq) (inner : Judge) (givens claims : List Ineq) (layers : List Layer) → AreLayersRight m shared inner givens claims layers → AreRight m shared inner givens claims (rolled layers)
layers_right m shared inner givens claims [] right = tt
layers_right m shared inner givens claims (layer ∷ layers) right = (
  subst (IsRightIn m shared inner givens claims) (sym (out-roll-Step layer)) right.0,
  subst (λ (c : Ineq). AreRight m shared inner givens (claims ++ c ∷ []) (rolled layers)) (sym (claim_rolled layer)) (layers_right m shared inner givens (claims ++ claim_in layer ∷ []) layers right.1),
)

right_layers : (m : Model) (shared : List Ineq) (inner : Judge) (givens claims : List Ineq) (layers : List Layer) → AreRight m shared inner givens claims (rolled layers) → AreLayersRight m shared inner givens claims layers
right_layers m shared inner givens claims [] right = tt
right_layers m shared inner givens claims (layer ∷ layers) right = (
  subst (IsRightIn m shared inner givens claims) (out-roll-Step layer) right.0,
  right_layers m shared inner givens (claims ++ claim_in layer ∷ []) layers (subst (λ (c : Ineq). AreRight m shared inner givens (claims ++ c ∷ []) (rolled layers)) (claim_rolled layer) right.1),
)

layers_end : (layers : List Layer) (goal : Ineq) → LayersEndIn layers goal → EndsIn (rolled layers) goal
layers_end [] goal e = e
layers_end (layer ∷ []) goal e = subst (λ (c : Ineq). (c ≡ goal) ⊎ IsAbsurd c) (sym (claim_rolled layer)) e
layers_end (layer ∷ next ∷ layers) goal e = layers_end (next ∷ layers) goal e

end_layers : (layers : List Layer) (goal : Ineq) → EndsIn (rolled layers) goal → LayersEndIn layers goal
end_layers [] goal e = e
end_layers (layer ∷ []) goal e = subst (λ (c : Ineq). (c ≡ goal) ⊎ IsAbsurd c) (claim_rolled layer) e
end_layers (layer ∷ next ∷ layers) goal e = end_layers (next ∷ layers) goal e

-- a list proves what its steps do, with one split less inside each of its splits
to_level : (m : Model) (shared : List Ineq) (n : ℕ) (givens claims : List Ineq) (steps : List Step) (goal : Ineq) → Proves m shared (ProvesInside m shared n) givens claims steps goal → DerivesWithin m shared n givens claims steps goal
unfolding DerivesWithin ProvesInside
to_level m shared zero givens claims steps goal h = h
to_level m shared (suc n) givens claims steps goal h = h

pub from_level : (m : Model) (shared : List Ineq) (n : ℕ) (givens claims : List Ineq) (steps : List Step) (goal : Ineq) → DerivesWithin m shared n givens claims steps goal → Proves m shared (ProvesInside m shared n) givens claims steps goal
unfolding DerivesWithin ProvesInside
from_level m shared zero givens claims steps goal h = h
from_level m shared (suc n) givens claims steps goal h = h

pub derived_within : (m : Model) (shared : List Ineq) (n : ℕ) (givens claims : List Ineq) (layers : List Layer) (goal : Ineq)
    → DerivesWithin m shared n givens claims (rolled layers) goal ↔ (AreLayersRight m shared (ProvesInside m shared n) givens claims layers × LayersEndIn layers goal)
derived_within m shared n givens claims layers goal = (
  (λ d.
      let level = from_level m shared n givens claims (rolled layers) goal d in
      (right_layers m shared (ProvesInside m shared n) givens claims layers level.0, end_layers layers goal level.1)),
  (λ both. to_level m shared n givens claims (rolled layers) goal (layers_right m shared (ProvesInside m shared n) givens claims layers both.0, layers_end layers goal both.1)),
)

rolled_steps : (layers : List Layer) → (out-Derivation (derivation layers)).steps ≡ rolled layers
rolled_steps layers = ap (λ d. d.steps) (out-roll-Derivation _)

pub derived : (m : Model) (shared : List Ineq) (layers : List Layer) (goal : Ineq)
    → Derives m shared (derivation layers) goal ↔ (AreLayersRight m shared (ProvesInside m shared 64) [] [] layers × LayersEndIn layers goal)
derived m shared layers goal = subst (λ (steps : List Step). DerivesWithin m shared 64 [] [] steps goal ↔ (AreLayersRight m shared (ProvesInside m shared 64) [] [] layers × LayersEndIn layers goal)) (sym (rolled_steps layers)) (derived_within m shared 64 [] [] layers goal)

pub last_ends : (steps : List Step) (goal : Ineq) → LastIs steps goal → EndsIn steps goal
last_ends [] goal e = e
last_ends (s ∷ []) goal e = inl e
last_ends (s ∷ t ∷ steps) goal e = last_ends (t ∷ steps) goal e
