-- First failures of lists of steps that are told by the first level of each step.
use Rattle.std.proofs.Common.{◌≡◌, ℕ, suc, ◌+◌, Bool, false, true, ◌||◌, List, [], ◌∷◌, ◌++◌, Option, Some, None, refl, ap, ◌∙◌, if◌then◌else◌}
use Rattle.cgl_model.specs.declared.linear.Ineq.{Ineq}
use Rattle.cgl_model.specs.declared.mip.Model.{Model}
use Rattle.cgl_derive.specs.declared.step.Step.{out-roll-Step}
use Rattle.cgl_derive.specs.Derives.{Layer, claim_in}
use Rattle.cgl_derive.specs.Layers.{derivation, rolled}
use Rattle.cgl_check.specs.declared.path.Reject.{Reject}
use Rattle.cgl_check.specs.FirstFailure.{Search, failure_within, first_failure, list_failure, step_failure}
use Rattle.cgl_check.specs.Places.{at_list, or_else}
use Rattle.cgl_check.specs.Tests.{ends_in, is_absurd, same_ineq}

abbrev pub layers_failure : Model → List Ineq → Bool → Search → List Ineq → List Ineq → ℕ → List Layer → Option Reject
layers_failure m shared enter inner givens claims i [] = None
layers_failure m shared enter inner givens claims i (layer ∷ layers) =
    or_else (step_failure m shared enter inner givens claims i layer) (layers_failure m shared enter inner givens (claims ++ claim_in layer ∷ []) (i + 1) layers)

abbrev pub layers_end_in : List Layer → Ineq → Bool
layers_end_in [] goal = false
layers_end_in (layer ∷ []) goal = same_ineq (claim_in layer) goal || is_absurd (claim_in layer)
layers_end_in (layer ∷ next ∷ layers) goal = layers_end_in (next ∷ layers) goal

pub list_layers : (m : Model) (shared : List Ineq) (enter : Bool) (inner : Search) (givens claims : List Ineq) (i : ℕ) (layers : List Layer)
    → list_failure m shared enter inner givens claims i (rolled layers) ≡ layers_failure m shared enter inner givens claims i layers
list_layers m shared enter inner givens claims i [] = refl
list_layers m shared enter inner givens claims i (layer ∷ layers) =
    ap (λ (l : Layer). or_else (step_failure m shared enter inner givens claims i l) (list_failure m shared enter inner givens (claims ++ claim_in l ∷ []) (i + 1) (rolled layers))) (out-roll-Step layer)
    ∙ ap (or_else (step_failure m shared enter inner givens claims i layer)) (list_layers m shared enter inner givens (claims ++ claim_in layer ∷ []) (i + 1) layers)

pub end_layers : (layers : List Layer) (goal : Ineq) → ends_in (rolled layers) goal ≡ layers_end_in layers goal
end_layers [] goal = refl
end_layers (layer ∷ []) goal = ap (λ (l : Layer). same_ineq (claim_in l) goal || is_absurd (claim_in l)) (out-roll-Step layer)
end_layers (layer ∷ next ∷ layers) goal = end_layers (next ∷ layers) goal

-- where no further split may be entered, and where n may
pub last_layers : (m : Model) (shared givens claims : List Ineq) (layers : List Layer)
    → failure_within m shared 0 givens claims (rolled layers) ≡ layers_failure m shared false (λ givens claims steps. None) givens claims 0 layers
unfolding failure_within
last_layers m shared givens claims layers = list_layers m shared false (λ givens claims steps. None) givens claims 0 layers

pub within_layers : (m : Model) (shared : List Ineq) (n : ℕ) (givens claims : List Ineq) (layers : List Layer)
    → failure_within m shared (suc n) givens claims (rolled layers) ≡ layers_failure m shared true (failure_within m shared n) givens claims 0 layers
unfolding failure_within
within_layers m shared n givens claims layers = list_layers m shared true (failure_within m shared n) givens claims 0 layers

abbrev pub first_of : Model → List Ineq → List Layer → Ineq → Option Reject
first_of m shared layers cut =
    or_else (layers_failure m shared true (failure_within m shared 63) [] [] 0 layers) (if layers_end_in layers cut then None else Some (at_list 10))

pub first_layers : (m : Model) (shared : List Ineq) (layers : List Layer) (cut : Ineq) → first_failure m shared (derivation layers) cut ≡ first_of m shared layers cut
first_layers m shared layers cut =
    ap (λ found. or_else found (if ends_in (rolled layers) cut then None else Some (at_list 10))) (within_layers m shared 63 [] [] layers)
    ∙ ap (λ b. or_else (layers_failure m shared true (failure_within m shared 63) [] [] 0 layers) (if b then None else Some (at_list 10))) (end_layers layers cut)
