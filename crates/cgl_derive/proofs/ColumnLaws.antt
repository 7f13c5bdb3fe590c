-- Claims have columns of the model; and lists of columns, one more at a time.
use Rattle.std.proofs.Common.{ℕ, ◌+◌, ◌<◌, List, [], ◌∷◌, ◌++◌, length, take, get_or, Option, Some, None, sym, subst}
use Rattle.std.specs.List.{AllByRecursion}
use Rattle.std.proofs.lemmas.List.{take_more}
use Rattle.cgl_model.specs.declared.linear.Ineq.{Ineq}
use Rattle.cgl_model.specs.declared.mip.Model.{Model}
use Rattle.cgl_model.specs.IntegerForm.{forms_of}
use Rattle.cgl_derive.specs.declared.step.Lin.{Lin}
use Rattle.cgl_derive.specs.declared.step.Round.{Round}
use Rattle.cgl_derive.specs.declared.step.Knap.{Knap}
use Rattle.cgl_derive.specs.declared.step.Step.{Step, out-Step}
use Rattle.cgl_derive.specs.declared.step.Step.TheOpen as step
use Rattle.cgl_derive.specs.declared.step.Derivation.{Derivation, out-Derivation}
use Rattle.cgl_derive.specs.Derives.{AreColumns, AreRight, Derives, IsRightIn, IsRightKnap, IsRightLin, IsRightRound, Judge, LastIs, Layer, Part, claim_in, claim_of, parts_of}
use Rattle.cgl_derive.specs.Layers.{ProvesInside}
use Rattle.cgl_derive.specs.Meaning.{meaning}
use Rattle.cgl_derive.proofs.LayerLaws.{from_level}
use Rattle.cgl_derive.proofs.Sound.{all_push}

lin_columns : (m : Model) (parts : Option (List Part)) (lin : Lin) → IsRightLin m parts lin → AreColumns m lin.claim.terms
lin_columns m None lin right = absurd right
lin_columns m (Some parts) lin right = right.columns

round_columns : (m : Model) (from : Option Ineq) (round : Round) → IsRightRound m from round → AreColumns m round.claim.terms
round_columns m None round right = absurd right
round_columns m (Some from) round right = right.columns

knap_columns : (m : Model) (from : Option Ineq) (knap : Knap) → IsRightKnap m from knap → AreColumns m knap.claim.terms
knap_columns m None knap right = absurd right
knap_columns m (Some from) knap right = right.columns

layer_columns : (m : Model) (shared : List Ineq) (inner : Judge) (givens claims : List Ineq) (layer : Layer) → IsRightIn m shared inner givens claims layer
    → AreColumns m (claim_in layer).terms
layer_columns m shared inner givens claims (step.Lin lin) right = lin_columns m (parts_of (meaning (forms_of m).sides shared givens claims) lin.refs) lin right
layer_columns m shared inner givens claims (step.Round round) right = round_columns m (meaning (forms_of m).sides shared givens claims round.from) round right
layer_columns m shared inner givens claims (step.Split s) right = right.claim_columns
layer_columns m shared inner givens claims (step.Knap knap) right = knap_columns m (meaning (forms_of m).sides shared givens claims knap.from) knap right

last_columns : (m : Model) (shared : List Ineq) (inner : Judge) (givens claims : List Ineq) (steps : List Step) (goal : Ineq) → AreRight m shared inner givens claims steps
    → LastIs steps goal → AreColumns m goal.terms
last_columns m shared inner givens claims [] goal right last = absurd last
last_columns m shared inner givens claims (s ∷ []) goal right last =
    subst (λ (c : Ineq). AreColumns m c.terms) last (layer_columns m shared inner givens claims (out-Step s) right.0)
last_columns m shared inner givens claims (s ∷ t ∷ steps) goal right last = last_columns m shared inner givens (claims ++ claim_of s ∷ []) (t ∷ steps) goal right.1 last

pub claim_columns : (m : Model) (shared : List Ineq) (d : Derivation) (goal : Ineq) → Derives m shared d goal → LastIs (out-Derivation d).steps goal → AreColumns m goal.terms
claim_columns m shared d goal derives last =
    let steps = (out-Derivation d).steps in
    last_columns m shared (ProvesInside m shared 64) [] [] steps goal (from_level m shared 64 [] [] steps goal derives).0 last

pub all_more : {A : Type 0} (P : A → Type 0) (xs : List A) (i : ℕ) (d : A) → i < length xs → AllByRecursion P (take i xs) → P (get_or xs i d) → AllByRecursion P (take (i + 1) xs)
all_more P xs i d h all here = subst (AllByRecursion P) (sym (take_more xs i d h)) (all_push P (take i xs) (get_or xs i d) all here)
