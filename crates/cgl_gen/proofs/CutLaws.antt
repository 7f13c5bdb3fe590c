-- What a cut has that is the last claim of its derivation.
use Rattle.std.proofs.Common.{ℕ, zero, suc, List, [], ◌∷◌, ◌++◌, Option, Some, None, length, subst}
use Rattle.cgl_model.specs.declared.linear.Ineq.{Ineq}
use Rattle.cgl_model.specs.declared.mip.Model.{Model}
use Rattle.cgl_model.specs.Inequality.{AreColumnsBelow}
use Rattle.cgl_model.specs.Point.{Point}
use Rattle.cgl_derive.specs.declared.answer.Candidate.{Candidate}
use Rattle.cgl_derive.specs.declared.step.Derivation.{out-Derivation}
use Rattle.cgl_derive.specs.declared.step.Knap.{Knap}
use Rattle.cgl_derive.specs.declared.step.Lin.{Lin}
use Rattle.cgl_derive.specs.declared.step.Round.{Round}
use Rattle.cgl_derive.specs.declared.step.Step.{Step, out-Step}
use Rattle.cgl_derive.specs.declared.step.Step.TheOpen as step
use Rattle.cgl_derive.specs.Derives.{AreRight, DerivesWithin, IsRightIn, IsRightKnap, IsRightLin, IsRightRound, Judge, LastIs, Layer, Part, claim_in, claim_of}
use Rattle.cgl_gen.specs.CutLaws.{IsCutAt}

abbrev IsOver : Model → Ineq → Type 0
IsOver m c = AreColumnsBelow (length m.cols) c.terms

lin_over : (m : Model) (o : Option (List Part)) (lin : Lin) → IsRightLin m o lin → IsOver m lin.claim
lin_over m None lin right = absurd right
lin_over m (Some parts) lin right = right.columns

round_over : (m : Model) (o : Option Ineq) (round : Round) → IsRightRound m o round → IsOver m round.claim
round_over m None round right = absurd right
round_over m (Some from) round right = right.columns

knap_over : (m : Model) (o : Option Ineq) (knap : Knap) → IsRightKnap m o knap → IsOver m knap.claim
knap_over m None knap right = absurd right
knap_over m (Some from) knap right = right.columns

step_over : (m : Model) (shared : List Ineq) (inner : Judge) (givens claims : List Ineq) (s : Layer) → IsRightIn m shared inner givens claims s → IsOver m (claim_in s)
step_over m shared inner givens claims (step.Lin lin) right = lin_over m _ lin right
step_over m shared inner givens claims (step.Round round) right = round_over m _ round right
step_over m shared inner givens claims (step.Split s) right = right.claim_columns
step_over m shared inner givens claims (step.Knap knap) right = knap_over m _ knap right

last_over : (m : Model) (shared : List Ineq) (inner : Judge) (givens claims : List Ineq) (steps : List Step) (goal : Ineq) → AreRight m shared inner givens claims steps → LastIs steps goal → IsOver m goal
last_over m shared inner givens claims [] goal right last = absurd last
last_over m shared inner givens claims (s ∷ []) goal right last = subst (IsOver m) last (step_over m shared inner givens claims (out-Step s) right.0)
last_over m shared inner givens claims (s ∷ t ∷ steps) goal right last = last_over m shared inner givens (claims ++ claim_of s ∷ []) (t ∷ steps) goal right.1 last

within_over : (m : Model) (shared : List Ineq) (n : ℕ) (steps : List Step) (goal : Ineq) → DerivesWithin m shared n [] [] steps goal → LastIs steps goal → IsOver m goal
unfolding DerivesWithin
within_over m shared zero steps goal derives last = last_over m shared (λ givens claims steps goal. ⊥) [] [] steps goal derives.0 last
within_over m shared (suc n) steps goal derives last = last_over m shared (DerivesWithin m shared n) [] [] steps goal derives.0 last

pub cut_columns : (m : Model) (x : Point) (c : Candidate) → IsCutAt m x c → IsOver m c.cut
cut_columns m x c has = within_over m [] 64 (out-Derivation c.derivation).steps c.cut has.derives has.ends
