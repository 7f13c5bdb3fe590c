-- A derivation stays right where more inequalities are shared.
use Rattle.std.proofs.Common.{◌≡◌, ℕ, zero, suc, ℤ, List, [], ◌∷◌, ◌++◌, Option, Some, None, refl, sym, ap, subst, ◌∙◌}
use Rattle.std.specs.Prelude.{slice_get}
use Rattle.cgl_model.specs.declared.linear.Ineq.{Ineq}
use Rattle.cgl_model.specs.declared.mip.Model.{Model}
use Rattle.cgl_model.specs.declared.places.Side.{Side}
use Rattle.cgl_model.specs.IntegerForm.{forms_of}
use Rattle.cgl_derive.specs.declared.step.Ref.{Ref}
use Rattle.cgl_derive.specs.declared.step.Ref.TheVariants as by
use Rattle.cgl_derive.specs.declared.step.Lin.{Lin}
use Rattle.cgl_derive.specs.declared.step.Round.{Round}
use Rattle.cgl_derive.specs.declared.step.Knap.{Knap}
use Rattle.cgl_derive.specs.declared.step.Step.{Step, out-Step}
use Rattle.cgl_derive.specs.declared.step.Step.TheOpen as step
use Rattle.cgl_derive.specs.declared.step.Derivation.{Derivation, out-Derivation}
use Rattle.cgl_derive.specs.Derives.{AreRight, Derives, DerivesWithin, IsRightIn, IsRightKnap, IsRightLin, IsRightRound, Judge, Layer, Part, claim_of, onto_parts, parts_of}
use Rattle.cgl_derive.specs.Meaning.{meaning}

abbrev Means : Type 0
Means = Ref → Option Ineq

abbrev AreKept : Means → Means → Type 0
AreKept means more = (r : Ref) (c : Ineq) → means r ≡ Some c → more r ≡ Some c

abbrev Follows : Judge → Judge → Type 0
Follows inner more = (givens claims : List Ineq) (steps : List Step) (goal : Ineq) → inner givens claims steps goal → more givens claims steps goal

get_more : (xs ys : List Ineq) (k : ℕ) (c : Ineq) → slice_get xs k ≡ Some c → slice_get (xs ++ ys) k ≡ Some c
get_more [] ys k c e = cc
get_more (x ∷ xs) ys zero c e = e
get_more (x ∷ xs) ys (suc k) c e = get_more xs ys k c e

pub meaning_more : (sides : List Side) (shared more givens claims : List Ineq) → AreKept (meaning sides shared givens claims) (meaning sides (shared ++ more) givens claims)
meaning_more sides shared more givens claims (by.Side place) c e = e
meaning_more sides shared more givens claims (by.Step k) c e = e
meaning_more sides shared more givens claims (by.Given k) c e = e
meaning_more sides shared more givens claims (by.Shared k) c e = get_more shared more k c e

parts_more : (means more : Means) → AreKept means more → (refs : List (Ref × ℤ)) (parts : List Part) → parts_of means refs ≡ Some parts → parts_of more refs ≡ Some parts
parts_more means more keeps [] parts e = e
parts_more means more keeps (r ∷ refs) parts e = each (parts_more means more keeps refs) (means r.0) refl (parts_of means refs) refl
  where
    each : ((rest : List Part) → parts_of means refs ≡ Some rest → parts_of more refs ≡ Some rest) → (c : Option Ineq) → means r.0 ≡ c → (rest : Option (List Part)) → parts_of means refs ≡ rest
        → onto_parts (more r.0) r.1 (parts_of more refs) ≡ Some parts
    each later None m rest p = absurd (let none : None ≡ Some parts = sym (ap (λ (o : Option Ineq). onto_parts o r.1 (parts_of means refs)) m) ∙ e in cc)
    each later (Some c) m None p =
        absurd (let none : None ≡ Some parts = sym (ap (λ (o : Option Ineq). onto_parts o r.1 (parts_of means refs)) m ∙ ap (λ (o : Option (List Part)). onto_parts (Some c) r.1 o) p) ∙ e in cc)
    each later (Some c) m (Some rest) p =
        ap (λ (o : Option Ineq). onto_parts o r.1 (parts_of more refs)) (keeps r.0 c m) ∙ ap (λ (o : Option (List Part)). onto_parts (Some c) r.1 o) (later rest p)
        ∙ sym (ap (λ (o : Option Ineq). onto_parts o r.1 (parts_of means refs)) m ∙ ap (λ (o : Option (List Part)). onto_parts (Some c) r.1 o) p) ∙ e

lin_more : (m : Model) (lin : Lin) (a b : Option (List Part)) → ((parts : List Part) → a ≡ Some parts → b ≡ Some parts) → IsRightLin m a lin → IsRightLin m b lin
lin_more m lin None b keeps right = absurd right
lin_more m lin (Some parts) b keeps right = subst (λ (o : Option (List Part)). IsRightLin m o lin) (sym (keeps parts refl)) right

round_more : (m : Model) (round : Round) (a b : Option Ineq) → ((c : Ineq) → a ≡ Some c → b ≡ Some c) → IsRightRound m a round → IsRightRound m b round
round_more m round None b keeps right = absurd right
round_more m round (Some c) b keeps right = subst (λ (o : Option Ineq). IsRightRound m o round) (sym (keeps c refl)) right

knap_more : (m : Model) (knap : Knap) (a b : Option Ineq) → ((c : Ineq) → a ≡ Some c → b ≡ Some c) → IsRightKnap m a knap → IsRightKnap m b knap
knap_more m knap None b keeps right = absurd right
knap_more m knap (Some c) b keeps right = subst (λ (o : Option Ineq). IsRightKnap m o knap) (sym (keeps c refl)) right

step_more : (m : Model) (shared more : List Ineq) (inner wider : Judge) → Follows inner wider → (givens claims : List Ineq) (s : Layer)
    → IsRightIn m shared inner givens claims s → IsRightIn m (shared ++ more) wider givens claims s
step_more m shared more inner wider follows givens claims (step.Lin lin) right =
    let kept : AreKept (meaning (forms_of m).sides shared givens claims) (meaning (forms_of m).sides (shared ++ more) givens claims) = meaning_more (forms_of m).sides shared more givens claims in
    lin_more m lin _ _ (λ parts e. parts_more _ _ kept lin.refs parts e) right
step_more m shared more inner wider follows givens claims (step.Round round) right =
    round_more m round _ _ (λ c e. meaning_more (forms_of m).sides shared more givens claims round.from c e) right
step_more m shared more inner wider follows givens claims (step.Split s) right =
    record {
      narrow_low = right.narrow_low;
      narrow_high = right.narrow_high;
      columns = right.columns;
      integer = right.integer;
      claim_columns = right.claim_columns;
      left = follows _ _ _ _ right.left;
      right = follows _ _ _ _ right.right;
    }
step_more m shared more inner wider follows givens claims (step.Knap knap) right =
    knap_more m knap _ _ (λ c e. meaning_more (forms_of m).sides shared more givens claims knap.from c e) right

steps_more : (m : Model) (shared more : List Ineq) (inner wider : Judge) → Follows inner wider → (givens claims : List Ineq) (steps : List Step)
    → AreRight m shared inner givens claims steps → AreRight m (shared ++ more) wider givens claims steps
steps_more m shared more inner wider follows givens claims [] right = tt
steps_more m shared more inner wider follows givens claims (s ∷ steps) right =
    (step_more m shared more inner wider follows givens claims (out-Step s) right.0, steps_more m shared more inner wider follows givens (claims ++ claim_of s ∷ []) steps right.1)

pub within_more : (m : Model) (shared more : List Ineq) (n : ℕ) → Follows (DerivesWithin m shared n) (DerivesWithin m (shared ++ more) n)
unfolding DerivesWithin
within_more m shared more zero givens claims steps goal right =
    (steps_more m shared more (λ gs cs ss aim. ⊥) (λ gs cs ss aim. ⊥) (λ gs cs ss aim none. none) givens claims steps right.0, right.1)
within_more m shared more (suc n) givens claims steps goal right =
    (steps_more m shared more (DerivesWithin m shared n) (DerivesWithin m (shared ++ more) n) (within_more m shared more n) givens claims steps right.0, right.1)

pub derives_more : (m : Model) (shared more : List Ineq) (d : Derivation) (goal : Ineq) → Derives m shared d goal → Derives m (shared ++ more) d goal
derives_more m shared more d goal right = within_more m shared more 64 [] [] (out-Derivation d).steps goal right
