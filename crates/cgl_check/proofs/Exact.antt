-- A derivation has no failure exactly where it proves the cut.
use Rattle.std.proofs.Common.{◌≡◌, ◌↔◌, ℕ, zero, suc, pos, ◌+◌, List, [], ◌∷◌, ◌++◌, find, Option, Some, None, IfSome, Bool, true, false, cond, not, ◌||◌, refl, ap, subst}
use Rattle.std.specs.Prelude.{◌+ℤ◌, slice_get, option_map}
use Rattle.std.specs.List.{AllByRecursion}
use Rattle.cgl_model.specs.declared.linear.Ineq.{Ineq}
use Rattle.cgl_model.specs.declared.mip.Model.{Model}
use Rattle.cgl_model.specs.declared.places.Side.{Side}
use Rattle.cgl_model.specs.declared.places.Place.{Place}
use Rattle.cgl_model.specs.FormList.{same_place}
use Rattle.cgl_model.specs.Inequality.{Term}
use Rattle.cgl_model.specs.IntegerForm.{forms_of, negated}
use Rattle.cgl_model.proofs.ColumnLaws.{sides_below}
use Rattle.cgl_derive.specs.declared.step.Ref.{Ref}
use Rattle.cgl_derive.specs.declared.step.Ref.TheVariants as by
use Rattle.cgl_derive.specs.declared.step.Lin.{Lin}
use Rattle.cgl_derive.specs.declared.step.Round.{Round}
use Rattle.cgl_derive.specs.declared.step.Knap.{Knap}
use Rattle.cgl_derive.specs.declared.step.Step.{Step, out-Step}
use Rattle.cgl_derive.specs.declared.step.Step.TheOpen as step
use Rattle.cgl_derive.specs.declared.step.Split.{Split, out-Split}
use Rattle.cgl_derive.specs.declared.step.Derivation.{Derivation, out-Derivation}
use Rattle.cgl_derive.specs.Meaning.{side_at, meaning}
use Rattle.cgl_derive.specs.Derives.{Layer, Part, claim_in, claim_of, AreColumns, AreIntegers, IsNarrow, IsRightKnap, IsRightLin, IsRightRound, below, above, Judge, SplitIsRight, IsRightIn, AreRight, Proves, DerivesWithin, Derives}
use Rattle.cgl_check.specs.declared.path.Branch.{Branch}
use Rattle.cgl_check.specs.declared.path.Branch.TheVariants.{Left, Right}
use Rattle.cgl_check.specs.FirstFailure.{Search, bad_ref, branch_failure, end_failure, failure_within, first_failure, head_failure, list_failure, not_integer, split_failure, step_failure, too_deep, wide}
use Rattle.cgl_check.specs.Places.{at_step, inside}
use Rattle.cgl_check.specs.Tests.{AreOverColumns, are_columns, are_integers, ends_in, is_wide_number}
use Rattle.cgl_check.proofs.TestLaws.{not_false, or_false, false_or, fails_none, none_fails, or_else_none, none_or_else, at_step_none, inside_none, end_none, none_end, columns_hold, columns_pass, integers_hold, integers_pass, reaches_not, not_reaches, ends_hold, ends_pass, not_of_true}
use Rattle.cgl_check.proofs.Ground.{Ground}
use Rattle.cgl_check.proofs.LinExact.{lin_exact}
use Rattle.cgl_check.proofs.RoundExact.{round_exact}
use Rattle.cgl_check.proofs.KnapExact.{knap_exact}

-- ---- what references mean has columns of the model

get_all : {A : Type 0} (P : A → Type 0) (xs : List A) (k : ℕ) (a : A) → AllByRecursion P xs → slice_get xs k ≡ Some a → P a
get_all P [] k a all e = cc
get_all {A} P (x ∷ xs) zero a all e = let Q : Option A → Type 0 = λ o. IfSome o P in subst Q e all.0
get_all P (x ∷ xs) (suc k) a all e = get_all P xs k a all.1 e

found_by : (P : Ineq → Type 0) (c : Ineq) (s : Side) (b : Bool) (o : Option Side) → P s.ineq → (option_map (λ t. t.ineq) o ≡ Some c → P c)
    → option_map (λ t. t.ineq) (cond b (Some s) o) ≡ Some c → P c
found_by P c s true o here rest e = let Q : Option Ineq → Type 0 = λ i. IfSome i P in subst Q e here
found_by P c s false o here rest e = rest e

found_has : (P : Ineq → Type 0) (sides : List Side) (place : Place) (c : Ineq) → AllByRecursion (λ s. P s.ineq) sides → side_at sides place ≡ Some c → P c
found_has P [] place c all e = cc
found_has P (s ∷ sides) place c all e = found_by P c s (same_place place s.place) (find (λ t. same_place place t.place) sides) all.0 (found_has P sides place c all.1) e

pub meaning_columns : (m : Model) (shared givens claims : List Ineq) → AreOverColumns m shared → AreOverColumns m givens → AreOverColumns m claims → (r : Ref) (c : Ineq)
    → meaning (forms_of m).sides shared givens claims r ≡ Some c → AreColumns m c.terms
meaning_columns m shared givens claims ss gs cs (by.Side place) c e = found_has (λ d. AreColumns m d.terms) (forms_of m).sides place c (sides_below m) e
meaning_columns m shared givens claims ss gs cs (by.Step k) c e = get_all (λ d. AreColumns m d.terms) claims k c cs e
meaning_columns m shared givens claims ss gs cs (by.Given k) c e = get_all (λ d. AreColumns m d.terms) givens k c gs e
meaning_columns m shared givens claims ss gs cs (by.Shared k) c e = get_all (λ d. AreColumns m d.terms) shared k c ss e

pub all_push : {A : Type 0} (P : A → Type 0) (xs : List A) (a : A) → AllByRecursion P xs → P a → AllByRecursion P (xs ++ a ∷ [])
all_push P [] a all h = (h, tt)
all_push P (x ∷ xs) a all h = (all.0, all_push P xs a all.1 h)

pub columns_negated : (m : Model) (p : List Term) → AreColumns m p → AreColumns m (negated p)
columns_negated m [] all = tt
columns_negated m (t ∷ p) all = (all.0, columns_negated m p all.1)

-- ---- splits

pub record HeadIsRight (m : Model) (enter : Bool) (s : Split) : Type 0 where
  pub claim : AreColumns m (out-Split s).claim.terms
  pub columns : AreColumns m (out-Split s).p
  pub enter_is : enter ≡ true
  pub integer : AreIntegers m (out-Split s).p
  pub low : IsNarrow (out-Split s).p0
  pub high : IsNarrow ((out-Split s).p0 +ℤ pos 1)

pub head_right : (m : Model) (enter : Bool) (s : Split) → head_failure m enter s ≡ None → HeadIsRight m enter s
head_right m enter s e =
    let level = out-Split s in
    let first = fails_none (not (are_columns m level.claim.terms) || not (are_columns m level.p)) bad_ref _ e in
    let second = fails_none (not enter) too_deep _ first.1 in
    let third = fails_none (not (are_integers m level.p)) not_integer _ second.1 in
    let fourth = fails_none (is_wide_number level.p0 || is_wide_number (level.p0 +ℤ pos 1)) wide None third.1 in
    let both = or_false (not (are_columns m level.claim.terms)) (not (are_columns m level.p)) first.0 in
    let wides = or_false (is_wide_number level.p0) (is_wide_number (level.p0 +ℤ pos 1)) fourth.0 in
    record {
      claim = columns_hold m level.claim.terms (not_false _ both.0);
      columns = columns_hold m level.p (not_false _ both.1);
      enter_is = not_false _ second.0;
      integer = integers_hold m level.p (not_false _ third.0);
      low = reaches_not _ wides.0;
      high = reaches_not _ wides.1;
    }

right_head : (m : Model) (s : Split) → AreColumns m (out-Split s).claim.terms → AreColumns m (out-Split s).p → AreIntegers m (out-Split s).p → IsNarrow (out-Split s).p0 → IsNarrow ((out-Split s).p0 +ℤ pos 1)
    → head_failure m true s ≡ None
right_head m s claim columns integer low high =
    let level = out-Split s in
    none_fails (not (are_columns m level.claim.terms) || not (are_columns m level.p)) bad_ref _ (false_or _ _ (not_of_true _ (columns_pass m level.claim.terms claim)) (not_of_true _ (columns_pass m level.p columns)))
    (none_fails false too_deep _ refl
    (none_fails (not (are_integers m level.p)) not_integer _ (not_of_true _ (integers_pass m level.p integer))
    (none_fails (is_wide_number level.p0 || is_wide_number (level.p0 +ℤ pos 1)) wide None (false_or _ _ (not_reaches _ low) (not_reaches _ high)) refl)))

-- a search and a judge of inner lists agree; where no further split may be entered, the judge never says yes
abbrev Agrees : Model → Search → Judge → Type 0
Agrees m inner judge = (givens claims : List Ineq) (steps : List Step) (goal : Ineq) → AreOverColumns m givens → AreOverColumns m claims
    → ((inner givens claims steps ≡ None) × (ends_in steps goal ≡ true)) ↔ judge givens claims steps goal

abbrev Fits : Model → Bool → Search → Judge → Type 0
Fits m true inner judge = Agrees m inner judge
Fits m false inner judge = (givens claims : List Ineq) (steps : List Step) (goal : Ineq) → judge givens claims steps goal → ⊥

branch_none : (inner : Search) (givens claims : List Ineq) (i : ℕ) (branch : Branch) (steps : List Step) (goal : Ineq) → branch_failure inner givens claims i branch steps goal ≡ None
    → (inner givens claims steps ≡ None) × (ends_in steps goal ≡ true)
branch_none inner givens claims i branch steps goal e =
    let both = or_else_none (inside i branch (inner givens claims steps)) (end_failure i branch steps goal) e in
    (inside_none i branch (inner givens claims steps) both.0, end_none (ends_in steps goal) _ both.1)

none_branch : (inner : Search) (givens claims : List Ineq) (i : ℕ) (branch : Branch) (steps : List Step) (goal : Ineq) → inner givens claims steps ≡ None → ends_in steps goal ≡ true
    → branch_failure inner givens claims i branch steps goal ≡ None
none_branch inner givens claims i branch steps goal e f =
    none_or_else (inside i branch (inner givens claims steps)) (end_failure i branch steps goal) (ap (inside i branch) e) (none_end (ends_in steps goal) _ f)

split_right : (m : Model) (enter : Bool) (inner : Search) (judge : Judge) (givens claims : List Ineq) (i : ℕ) (s : Split) → Fits m enter inner judge → AreOverColumns m givens → AreOverColumns m claims
    → split_failure m enter inner givens claims i s ≡ None → SplitIsRight m judge givens claims s
split_right m true inner judge givens claims i s fits gs cs e =
    let level = out-Split s in
    let low = givens ++ below level.p level.p0 ∷ [] in
    let high = givens ++ above level.p level.p0 ∷ [] in
    let first = or_else_none (at_step i (head_failure m true s)) _ e in
    let head = head_right m true s (at_step_none i (head_failure m true s) first.0) in
    let both = or_else_none (branch_failure inner low claims i Left (out-Derivation level.left).steps level.claim) (branch_failure inner high claims i Right (out-Derivation level.right).steps level.claim) first.1 in
    let left = branch_none inner low claims i Left (out-Derivation level.left).steps level.claim both.0 in
    let right = branch_none inner high claims i Right (out-Derivation level.right).steps level.claim both.1 in
    record {
      narrow_low = head.low;
      narrow_high = head.high;
      columns = head.columns;
      integer = head.integer;
      claim_columns = head.claim;
      left = (fits low claims (out-Derivation level.left).steps level.claim (all_push _ givens _ gs (columns_negated m level.p head.columns)) cs).0 left;
      right = (fits high claims (out-Derivation level.right).steps level.claim (all_push _ givens _ gs head.columns) cs).0 right;
    }
split_right m false inner judge givens claims i s fits gs cs e =
    let first = or_else_none (at_step i (head_failure m false s)) _ e in
    let head = head_right m false s (at_step_none i (head_failure m false s) first.0) in
    let no : false ≡ true = head.enter_is in
    cc

right_split : (m : Model) (enter : Bool) (inner : Search) (judge : Judge) (givens claims : List Ineq) (i : ℕ) (s : Split) → Fits m enter inner judge → AreOverColumns m givens → AreOverColumns m claims
    → SplitIsRight m judge givens claims s → split_failure m enter inner givens claims i s ≡ None
right_split m true inner judge givens claims i s fits gs cs right =
    let level = out-Split s in
    let low = givens ++ below level.p level.p0 ∷ [] in
    let high = givens ++ above level.p level.p0 ∷ [] in
    let left = (fits low claims (out-Derivation level.left).steps level.claim (all_push _ givens _ gs (columns_negated m level.p right.columns)) cs).1 right.left in
    let other = (fits high claims (out-Derivation level.right).steps level.claim (all_push _ givens _ gs right.columns) cs).1 right.right in
    none_or_else (at_step i (head_failure m true s)) _ (ap (at_step i) (right_head m s right.claim_columns right.columns right.integer right.narrow_low right.narrow_high))
    (none_or_else (branch_failure inner low claims i Left (out-Derivation level.left).steps level.claim) _
    (none_branch inner low claims i Left (out-Derivation level.left).steps level.claim left.0 left.1)
    (none_branch inner high claims i Right (out-Derivation level.right).steps level.claim other.0 other.1))
right_split m false inner judge givens claims i s fits gs cs right = absurd (fits _ claims _ _ right.left)

-- ---- one step

step_right : (m : Model) (shared : List Ineq) (enter : Bool) (inner : Search) (judge : Judge) (givens claims : List Ineq) (i : ℕ) (s : Layer) → Ground m shared → Fits m enter inner judge → AreOverColumns m givens
    → AreOverColumns m claims → step_failure m shared enter inner givens claims i s ≡ None → IsRightIn m shared judge givens claims s
step_right m shared enter inner judge givens claims i (step.Lin lin) ss fits gs cs e =
    (lin_exact ss.beyond m (meaning (forms_of m).sides shared givens claims) lin (meaning_columns m shared givens claims ss.over gs cs)).0 (at_step_none i _ e)
step_right m shared enter inner judge givens claims i (step.Round round) ss fits gs cs e = (round_exact m (meaning (forms_of m).sides shared givens claims) round).0 (at_step_none i _ e)
step_right m shared enter inner judge givens claims i (step.Split s) ss fits gs cs e = split_right m enter inner judge givens claims i s fits gs cs e
step_right m shared enter inner judge givens claims i (step.Knap knap) ss fits gs cs e = (knap_exact ss.bits m (meaning (forms_of m).sides shared givens claims) knap).0 (at_step_none i _ e)

right_step : (m : Model) (shared : List Ineq) (enter : Bool) (inner : Search) (judge : Judge) (givens claims : List Ineq) (i : ℕ) (s : Layer) → Ground m shared → Fits m enter inner judge → AreOverColumns m givens
    → AreOverColumns m claims → IsRightIn m shared judge givens claims s → step_failure m shared enter inner givens claims i s ≡ None
right_step m shared enter inner judge givens claims i (step.Lin lin) ss fits gs cs right =
    ap (at_step i) ((lin_exact ss.beyond m (meaning (forms_of m).sides shared givens claims) lin (meaning_columns m shared givens claims ss.over gs cs)).1 right)
right_step m shared enter inner judge givens claims i (step.Round round) ss fits gs cs right = ap (at_step i) ((round_exact m (meaning (forms_of m).sides shared givens claims) round).1 right)
right_step m shared enter inner judge givens claims i (step.Split s) ss fits gs cs right = right_split m enter inner judge givens claims i s fits gs cs right
right_step m shared enter inner judge givens claims i (step.Knap knap) ss fits gs cs right = ap (at_step i) ((knap_exact ss.bits m (meaning (forms_of m).sides shared givens claims) knap).1 right)

lin_columns : (m : Model) (lin : Lin) (o : Option (List Part)) → IsRightLin m o lin → AreColumns m lin.claim.terms
lin_columns m lin None right = absurd right
lin_columns m lin (Some parts) right = right.columns

round_columns : (m : Model) (round : Round) (o : Option Ineq) → IsRightRound m o round → AreColumns m round.claim.terms
round_columns m round None right = absurd right
round_columns m round (Some from) right = right.columns

knap_columns : (m : Model) (knap : Knap) (o : Option Ineq) → IsRightKnap m o knap → AreColumns m knap.claim.terms
knap_columns m knap None right = absurd right
knap_columns m knap (Some from) right = right.columns

-- the claim of a right step has columns of the model
claim_columns : (m : Model) (shared : List Ineq) (judge : Judge) (givens claims : List Ineq) (s : Layer) → IsRightIn m shared judge givens claims s → AreColumns m (claim_in s).terms
claim_columns m shared judge givens claims (step.Lin lin) right = lin_columns m lin _ right
claim_columns m shared judge givens claims (step.Round round) right = round_columns m round _ right
claim_columns m shared judge givens claims (step.Split s) right = right.claim_columns
claim_columns m shared judge givens claims (step.Knap knap) right = knap_columns m knap _ right

-- ---- lists

list_right : (m : Model) (shared : List Ineq) (enter : Bool) (inner : Search) (judge : Judge) (givens claims : List Ineq) (i : ℕ) (steps : List Step) → Ground m shared → Fits m enter inner judge
    → AreOverColumns m givens → AreOverColumns m claims → list_failure m shared enter inner givens claims i steps ≡ None → AreRight m shared judge givens claims steps
list_right m shared enter inner judge givens claims i [] ss fits gs cs e = tt
list_right m shared enter inner judge givens claims i (s ∷ steps) ss fits gs cs e =
    let both = or_else_none (step_failure m shared enter inner givens claims i (out-Step s)) _ e in
    let here = step_right m shared enter inner judge givens claims i (out-Step s) ss fits gs cs both.0 in
    (here, list_right m shared enter inner judge givens (claims ++ claim_of s ∷ []) (i + 1) steps ss fits gs (all_push _ claims (claim_of s) cs (claim_columns m shared judge givens claims (out-Step s) here)) both.1)

right_list : (m : Model) (shared : List Ineq) (enter : Bool) (inner : Search) (judge : Judge) (givens claims : List Ineq) (i : ℕ) (steps : List Step) → Ground m shared → Fits m enter inner judge
    → AreOverColumns m givens → AreOverColumns m claims → AreRight m shared judge givens claims steps → list_failure m shared enter inner givens claims i steps ≡ None
right_list m shared enter inner judge givens claims i [] ss fits gs cs right = refl
right_list m shared enter inner judge givens claims i (s ∷ steps) ss fits gs cs right =
    none_or_else (step_failure m shared enter inner givens claims i (out-Step s)) _ (right_step m shared enter inner judge givens claims i (out-Step s) ss fits gs cs right.0)
    (right_list m shared enter inner judge givens (claims ++ claim_of s ∷ []) (i + 1) steps ss fits gs
    (all_push _ claims (claim_of s) cs (claim_columns m shared judge givens claims (out-Step s) right.0)) right.1)

proves_exact : (m : Model) (shared : List Ineq) (enter : Bool) (inner : Search) (judge : Judge) → Ground m shared → Fits m enter inner judge → (givens claims : List Ineq) (steps : List Step) (goal : Ineq)
    → AreOverColumns m givens → AreOverColumns m claims
    → ((list_failure m shared enter inner givens claims 0 steps ≡ None) × (ends_in steps goal ≡ true)) ↔ Proves m shared judge givens claims steps goal
proves_exact m shared enter inner judge ss fits givens claims steps goal gs cs = (
  (λ e. (list_right m shared enter inner judge givens claims 0 steps ss fits gs cs e.0, ends_hold steps goal e.1)),
  (λ p. (right_list m shared enter inner judge givens claims 0 steps ss fits gs cs p.0, ends_pass steps goal p.1)),
)

within_exact : (m : Model) (shared : List Ineq) → Ground m shared → (n : ℕ) → Agrees m (failure_within m shared n) (DerivesWithin m shared n)
unfolding failure_within DerivesWithin
within_exact m shared ss zero = proves_exact m shared false (λ givens claims steps. None) (λ givens claims steps goal. ⊥) ss (λ givens claims steps goal no. no)
within_exact m shared ss (suc n) = proves_exact m shared true (failure_within m shared n) (DerivesWithin m shared n) ss (within_exact m shared ss n)

pub exact : (m : Model) (shared : List Ineq) (d : Derivation) (cut : Ineq) → Ground m shared → (first_failure m shared d cut ≡ None) ↔ Derives m shared d cut
exact m shared d cut ss =
    let steps = (out-Derivation d).steps in
    let whole = within_exact m shared ss 64 [] [] steps cut tt tt in (
      (λ e.
          let both = or_else_none (failure_within m shared 64 [] [] steps) _ e in
          whole.0 (both.0, end_none (ends_in steps cut) _ both.1)),
      (λ p.
          let both = whole.1 p in
          none_or_else (failure_within m shared 64 [] [] steps) _ both.0 (none_end (ends_in steps cut) _ both.1)),
    )
