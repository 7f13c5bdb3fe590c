-- The way to a list, one split longer.
use Rattle.std.proofs.Common.{◌≡◌, ℕ, zero, suc, ◌+◌, ◌-◌, ◌<◌, ◌≤◌, List, [], ◌∷◌, ◌++◌, map, take, drop, length, get_or, Option, Some, None, Bool, true, false, cond, not, ◌||◌, refl, sym, ap, ◌∙◌, subst, arith}
use Rattle.std.specs.Prelude.{slice_get, option_map, nat_lt, is_some, IfNone}
use Rattle.std.proofs.lemmas.Bool.Decides.{nat_tests}
use Rattle.std.proofs.lemmas.List.{append_assoc, append-nil}
use Rattle.cgl_model.specs.declared.linear.Ineq.{Ineq}
use Rattle.cgl_model.specs.declared.mip.Model.{Model}
use Rattle.cgl_model.specs.FormList.{FormList}
use Rattle.cgl_model.specs.IntegerForm.{forms_of}
use Rattle.cgl_derive.specs.declared.step.Ref.{Ref}
use Rattle.cgl_derive.specs.declared.step.Step.{Step, out-Step}
use Rattle.cgl_derive.specs.declared.step.Step.TheOpen as step
use Rattle.cgl_derive.specs.declared.step.Split.{Split, out-Split}
use Rattle.cgl_derive.specs.Derives.{Layer, claim_of, claim_in, AreColumns}
use Rattle.cgl_check.specs.declared.path.Branch.{Branch}
use Rattle.cgl_check.specs.declared.path.Branch.TheVariants.{Left, Right}
use Rattle.cgl_check.specs.declared.path.Reject.{Reject}
use Rattle.cgl_derive.specs.Meaning.{meaning}
use Rattle.cgl_check.specs.declared.frames.Frame.{Frame}
use Rattle.cgl_check.specs.declared.scope.Scope.{Scope}
use Rattle.cgl_check.specs.FirstFailure.{Search, bad_ref, branch_failure, failure_within, head_failure, list_failure, split_failure, step_failure}
use Rattle.cgl_check.specs.Places.{at_step, inside, or_else}
use Rattle.cgl_check.specs.Tests.{AreOverColumns, are_columns}
use Rattle.cgl_check.specs.Nested.{inner_search}
use Rattle.cgl_check.specs.Walk.{split_at, branch_steps, given_in, inner_steps, inner_givens, HasNarrowGivens, IsAt, IsEntered, IsScope, meant_at, steps_at, givens_at, claims_at, AreEntered, entered, prefixed}
use Rattle.cgl_check.proofs.Exact.{all_push, meaning_columns}
use Rattle.cgl_check.proofs.TestLaws.{not_false, or_false, fails_none, or_else_none, at_step_none, columns_hold}

-- ---- lists

map_append : {A B : Type 0} (f : A → B) (xs ys : List A) → map f (xs ++ ys) ≡ map f xs ++ map f ys
map_append f [] ys = refl
map_append f (x ∷ xs) ys = ap (λ z. f x ∷ z) (map_append f xs ys)

pub take_none : {A : Type 0} (xs : List A) → take 0 xs ≡ []
take_none [] = refl
take_none (x ∷ xs) = refl

-- ---- one frame more

pub steps_push : (root : List Step) (frames : List Frame) (f : Frame) → steps_at root (frames ++ f ∷ []) ≡ inner_steps f.branch (split_at (steps_at root frames) f.step)
steps_push root [] f = refl
steps_push root (g ∷ frames) f = steps_push (inner_steps g.branch (split_at root g.step)) frames f

pub givens_push : (root : List Step) (frames : List Frame) (f : Frame) → givens_at root (frames ++ f ∷ []) ≡ givens_at root frames ++ inner_givens f.branch (split_at (steps_at root frames) f.step)
givens_push root [] f = append-nil (inner_givens f.branch (split_at root f.step))
givens_push root (g ∷ frames) f =
    let inner = inner_steps g.branch (split_at root g.step) in
    ap (λ z. inner_givens g.branch (split_at root g.step) ++ z) (givens_push inner frames f) ∙ sym (append_assoc (inner_givens g.branch (split_at root g.step)) (givens_at inner frames) _)

claims_from : (root : List Step) (frames : List Frame) (f : Frame) (own : ℕ) → claims_at root (frames ++ f ∷ []) own ≡ claims_at root frames f.step ++ map claim_of (take own (inner_steps f.branch (split_at (steps_at root frames) f.step)))
claims_from root [] f own = refl
claims_from root (g ∷ frames) f own =
    let inner = inner_steps g.branch (split_at root g.step) in
    ap (λ z. map claim_of (take g.step root) ++ z) (claims_from inner frames f own) ∙ sym (append_assoc (map claim_of (take g.step root)) (claims_at inner frames f.step) _)

pub claims_push : (root : List Step) (frames : List Frame) (f : Frame) → claims_at root (frames ++ f ∷ []) 0 ≡ claims_at root frames f.step
claims_push root frames f = claims_from root frames f 0 ∙ ap (λ z. claims_at root frames f.step ++ map claim_of z) (take_none (inner_steps f.branch (split_at (steps_at root frames) f.step))) ∙ append-nil (claims_at root frames f.step)

pub entered_push : (root : List Step) (frames : List Frame) (f : Frame) → AreEntered root frames → IsEntered (split_at (steps_at root frames) f.step) → AreEntered root (frames ++ f ∷ [])
entered_push root [] f all h = (h, tt)
entered_push root (g ∷ frames) f all h = (all.0, entered_push (inner_steps g.branch (split_at root g.step)) frames f all.1 h)

own_more : (steps : List Step) (i : ℕ) (s : Step) → slice_get steps i ≡ Some s → map claim_of (take (suc i) steps) ≡ map claim_of (take i steps) ++ claim_of s ∷ []
own_more [] i s e = cc
own_more (t ∷ steps) zero s e =
    let same : t ≡ s = cc in
    ap (λ z. claim_of t ∷ map claim_of z) (take_none steps) ∙ ap (λ u. claim_of u ∷ []) same
own_more (t ∷ steps) (suc i) s e = ap (λ z. claim_of t ∷ z) (own_more steps i s e)

claims_next : (root : List Step) (frames : List Frame) (i : ℕ) (s : Step) → slice_get (steps_at root frames) i ≡ Some s → claims_at root frames (suc i) ≡ claims_at root frames i ++ claim_of s ∷ []
claims_next root [] i s e = own_more root i s e
claims_next root (g ∷ frames) i s e =
    let inner = inner_steps g.branch (split_at root g.step) in
    ap (λ z. map claim_of (take g.step root) ++ z) (claims_next inner frames i s e) ∙ sym (append_assoc (map claim_of (take g.step root)) (claims_at inner frames i) _)

-- one step more is visible
pub claims_more : (root : List Step) (frames : List Frame) (i : ℕ) (s : Step) → slice_get (steps_at root frames) i ≡ Some s → claims_at root frames (i + 1) ≡ claims_at root frames i ++ claim_of s ∷ []
claims_more root frames i s e = ap (claims_at root frames) (omega arith) ∙ claims_next root frames i s e

-- ---- failures

prefixed_inside : (frames : List Frame) (f : Frame) (r : Reject) → prefixed (frames ++ f ∷ []) r ≡ prefixed frames (record { path = entered f ∷ r.path; why = r.why })
prefixed_inside frames f r =
    let P : List (ℕ × Option Branch) → Reject = λ path. record { path = path; why = r.why } in
    ap P (ap (λ z. z ++ r.path) (map_append entered frames (f ∷ [])) ∙ append_assoc (map entered frames) (entered f ∷ []) r.path)

pub prefixed_push : (frames : List Frame) (f : Frame) (found : Option Reject) → option_map (prefixed (frames ++ f ∷ [])) found ≡ option_map (prefixed frames) (inside f.step f.branch found)
prefixed_push frames f None = refl
prefixed_push frames f (Some r) = ap Some (prefixed_inside frames f r)

not_some : (result : Option Reject) → result ≡ None → is_some result ≡ true → ⊥
not_some None e some = cc
not_some (Some r) e some = cc

-- a failure that was found is the first of it and the next
pub found_first : (g : Reject → Reject) (result found next : Option Reject) → result ≡ option_map g found → is_some result ≡ true → result ≡ option_map g (or_else found next)
found_first g result None next e some = absurd (not_some result e some)
found_first g result (Some r) next e some = e

-- where none was found the next is the first
pub found_next : (g : Reject → Reject) (result found next : Option Reject) → result ≡ option_map g found → is_some result ≡ false → or_else found next ≡ next
found_next g result None next e none = refl
found_next g None (Some r) next e none = cc
found_next g (Some s) (Some r) next e none = cc

pub found_none : (g : Reject → Reject) (result found : Option Reject) → result ≡ option_map g found → is_some result ≡ false → found ≡ None
found_none g result None e none = refl
found_none g None (Some r) e none = cc
found_none g (Some s) (Some r) e none = cc

-- ---- the search by the number of splits that may still nest

some_left : (n : ℕ) → nat_lt 0 (suc n) ≡ true
some_left n = grind (arith, nat_tests)

none_left : nat_lt 0 0 ≡ false
none_left = refl

pub within_is : (m : Model) (shared : List Ineq) (n : ℕ) (givens claims : List Ineq) (steps : List Step)
    → failure_within m shared n givens claims steps ≡ list_failure m shared (nat_lt 0 n) (inner_search m shared n) givens claims 0 steps
unfolding failure_within inner_search
within_is m shared zero givens claims steps = refl
within_is m shared (suc n) givens claims steps = ap (λ b. list_failure m shared b (failure_within m shared n) givens claims 0 steps) (sym (some_left n))

pub inner_is : (m : Model) (shared : List Ineq) (n : ℕ) → 0 < n → inner_search m shared n ≡ failure_within m shared (n - 1)
unfolding inner_search
inner_is m shared zero h = absurd (omega (arith, h))
inner_is m shared (suc n) h = ap (failure_within m shared) (omega arith)

next_is : (i : ℕ) → suc (i + 1) ≡ suc i + 1
next_is i = omega arith

drop_at : (steps : List Step) (i : ℕ) (s : Step) → slice_get steps i ≡ Some s → drop i steps ≡ s ∷ drop (i + 1) steps
drop_at [] i s e = cc
drop_at (t ∷ steps) zero s e =
    let same : t ≡ s = cc in
    ap (λ u. u ∷ steps) same
drop_at (t ∷ steps) (suc i) s e = drop_at steps i s e ∙ ap (λ n. s ∷ drop n (t ∷ steps)) (next_is i)

pub list_next : (m : Model) (shared : List Ineq) (enter : Bool) (inner : Search) (givens claims : List Ineq) (steps : List Step) (i : ℕ) (s : Step) → slice_get steps i ≡ Some s
    → list_failure m shared enter inner givens claims i (drop i steps) ≡ or_else (step_failure m shared enter inner givens claims i (out-Step s)) (list_failure m shared enter inner givens (claims ++ claim_of s ∷ []) (i + 1) (drop (i + 1) steps))
list_next m shared enter inner givens claims steps i s e = ap (list_failure m shared enter inner givens claims i) (drop_at steps i s e)

-- the claim of a step without a failure has columns of the model
pub claim_tested : (m : Model) (shared : List Ineq) (enter : Bool) (inner : Search) (givens claims : List Ineq) (i : ℕ) (s : Layer) → step_failure m shared enter inner givens claims i s ≡ None → AreColumns m (claim_in s).terms
claim_tested m shared enter inner givens claims i (step.Lin lin) e = columns_hold m lin.claim.terms (not_false _ (fails_none (not (are_columns m lin.claim.terms)) bad_ref _ (at_step_none i _ e)).0)
claim_tested m shared enter inner givens claims i (step.Round round) e = columns_hold m round.claim.terms (not_false _ (fails_none (not (are_columns m round.claim.terms)) bad_ref _ (at_step_none i _ e)).0)
claim_tested m shared enter inner givens claims i (step.Split s) e =
    let head = at_step_none i (head_failure m enter s) (or_else_none (at_step i (head_failure m enter s)) _ e).0 in
    let tests = or_false (not (are_columns m (out-Split s).claim.terms)) (not (are_columns m (out-Split s).p)) (fails_none (not (are_columns m (out-Split s).claim.terms) || not (are_columns m (out-Split s).p)) bad_ref _ head).0 in
    columns_hold m (out-Split s).claim.terms (not_false _ tests.0)
claim_tested m shared enter inner givens claims i (step.Knap knap) e = columns_hold m knap.claim.terms (not_false _ (fails_none (not (are_columns m knap.claim.terms)) bad_ref _ (at_step_none i _ e)).0)

-- ---- a branch

entered_by : (o : Option Split) (s : Split) → o ≡ Some s → HasNarrowGivens s → IsEntered o
entered_by None s e h = cc
entered_by (Some t) s e h = let same : s ≡ t = cc in subst HasNarrowGivens same h

pub branch_entered : (root : List Step) (old : List Frame) (f : Frame) (s : Split) → AreEntered root old → split_at (steps_at root old) f.step ≡ Some s → HasNarrowGivens s → AreEntered root (old ++ f ∷ [])
branch_entered root old f s all e h = entered_push root old f all (entered_by (split_at (steps_at root old) f.step) s e h)

pub branch_list : (root : List Step) (old : List Frame) (f : Frame) (s : Split) → split_at (steps_at root old) f.step ≡ Some s → steps_at root (old ++ f ∷ []) ≡ branch_steps f.branch s
branch_list root old f s e = steps_push root old f ∙ ap (inner_steps f.branch) e

pub branch_givens : (root : List Step) (old : List Frame) (f : Frame) (s : Split) → split_at (steps_at root old) f.step ≡ Some s → givens_at root (old ++ f ∷ []) ≡ givens_at root old ++ given_in f.branch s ∷ []
branch_givens root old f s e = givens_push root old f ∙ ap (λ o. givens_at root old ++ inner_givens f.branch o) e

pub branch_at : (scope : Scope) (old : List Frame) (f : Frame) (s : Split) → IsAt scope old f.step → split_at (steps_at scope.steps.now old) f.step ≡ Some s → HasNarrowGivens s
    → AreColumns scope.model.now (given_in f.branch s).terms → IsAt scope (old ++ f ∷ []) 0
branch_at scope old f s at e narrow given =
    let m = scope.model.now in
    let root = scope.steps.now in
    record {
      entered = branch_entered root old f s at.entered e narrow;
      givens = subst (AreOverColumns m) (sym (branch_givens root old f s e)) (all_push (λ (d : Ineq). AreColumns m d.terms) (givens_at root old) (given_in f.branch s) at.givens given);
      claims = subst (AreOverColumns m) (sym (claims_push root old f)) at.claims;
    }

-- what was found in a branch, from outside
pub branch_found : (m : Model) (shared : List Ineq) (n : ℕ) (root : List Step) (old : List Frame) (f : Frame) (s : Split) (now : List Frame) (steps : List Step) (result : Option Reject) → now ≡ old ++ f ∷ []
    → split_at (steps_at root old) f.step ≡ Some s → steps ≡ branch_steps f.branch s → result ≡ option_map (prefixed now) (failure_within m shared n (givens_at root now) (claims_at root now 0) steps)
    → result ≡ option_map (prefixed old) (inside f.step f.branch (failure_within m shared n (givens_at root old ++ given_in f.branch s ∷ []) (claims_at root old f.step) (branch_steps f.branch s)))
branch_found m shared n root old f s now steps result is e same found =
    found ∙ ap (λ fs. option_map (prefixed fs) (failure_within m shared n (givens_at root fs) (claims_at root fs 0) steps)) is
    ∙ prefixed_push old f (failure_within m shared n (givens_at root (old ++ f ∷ [])) (claims_at root (old ++ f ∷ []) 0) steps)
    ∙ ap (λ gs. option_map (prefixed old) (inside f.step f.branch (failure_within m shared n gs (claims_at root (old ++ f ∷ []) 0) steps))) (branch_givens root old f s e)
    ∙ ap (λ cs. option_map (prefixed old) (inside f.step f.branch (failure_within m shared n (givens_at root old ++ given_in f.branch s ∷ []) cs steps))) (claims_push root old f)
    ∙ ap (λ xs. option_map (prefixed old) (inside f.step f.branch (failure_within m shared n (givens_at root old ++ given_in f.branch s ∷ []) (claims_at root old f.step) xs))) same

pub branch_ended : (g : Reject → Reject) (result found : Option Reject) (b : Bool) (r x : Reject) → result ≡ option_map g found → is_some result ≡ false → b ≡ false → x ≡ g r
    → Some x ≡ option_map g (or_else found (cond b None (Some r)))
branch_ended g result found b r x e none ends is =
    ap Some is ∙ ap (λ c. option_map g (cond c None (Some r))) (sym ends) ∙ ap (λ f. option_map g (or_else f (cond b None (Some r)))) (sym (found_none g result found e none))

pub branch_proved : (g : Reject → Reject) (result found : Option Reject) (b : Bool) (r : Reject) → result ≡ option_map g found → is_some result ≡ false → b ≡ true
    → None ≡ option_map g (or_else found (cond b None (Some r)))
branch_proved g result found b r e none ends =
    ap (λ c. option_map g (cond c None (Some r))) (sym ends) ∙ ap (λ f. option_map g (or_else f (cond b None (Some r)))) (sym (found_none g result found e none))

pub take_front : {A : Type 0} (n : ℕ) (xs ys : List A) → n ≡ length xs → take n (xs ++ ys) ≡ xs
take_front n [] ys e = ap (λ k. take k ys) e ∙ take_none ys
take_front zero (x ∷ xs) ys e = absurd (omega (arith, e))
take_front (suc n) (x ∷ xs) ys e = ap (λ z. x ∷ z) (take_front n xs ys (omega (arith, e)))

pub if_none : {P : Type 0} (result : Option Reject) → IfNone result P → is_some result ≡ false → P
if_none None h e = h
if_none (Some r) h e = cc

-- ---- a list

slice_from : (steps : List Step) (i : ℕ) (s : Step) → i < length steps → s ≡ get_or steps i s → slice_get steps i ≡ Some s
slice_from [] i s h e = absurd (omega (arith, h))
slice_from (t ∷ steps) zero s h e = ap Some (sym e)
slice_from (t ∷ steps) (suc i) s h e = slice_from steps i s (omega (arith, h)) e

pub step_is : (steps all : List Step) (i : ℕ) (s : Step) → all ≡ steps → i < length steps → s ≡ get_or steps i s → slice_get all i ≡ Some s
step_is steps all i s same h e = ap (λ xs. slice_get xs i) same ∙ slice_from steps i s h e

pub none_left_of : (m : Model) (shared : List Ineq) (enter : Bool) (inner : Search) (givens claims : List Ineq) (i j : ℕ) (steps : List Step) → length steps ≤ i → list_failure m shared enter inner givens claims j (drop i steps) ≡ None
none_left_of m shared enter inner givens claims zero j [] h = refl
none_left_of m shared enter inner givens claims (suc i) j [] h = refl
none_left_of m shared enter inner givens claims zero j (s ∷ steps) h = absurd (omega (arith, h))
none_left_of m shared enter inner givens claims (suc i) j (s ∷ steps) h = none_left_of m shared enter inner givens claims i j steps (omega (arith, h))

pub columns_more : (m : Model) (root : List Step) (frames : List Frame) (i : ℕ) (s : Step) → slice_get (steps_at root frames) i ≡ Some s → AreOverColumns m (claims_at root frames i) → AreColumns m (claim_of s).terms
    → AreOverColumns m (claims_at root frames (i + 1))
columns_more m root frames i s e all h = subst (AreOverColumns m) (sym (claims_more root frames i s e)) (all_push (λ c. AreColumns m c.terms) (claims_at root frames i) (claim_of s) all h)

-- ---- a split

pub split_is : (m : Model) (shared : List Ineq) (n : ℕ) (givens claims : List Ineq) (i : ℕ) (s : Split) → head_failure m (nat_lt 0 n) s ≡ None → 0 < n
    → split_failure m (nat_lt 0 n) (inner_search m shared n) givens claims i s
    ≡ or_else (branch_failure (failure_within m shared (n - 1)) (givens ++ given_in Left s ∷ []) claims i Left (branch_steps Left s) (out-Split s).claim)
    (branch_failure (failure_within m shared (n - 1)) (givens ++ given_in Right s ∷ []) claims i Right (branch_steps Right s) (out-Split s).claim)
split_is m shared n givens claims i s head h =
    ap (λ search. split_failure m (nat_lt 0 n) search givens claims i s) (inner_is m shared n h)
    ∙ ap (λ o. or_else (at_step i o) (or_else (branch_failure (failure_within m shared (n - 1)) (givens ++ given_in Left s ∷ []) claims i Left (branch_steps Left s) (out-Split s).claim)
    (branch_failure (failure_within m shared (n - 1)) (givens ++ given_in Right s ∷ []) claims i Right (branch_steps Right s) (out-Split s).claim))) head

-- ---- a step that is no split

pub one_step : (frames : List Frame) (i : ℕ) (why : Option ℕ) (result : Option Reject) → why ≡ None → result ≡ None → result ≡ option_map (prefixed frames) (at_step i why)
one_step frames i why result e f = f ∙ ap (λ o. option_map (prefixed frames) (at_step i o)) (sym e)

pub one_failure : (frames : List Frame) (i w : ℕ) (why : Option ℕ) (r : Reject) → why ≡ Some w → r ≡ record { path = map entered frames ++ (i, None) ∷ []; why = w } → Some r ≡ option_map (prefixed frames) (at_step i why)
one_failure frames i w why r e f = ap Some f ∙ ap (λ o. option_map (prefixed frames) (at_step i o)) (sym e)

mapped_none : (g : Reject → Reject) (o : Option Reject) → None ≡ option_map g o → o ≡ None
mapped_none g None e = refl
mapped_none g (Some r) e = cc

-- nothing was found in the whole derivation
pub whole_none : (m : Model) (shared : List Ineq) (n : ℕ) (root : List Step) (frames : List Frame) → frames ≡ [] → None ≡ option_map (prefixed frames) (failure_within m shared n (givens_at root frames) (claims_at root frames 0) root) → failure_within m shared n [] [] root ≡ None
whole_none m shared n root frames is e =
    let here = mapped_none (prefixed frames) (failure_within m shared n (givens_at root frames) (claims_at root frames 0) root) e in
    sym (ap (λ fs. failure_within m shared n (givens_at root fs) (claims_at root fs 0) root) is ∙ ap (λ xs. failure_within m shared n [] (map claim_of xs) root) (take_none root)) ∙ here

-- what references mean, by the forms of the model
pub meant_is : (scope : Scope) (frames : List Frame) (own : ℕ) → IsScope scope
    → meant_at scope frames own ≡ meaning (forms_of scope.model.now).sides scope.shared.now (givens_at scope.steps.now frames) (claims_at scope.steps.now frames own)
meant_is scope frames own is =
    let P : FormList → Ref → Option Ineq = λ forms. meaning forms.sides scope.shared.now (givens_at scope.steps.now frames) (claims_at scope.steps.now frames own) in
    ap P is.forms

pub meant_columns : (scope : Scope) (frames : List Frame) (own : ℕ) → IsScope scope → IsAt scope frames own → (r : Ref) (c : Ineq) → meant_at scope frames own r ≡ Some c → AreColumns scope.model.now c.terms
meant_columns scope frames own is at r c e =
    meaning_columns scope.model.now scope.shared.now (givens_at scope.steps.now frames) (claims_at scope.steps.now frames own) is.shared at.givens at.claims r c (sym (ap (λ (means : Ref → Option Ineq). means r) (meant_is scope frames own is)) ∙ e)
