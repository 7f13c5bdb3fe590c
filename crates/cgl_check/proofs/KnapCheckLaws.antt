-- What the checker of knapsack steps rests on.
use Rattle.std.proofs.Common.{◌≡◌, ◌↔◌, ℕ, zero, suc, ◌+◌, ◌≤◌, ◌<◌, ◌==◌, ℤ, pos, List, [], ◌∷◌, length, map, Option, Some, None, IfSome, Bool, true, false, cond, not, ◌&&◌, refl, sym, ap, ◌∙◌, subst, arith}
use Rattle.std.specs.Prelude.{◌≤ℤ◌, ◌<ℤ◌, unsigned_abs, slice_get, IsTrue, if◌then◌else◌}
use Rattle.std.specs.List.{AllByRecursion}
use Rattle.std.proofs.lemmas.Int.{ints}
use Rattle.std.proofs.lemmas.Bool.Decides.{nat_tests}
use Rattle.cgl_knap.specs.Greatest.{IsGreatest}
use Rattle.cgl_model.specs.declared.linear.Ineq.{Ineq}
use Rattle.cgl_model.specs.declared.mip.Column.{Column}
use Rattle.cgl_model.specs.declared.mip.Model.{Model}
use Rattle.cgl_model.specs.IntegerForm.{negated}
use Rattle.cgl_model.specs.Inequality.{Term}
use Rattle.cgl_model.specs.Rising.{IsRising}
use Rattle.cgl_derive.specs.declared.step.Knap.{Knap}
use Rattle.cgl_derive.specs.Binary.{AreBinary, HoldsAtBits, holds_at_bits}
use Rattle.cgl_derive.specs.Derives.{AreColumns, coefficient}
use Rattle.cgl_derive.specs.Knapsack.{IsSameSign, capacity, coefficients, total_magnitude}
use Rattle.cgl_check.specs.FirstFailure.{fails, knapsack_failure, knapsack_form, knapsack_value}
use Rattle.cgl_check.specs.Knapsacks.{leftover, small_capacity, table_capacity, values_of, weights_of}
use Rattle.cgl_check.specs.LinearIneq.{terms_of}
use Rattle.cgl_check.specs.Tests.{are_binary, has_signs, is_binary, is_knapsack, is_small, reaches}
use Rattle.cgl_check.proofs.Ground.{BitsAreTested}
use Rattle.cgl_check.proofs.TestLaws.{and_true, if_not, not_of_false, not_true, true_and, true_not_false}
use Rattle.cgl_check.proofs.KnapExact.{binary_hold, binary_pass, signs_hold, small_holds}
use Rattle.cgl_check.proofs.KnapValueLaws.{greatest_none}

-- the greatest value tells the last condition
abbrev pub ValueDecides : Type 0
ValueDecides = (m : Model) (from claim : Ineq) (cap : ℕ) (best : ℤ) → IsRising from.terms → AreColumns m from.terms → AllByRecursion (λ t. IsSameSign (coefficient t.0 from.terms) t.1) claim.terms
    → capacity from ≡ pos cap → IsGreatest (weights_of from) (values_of from claim) cap best → HoldsAtBits m from claim ↔ (best ≤ℤ leftover from claim)

binary_negated : (m : Model) (terms : List Term) → are_binary m (negated terms) ≡ are_binary m terms
binary_negated m [] = refl
binary_negated m (t ∷ terms) = ap (λ b. is_binary m t.0 && b) (binary_negated m terms)

pub binary_signed : (m : Model) (negative : Bool) (terms : List Term) → are_binary m (terms_of negative terms) ≡ are_binary m terms
binary_signed m true terms = binary_negated m terms
binary_signed m false terms = refl

pub binary_test : (m : Model) (terms : List Term) (b : Bool) → (IsTrue b ↔ AreBinary m terms) → b ≡ are_binary m terms
binary_test m terms true e = sym (binary_pass m terms (e.0 refl))
binary_test m terms false e = sym (if_not (are_binary m terms) (λ h. let no = e.1 (binary_hold m terms h) in cc))

column_there : (cols : List Column) (j : ℕ) (c : Column) → slice_get cols j ≡ Some c → j < length cols
column_there [] j c e = cc
column_there (d ∷ cols) zero c e = omega arith
column_there (d ∷ cols) (suc j) c e = omega (arith, column_there cols j c e)

binary_columns : (m : Model) (terms : List Term) → AreBinary m terms → AreColumns m terms
binary_columns m [] all = tt
binary_columns m (t ∷ terms) all = (column_there m.cols t.0 all.0.0 all.0.1, binary_columns m terms all.1)

some_in : (b : Bool) (cap n : ℕ) → Some cap ≡ (if b then Some n else None) → (b ≡ true) × (cap ≡ n)
some_in true cap n e = (refl, cc)
some_in false cap n e = cc

none_in : (b : Bool) (n : ℕ) → None ≡ (if b then Some n else None) → b ≡ false
none_in true n e = cc
none_in false n e = refl

none_zero : (n : ℕ) → (suc n == 0) ≡ false
none_zero n = grind (arith, nat_tests)

not_empty : (n cap : ℕ) → (if suc n == 0 then 0 else cap) ≡ cap
not_empty n cap = ap (λ (b : Bool). if b then 0 else cap) (none_zero n)

-- the greatest value at the capacity of the table is that at the capacity
at_capacity : (from : Ineq) (values : List ℤ) (best : ℤ) → IsGreatest (weights_of from) values (table_capacity from) best → IsGreatest (weights_of from) values (unsigned_abs (capacity from)) best
at_capacity from values best g = at from.terms refl g
  where
    at : (terms : List Term) → from.terms ≡ terms → IsGreatest (weights_of from) values (table_capacity from) best → IsGreatest (weights_of from) values (unsigned_abs (capacity from)) best
    at [] e h =
        let none = ap (λ (ts : List Term). map (λ a. unsigned_abs a) (coefficients ts)) e in
        let P : List ℕ → ℕ → Type 0 = λ ws cap. IsGreatest ws values cap best in
        subst (λ (ws : List ℕ). P ws (unsigned_abs (capacity from))) (sym none) (greatest_none values (table_capacity from) (unsigned_abs (capacity from)) best (subst (λ (ws : List ℕ). P ws (table_capacity from)) none h))
    at (t ∷ terms) e h =
        let some : table_capacity from ≡ unsigned_abs (capacity from) = ap (λ (ts : List Term). if length ts == 0 then 0 else unsigned_abs (capacity from)) e ∙ not_empty (length terms) (unsigned_abs (capacity from)) in
        subst (λ (cap : ℕ). IsGreatest (weights_of from) values cap best) some h

form_by : (a : Bool) (next : Option ℕ) → a ≡ false → Some 7 ≡ fails (not a) knapsack_form next
form_by true next e = cc
form_by false next e = refl

pub not_form : (m : Model) (knap : Knap) (from : Ineq) → is_knapsack m from knap.claim ≡ false → Some 7 ≡ knapsack_failure m knap (Some from)
not_form m knap from e = form_by (is_knapsack m from knap.claim) _ e

-- a condition of the form that fails
pub not_binary : (m : Model) (from claim : Ineq) → are_binary m from.terms ≡ false → is_knapsack m from claim ≡ false
not_binary m from claim e = if_not (is_knapsack m from claim) (λ h. true_not_false (are_binary m from.terms) (and_true (are_binary m from.terms) _ h).0 e)

pub not_small : (m : Model) (from claim : Ineq) → None ≡ small_capacity from → is_knapsack m from claim ≡ false
not_small m from claim e =
    if_not (is_knapsack m from claim) (λ h. true_not_false (is_small from) (and_true (is_small from) _ (and_true (are_binary m from.terms) _ h).1).0 (none_in (is_small from) (table_capacity from) e))

pub wide_claim : (m : Model) (from claim : Ineq) → reaches (total_magnitude claim.terms + unsigned_abs claim.rhs) ≡ true → is_knapsack m from claim ≡ false
wide_claim m from claim e = if_not (is_knapsack m from claim) (λ h.
    let parts = and_true (has_signs from.terms claim.terms) _ (and_true (is_small from) _ (and_true (are_binary m from.terms) _ h).1).1 in
    true_not_false (reaches (total_magnitude claim.terms + unsigned_abs claim.rhs)) e (not_true _ parts.1))

value_by : (a d b : Bool) → a ≡ true → d ≡ b → (if b then None else Some 8) ≡ fails (not a) knapsack_form (fails (not d) knapsack_value None)
value_by true true true e f = refl
value_by true false false e f = refl
value_by true true false e f = cc
value_by true false true e f = cc
value_by false d b e f = cc

-- with a form that is right, the greatest value tells whether it fails
pub value_result : BitsAreTested → ValueDecides → (m : Model) (knap : Knap) (from : Ineq) (cap : ℕ) (best : ℤ) (b : Bool) → IsRising from.terms → are_binary m from.terms ≡ true → Some cap ≡ small_capacity from
    → has_signs from.terms knap.claim.terms ≡ true → reaches (total_magnitude knap.claim.terms + unsigned_abs knap.claim.rhs) ≡ false → IsGreatest (weights_of from) (values_of from knap.claim) cap best
    → (IsTrue b ↔ (best ≤ℤ leftover from knap.claim)) → (if b then None else Some 8) ≡ knapsack_failure m knap (Some from)
value_result bits decides m knap from cap best b rising binary small signs wide greatest test =
    let claim = knap.claim in
    let parts = some_in (is_small from) cap (table_capacity from) small in
    let form : is_knapsack m from claim ≡ true = true_and _ _ binary (true_and _ _ parts.0 (true_and _ _ signs (not_of_false _ wide))) in
    let room = (small_holds from parts.0).room in
    let is : capacity from ≡ pos (unsigned_abs (capacity from)) = omega (arith, ints, room) in
    let here = at_capacity from (values_of from claim) best (subst (λ (n : ℕ). IsGreatest (weights_of from) (values_of from claim) n best) parts.1 greatest) in
    let told = decides m from claim (unsigned_abs (capacity from)) best rising (binary_columns m from.terms (binary_hold m from.terms binary)) (signs_hold from.terms claim.terms signs) is here in
    value_by (is_knapsack m from claim) (holds_at_bits m from claim) b form (same_test (holds_at_bits m from claim) b (λ h. test.1 (told.0 ((bits m from claim).0 h))) (λ h. (bits m from claim).1 (told.1 (test.0 h))))
  where
    same_test : (x y : Bool) → (x ≡ true → y ≡ true) → (y ≡ true → x ≡ true) → x ≡ y
    same_test true y f g = sym (f refl)
    same_test false true f g = g refl
    same_test false false f g = refl
