-- What the tests of the first failure tell.
use Rattle.std.proofs.Common.{◌≡◌, ◌⊎◌, ℕ, zero, suc, ℤ, pos, ◌*◌, ◌<◌, ◌≤◌, ◌==◌, ◌^◌, List, [], ◌∷◌, length, Option, Some, None, Bool, true, false, not, ◌&&◌, ◌||◌, zero-add, refl, sym, ap, ◌∙◌, subst, inl, inr, ⊎_elim, arith}
use Rattle.std.specs.Prelude.{◌*ℤ◌, ◌≤ℤ◌, ◌<ℤ◌, int_lt, nat_lt, unsigned_abs, if◌then◌else◌}
use Rattle.std.specs.List.{AllByRecursion, list_any}
use Rattle.std.specs.Ordering.{int_eq}
use Rattle.std.proofs.lemmas.Int.{ints, unsigned_abs-mul}
use Rattle.std.proofs.lemmas.Bool.Decides.{nat_tests}
use Rattle.cgl_model.specs.declared.linear.Ineq.{Ineq}
use Rattle.cgl_model.specs.declared.mip.Model.{Model}
use Rattle.cgl_model.specs.Inequality.{Term}
use Rattle.cgl_derive.specs.declared.step.Step.{Step}
use Rattle.cgl_derive.specs.Derives.{claim_of, is_integer, AreColumns, AreIntegers, IsNarrow, IsAbsurd, EndsIn}
use Rattle.cgl_check.specs.declared.path.Branch.{Branch}
use Rattle.cgl_check.specs.declared.path.Reject.{Reject}
use Rattle.cgl_derive.specs.Totals.{is_wide, nothing, plus}
use Rattle.cgl_check.specs.FirstFailure.{fails}
use Rattle.cgl_check.specs.Places.{at_step, inside, or_else}
use Rattle.cgl_check.specs.Tests.{all_below, are_columns, are_integers, ends_in, is_absurd, is_wide_number, reaches, same_ineq, same_terms}

-- ---- Booleans

pub not_false : (b : Bool) → not b ≡ false → b ≡ true
not_false true e = refl
not_false false e = cc

pub not_true : (b : Bool) → not b ≡ true → b ≡ false
not_true true e = cc
not_true false e = refl

pub and_true : (a b : Bool) → (a && b) ≡ true → (a ≡ true) × (b ≡ true)
and_true true b e = (refl, e)
and_true false b e = cc

pub true_and : (a b : Bool) → a ≡ true → b ≡ true → (a && b) ≡ true
true_and true b e f = f
true_and false b e f = cc

pub or_false : (a b : Bool) → (a || b) ≡ false → (a ≡ false) × (b ≡ false)
or_false true b e = cc
or_false false b e = (refl, e)

pub false_or : (a b : Bool) → a ≡ false → b ≡ false → (a || b) ≡ false
false_or true b e f = cc
false_or false b e f = f

pub or_true : (a b : Bool) → (a || b) ≡ true → (a ≡ true) ⊎ (b ≡ true)
or_true true b e = inl refl
or_true false b e = inr e

pub true_or : (a b : Bool) → (a ≡ true) ⊎ (b ≡ true) → (a || b) ≡ true
true_or true b e = refl
true_or false b e = ⊎_elim (λ h. cc) (λ h. h) e

pub not_of_false : (b : Bool) → b ≡ false → not b ≡ true
not_of_false true e = cc
not_of_false false e = refl

pub not_of_true : (b : Bool) → b ≡ true → not b ≡ false
not_of_true true e = refl
not_of_true false e = cc

pub if_not : (b : Bool) → (b ≡ true → ⊥) → b ≡ false
if_not true h = absurd (h refl)
if_not false h = refl

pub true_not_false : (b : Bool) → b ≡ true → b ≡ false → ⊥
true_not_false true e f = cc
true_not_false false e f = cc

pub tested : (b : Bool) → (b ≡ true) ⊎ (b ≡ false)
tested true = inl refl
tested false = inr refl

-- ---- failures

pub fails_none : (test : Bool) (why : ℕ) (next : Option ℕ) → fails test why next ≡ None → (test ≡ false) × (next ≡ None)
fails_none true why next e = cc
fails_none false why next e = (refl, e)

pub none_fails : (test : Bool) (why : ℕ) (next : Option ℕ) → test ≡ false → next ≡ None → fails test why next ≡ None
none_fails true why next e f = cc
none_fails false why next e f = f

pub or_else_none : (a b : Option Reject) → or_else a b ≡ None → (a ≡ None) × (b ≡ None)
or_else_none None b e = (refl, e)
or_else_none (Some r) b e = cc

pub none_or_else : (a b : Option Reject) → a ≡ None → b ≡ None → or_else a b ≡ None
none_or_else None b e f = f
none_or_else (Some r) b e f = cc

pub at_step_none : (i : ℕ) (why : Option ℕ) → at_step i why ≡ None → why ≡ None
at_step_none i None e = refl
at_step_none i (Some w) e = cc

pub inside_none : (i : ℕ) (branch : Branch) (found : Option Reject) → inside i branch found ≡ None → found ≡ None
inside_none i branch None e = refl
inside_none i branch (Some r) e = cc

pub end_none : (b : Bool) (r : Reject) → (if b then None else Some r) ≡ None → b ≡ true
end_none true r e = refl
end_none false r e = cc

pub none_end : (b : Bool) (r : Reject) → b ≡ true → (if b then None else Some r) ≡ None
none_end true r e = refl
none_end false r e = cc

-- ---- tests

pub lt_holds : (a b : ℕ) → nat_lt a b ≡ true → a < b
lt_holds a b e = grind (arith, nat_tests, e)

lt_passes : (a b : ℕ) → a < b → nat_lt a b ≡ true
lt_passes a b h = grind (arith, nat_tests, h)

pub columns_hold : (m : Model) (terms : List Term) → are_columns m terms ≡ true → AreColumns m terms
columns_hold m [] e = tt
columns_hold m (t ∷ terms) e = let both = and_true (nat_lt t.0 (length m.cols)) (are_columns m terms) e in (lt_holds t.0 (length m.cols) both.0, columns_hold m terms both.1)

pub columns_pass : (m : Model) (terms : List Term) → AreColumns m terms → are_columns m terms ≡ true
columns_pass m [] all = refl
columns_pass m (t ∷ terms) all = true_and _ _ (lt_passes t.0 (length m.cols) all.0) (columns_pass m terms all.1)

pub integers_hold : (m : Model) (terms : List Term) → are_integers m terms ≡ true → AreIntegers m terms
integers_hold m [] e = tt
integers_hold m (t ∷ terms) e = let both = and_true (is_integer m t.0) (are_integers m terms) e in (both.0, integers_hold m terms both.1)

pub integers_pass : (m : Model) (terms : List Term) → AreIntegers m terms → are_integers m terms ≡ true
integers_pass m [] all = refl
integers_pass m (t ∷ terms) all = true_and _ _ all.0 (integers_pass m terms all.1)

pub reaches_not : (n : ℕ) → reaches n ≡ false → n < 2 ^ 127
reaches_not n e = grind (arith, nat_tests, e)

pub not_reaches : (n : ℕ) → n < 2 ^ 127 → reaches n ≡ false
not_reaches n h = grind (arith, nat_tests, h)

pub reaches_at : (n : ℕ) → 2 ^ 127 ≤ n → reaches n ≡ true
reaches_at n h = grind (arith, nat_tests, h)

pub at_reaches : (n : ℕ) → reaches n ≡ true → 2 ^ 127 ≤ n
at_reaches n e = grind (arith, nat_tests, e)

wide_product : (q a : ℤ) → is_wide (plus q a nothing) ≡ is_wide_number (q *ℤ a)
wide_product q a = ap reaches (zero-add (unsigned_abs q * unsigned_abs a) ∙ sym (unsigned_abs-mul q a))

pub narrow_product : (q a : ℤ) → is_wide (plus q a nothing) ≡ false → IsNarrow (q *ℤ a)
narrow_product q a e = reaches_not _ (sym (wide_product q a) ∙ e)

pub product_narrow : (q a : ℤ) → IsNarrow (q *ℤ a) → is_wide (plus q a nothing) ≡ false
product_narrow q a h = wide_product q a ∙ not_reaches _ h

pub narrow_terms : (q : ℤ) (terms : List Term) → list_any (λ t. is_wide (plus q t.1 nothing)) terms ≡ false → AllByRecursion (λ t. IsNarrow (q *ℤ t.1)) terms
narrow_terms q [] e = tt
narrow_terms q (t ∷ terms) e = let both = or_false (is_wide (plus q t.1 nothing)) _ e in (narrow_product q t.1 both.0, narrow_terms q terms both.1)

pub terms_narrow : (q : ℤ) (terms : List Term) → AllByRecursion (λ t. IsNarrow (q *ℤ t.1)) terms → list_any (λ t. is_wide (plus q t.1 nothing)) terms ≡ false
terms_narrow q [] all = refl
terms_narrow q (t ∷ terms) all = false_or _ _ (product_narrow q t.1 all.0) (terms_narrow q terms all.1)

last_or_less : (j n : ℕ) → j < suc n → (j < n) ⊎ (j ≡ n)
last_or_less zero zero h = inr refl
last_or_less zero (suc n) h = inl (omega arith)
last_or_less (suc j) zero h = absurd (omega (arith, h))
last_or_less (suc j) (suc n) h = ⊎_elim (λ l. inl (omega (arith, l))) (λ e. inr (ap suc e)) (last_or_less j n (omega (arith, h)))

pub below_holds : (n : ℕ) (test : ℕ → Bool) → all_below n test ≡ true → (j : ℕ) → j < n → test j ≡ true
below_holds zero test e j h = absurd (omega (arith, h))
below_holds (suc n) test e j h =
    let both = and_true (all_below n test) (test n) e in
    ⊎_elim (λ l. below_holds n test both.0 j l) (λ same. ap test same ∙ both.1) (last_or_less j n h)

pub below_passes : (n : ℕ) (test : ℕ → Bool) → ((j : ℕ) → j < n → test j ≡ true) → all_below n test ≡ true
below_passes zero test h = refl
below_passes (suc n) test h = true_and _ _ (below_passes n test (λ j l. h j (omega (arith, l)))) (h n (omega arith))

pub int_same : (x y : ℤ) → int_eq x y ≡ true → x ≡ y
int_same x y e = grind (arith, ints, e)

pub same_int : (x y : ℤ) → x ≡ y → int_eq x y ≡ true
same_int x y e = grind (arith, ints, e)

nat_same : (x y : ℕ) → (x == y) ≡ true → x ≡ y
nat_same x y e = grind (arith, nat_tests, e)

same_nat : (x y : ℕ) → x ≡ y → (x == y) ≡ true
same_nat x y e = grind (arith, nat_tests, e)

pub int_less : (x y : ℤ) → int_lt x y ≡ true → x <ℤ y
int_less x y e = grind (arith, ints, e)

pub less_int : (x y : ℤ) → x <ℤ y → int_lt x y ≡ true
less_int x y h = grind (arith, ints, h)

pub int_not_less : (x y : ℤ) → int_lt x y ≡ false → y ≤ℤ x
int_not_less x y e = grind (arith, ints, e)

pub not_less_int : (x y : ℤ) → y ≤ℤ x → int_lt x y ≡ false
not_less_int x y h = grind (arith, ints, h)

pub above_zero : (q : ℤ) → int_lt q (pos 1) ≡ false → pos 0 <ℤ q
above_zero q e = grind (arith, ints, e)

pub zero_above : (q : ℤ) → pos 0 <ℤ q → int_lt q (pos 1) ≡ false
zero_above q h = grind (arith, ints, h)

pub terms_same : (ts us : List Term) → same_terms ts us ≡ true → ts ≡ us
terms_same [] [] e = refl
terms_same [] (u ∷ us) e = cc
terms_same (t ∷ ts) [] e = cc
terms_same (t ∷ ts) (u ∷ us) e =
    let both = and_true (t.0 == u.0 && int_eq t.1 u.1) (same_terms ts us) e in
    let parts = and_true (t.0 == u.0) (int_eq t.1 u.1) both.0 in
    let pair : ℕ → ℤ → Term = λ c n. (c, n) in
    ap (λ c. (c, t.1) ∷ ts) (nat_same t.0 u.0 parts.0) ∙ ap (λ n. (u.0, n) ∷ ts) (int_same t.1 u.1 parts.1) ∙ ap (λ z. u ∷ z) (terms_same ts us both.1)

pub same_terms_self : (ts : List Term) → same_terms ts ts ≡ true
same_terms_self [] = refl
same_terms_self (t ∷ ts) = true_and _ _ (true_and _ _ (same_nat t.0 t.0 refl) (same_int t.1 t.1 refl)) (same_terms_self ts)

pub ineq_is : (a b : Ineq) → a.terms ≡ b.terms → a.rhs ≡ b.rhs → a ≡ b
ineq_is a b e f =
    let by_terms : List Term → Ineq = λ terms. record { terms = terms; rhs = a.rhs } in
    let by_rhs : ℤ → Ineq = λ rhs. record { terms = b.terms; rhs = rhs } in
    ap by_terms e ∙ ap by_rhs f

pub ineq_same : (a b : Ineq) → same_ineq a b ≡ true → a ≡ b
ineq_same a b e =
    let both = and_true (same_terms a.terms b.terms) (int_eq a.rhs b.rhs) e in
    ineq_is a b (terms_same a.terms b.terms both.0) (int_same a.rhs b.rhs both.1)

pub same_ineq_self : (a : Ineq) → same_ineq a a ≡ true
same_ineq_self a = true_and _ _ (same_terms_self a.terms) (same_int a.rhs a.rhs refl)

pub same_from : (a b : Ineq) → a ≡ b → same_ineq a b ≡ true
same_from a b e = subst (λ (c : Ineq). same_ineq a c ≡ true) e (same_ineq_self a)

-- ---- the last claim

not_empty : (n : ℕ) → (suc n == 0) ≡ true → ⊥
not_empty n e = grind (arith, nat_tests, e)

empty_terms : (terms : List Term) → (length terms == 0) ≡ true → terms ≡ []
empty_terms [] e = refl
empty_terms (t ∷ terms) e = absurd (not_empty (length terms) e)

absurd_holds : (c : Ineq) → is_absurd c ≡ true → IsAbsurd c
absurd_holds c e = let both = and_true (length c.terms == 0) (int_lt (pos 0) c.rhs) e in (empty_terms c.terms both.0, int_less (pos 0) c.rhs both.1)

absurd_passes : (c : Ineq) → IsAbsurd c → is_absurd c ≡ true
absurd_passes c a = true_and _ _ (ap (λ terms. length terms == 0) a.0) (less_int (pos 0) c.rhs a.1)

pub ends_hold : (steps : List Step) (goal : Ineq) → ends_in steps goal ≡ true → EndsIn steps goal
ends_hold [] goal e = cc
ends_hold (s ∷ []) goal e = ⊎_elim (λ same. inl (ineq_same (claim_of s) goal same)) (λ a. inr (absurd_holds (claim_of s) a)) (or_true (same_ineq (claim_of s) goal) (is_absurd (claim_of s)) e)
ends_hold (s ∷ t ∷ steps) goal e = ends_hold (t ∷ steps) goal e

pub ends_pass : (steps : List Step) (goal : Ineq) → EndsIn steps goal → ends_in steps goal ≡ true
ends_pass [] goal e = absurd e
ends_pass (s ∷ []) goal e = true_or _ _ (⊎_elim (λ same. inl (same_from (claim_of s) goal same)) (λ a. inr (absurd_passes (claim_of s) a)) e)
ends_pass (s ∷ t ∷ steps) goal e = ends_pass (t ∷ steps) goal e
