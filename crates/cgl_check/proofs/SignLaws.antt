-- Terms that are told negated.
use Rattle.std.proofs.Common.{◌≡◌, ℕ, zero, suc, ℤ, ◌+◌, ◌<◌, ◌≤◌, List, [], ◌∷◌, ◌++◌, map, take, length, get_or, Some, None, Bool, true, false, not, ◌&&◌, ◌||◌, refl, sym, ap, ◌∙◌, arith}
use Rattle.std.specs.Prelude.{int_div}
use Rattle.std.specs.List.{list_all}
use Rattle.std.proofs.Math.IntN.{neg_ℤ}
use Rattle.std.proofs.lemmas.List.{take_more}
use Rattle.cgl_model.specs.IntegerForm.{negated}
use Rattle.cgl_model.specs.Inequality.{Term}
use Rattle.cgl_model.specs.Rising.{IsCoefficient, IsRising}
use Rattle.cgl_model.specs.declared.linear.Ineq.{Ineq}
use Rattle.cgl_model.specs.declared.mip.Model.{Model}
use Rattle.cgl_derive.specs.Derives.{is_integer}
use Rattle.cgl_derive.specs.Rounding.{divides, quotients}
use Rattle.cgl_check.specs.FirstFailure.{fails}
use Rattle.cgl_check.specs.Tests.{are_integers, same_ineq}
use Rattle.cgl_check.specs.LinearIneq.{signed, terms_of}
use Rattle.cgl_check.proofs.TestLaws.{true_and, and_true, if_not, ineq_same}

-- each coefficient of rising terms may stand
pub rising_at : (terms : List Term) (i : ℕ) (t : Term) → IsRising terms → i < length terms → IsCoefficient (get_or terms i t).1
rising_at [] i t r h = absurd (omega arith)
rising_at (u ∷ []) zero t r h = r
rising_at (u ∷ []) (suc i) t r h = absurd (omega arith)
rising_at (u ∷ v ∷ terms) zero t r h = r.0
rising_at (u ∷ v ∷ terms) (suc i) t r h = rising_at (v ∷ terms) i t r.2 (omega arith)

all_negated : (g : ℤ) (terms : List Term) → list_all (λ t. divides g t.1) (negated terms) ≡ list_all (λ t. divides g (neg_ℤ t.1)) terms
all_negated g [] = refl
all_negated g (t ∷ terms) = ap (λ b. divides g (neg_ℤ t.1) && b) (all_negated g terms)

pub all_signed : (g : ℤ) (negative : Bool) (terms : List Term) → list_all (λ t. divides g t.1) (terms_of negative terms) ≡ list_all (λ t. divides g (signed negative t.1)) terms
all_signed g true terms = all_negated g terms
all_signed g false terms = refl

and_false : (a b : Bool) → b ≡ false → (a && b) ≡ false
and_false true b e = e
and_false false b e = refl

pub not_all : {A : Type 0} (p : A → Bool) (xs : List A) (i : ℕ) (d : A) → i < length xs → p (get_or xs i d) ≡ false → list_all p xs ≡ false
not_all p [] i d h e = absurd (omega (arith, h))
not_all p (x ∷ xs) zero d h e = ap (λ b. b && list_all p xs) e
not_all p (x ∷ xs) (suc i) d h e = and_false (p x) (list_all p xs) (not_all p xs i d (omega (arith, h)) e)

all_push : {A : Type 0} (p : A → Bool) (xs : List A) (x : A) → list_all p xs ≡ true → p x ≡ true → list_all p (xs ++ x ∷ []) ≡ true
all_push p [] x all e = true_and (p x) true e refl
all_push p (y ∷ xs) x all e =
    let both = and_true (p y) (list_all p xs) all in
    true_and (p y) (list_all p (xs ++ x ∷ [])) both.0 (all_push p xs x both.1 e)

pub all_more : {A : Type 0} (p : A → Bool) (xs : List A) (i : ℕ) (d : A) → i < length xs → list_all p (take i xs) ≡ true → p (get_or xs i d) ≡ true → list_all p (take (i + 1) xs) ≡ true
all_more p xs i d h all e = ap (list_all p) (take_more xs i d h) ∙ all_push p (take i xs) (get_or xs i d) all e

pub take_whole : {A : Type 0} (xs : List A) (i : ℕ) → length xs ≤ i → take i xs ≡ xs
take_whole [] zero h = refl
take_whole [] (suc i) h = refl
take_whole (x ∷ xs) zero h = absurd (omega (arith, h))
take_whole (x ∷ xs) (suc i) h = ap (λ z. x ∷ z) (take_whole xs i (omega (arith, h)))

-- ---- quotients

abbrev pub signed_quotients : ℤ → Bool → List Term → List Term
signed_quotients g negative terms = map (λ t. (t.0, int_div (signed negative t.1) g)) terms

quotients_negated : (g : ℤ) (terms : List Term) → quotients g (negated terms) ≡ map (λ t. (t.0, int_div (neg_ℤ t.1) g)) terms
quotients_negated g [] = refl
quotients_negated g (t ∷ terms) = ap (λ z. (t.0, int_div (neg_ℤ t.1) g) ∷ z) (quotients_negated g terms)

pub quotients_signed : (g : ℤ) (negative : Bool) (terms : List Term) → quotients g (terms_of negative terms) ≡ signed_quotients g negative terms
quotients_signed g true terms = quotients_negated g terms
quotients_signed g false terms = refl

pub length_quotients : (g : ℤ) (negative : Bool) (terms : List Term) → length (signed_quotients g negative terms) ≡ length terms
length_quotients g negative [] = refl
length_quotients g negative (t ∷ terms) = ap suc (length_quotients g negative terms)

pub quotient_at : (g : ℤ) (negative : Bool) (terms : List Term) (i : ℕ) (d e : Term) → i < length terms
    → get_or (signed_quotients g negative terms) i d ≡ ((get_or terms i e).0, int_div (signed negative (get_or terms i e).1) g)
quotient_at g negative [] i d e h = absurd (omega (arith, h))
quotient_at g negative (t ∷ terms) zero d e h = refl
quotient_at g negative (t ∷ terms) (suc i) d e h = quotient_at g negative terms i d e (omega (arith, h))

-- two lists of one length are equal where they are at each place
pub same_lists : (xs ys : List Term) (d : Term) → length xs ≡ length ys → ((k : ℕ) → k < length xs → get_or xs k d ≡ get_or ys k d) → xs ≡ ys
same_lists [] [] d e h = refl
same_lists [] (y ∷ ys) d e h = absurd (omega (arith, e))
same_lists (x ∷ xs) [] d e h = absurd (omega (arith, e))
same_lists (x ∷ xs) (y ∷ ys) d e h = ap (λ z. z ∷ xs) (h 0 (omega arith)) ∙ ap (λ z. y ∷ z) (same_lists xs ys d (omega (arith, e)) (λ k l. h (suc k) (omega (arith, l))))

pair_is : (t : Term) (c : ℕ) (n : ℤ) → t.0 ≡ c → t.1 ≡ n → t ≡ (c, n)
pair_is t c n e f = let by_column : ℕ → Term = λ k. (k, t.1) in let by_number : ℤ → Term = λ z. (c, z) in ap by_column e ∙ ap by_number f

-- a quotient at a place
pub quotient_here : (g : ℤ) (negative : Bool) (from terms : List Term) (i : ℕ) (d : Term) → i < length from → (get_or terms i d).0 ≡ (get_or from i d).0 → (get_or terms i d).1 ≡ int_div (signed negative (get_or from i d).1) g
    → get_or terms i d ≡ get_or (signed_quotients g negative from) i d
quotient_here g negative from terms i d h e f = pair_is (get_or terms i d) (get_or from i d).0 (int_div (signed negative (get_or from i d).1) g) e f ∙ sym (quotient_at g negative from i d d h)

pub here_quotient : (g : ℤ) (negative : Bool) (from terms : List Term) (i : ℕ) (d : Term) → i < length from → terms ≡ quotients g (terms_of negative from)
    → ((get_or terms i d).0 ≡ (get_or from i d).0) × ((get_or terms i d).1 ≡ int_div (signed negative (get_or from i d).1) g)
here_quotient g negative from terms i d h e =
    let at = ap (λ xs. get_or xs i d) (e ∙ quotients_signed g negative from) ∙ quotient_at g negative from i d d h in
    (ap (λ t. t.0) at, ap (λ t. t.1) at)

pub all_quotients : (g : ℤ) (negative : Bool) (from terms : List Term) (d : Term) → length terms ≡ length from → ((k : ℕ) → k < length terms → get_or terms k d ≡ get_or (signed_quotients g negative from) k d)
    → terms ≡ quotients g (terms_of negative from)
all_quotients g negative from terms d e h = same_lists terms (signed_quotients g negative from) d (e ∙ sym (length_quotients g negative from)) h ∙ sym (quotients_signed g negative from)

-- ---- the tests of a rounding step

integers_negated : (m : Model) (terms : List Term) → are_integers m (negated terms) ≡ are_integers m terms
integers_negated m [] = refl
integers_negated m (t ∷ terms) = ap (λ b. is_integer m t.0 && b) (integers_negated m terms)

pub integers_signed : (m : Model) (negative : Bool) (terms : List Term) → are_integers m (terms_of negative terms) ≡ are_integers m terms
integers_signed m true terms = integers_negated m terms
integers_signed m false terms = refl

pub continuous : (a b c d : Bool) → a ≡ false → b ≡ true → c ≡ false → Some 4 ≡ fails (a || not b) 5 (fails (not c) 4 (fails (not d) 10 None))
continuous true b c d e f g = cc
continuous false false c d e f g = cc
continuous false true true d e f g = cc
continuous false true false d e f g = refl

pub not_claimed : (a b c d : Bool) → a ≡ false → b ≡ true → c ≡ true → d ≡ false → Some 10 ≡ fails (a || not b) 5 (fails (not c) 4 (fails (not d) 10 None))
not_claimed true b c d e f g h = cc
not_claimed false false c d e f g h = cc
not_claimed false true false d e f g h = cc
not_claimed false true true true e f g h = cc
not_claimed false true true false e f g h = refl

pub claimed : (a b c d : Bool) → a ≡ false → b ≡ true → c ≡ true → d ≡ true → None ≡ fails (a || not b) 5 (fails (not c) 4 (fails (not d) 10 None))
claimed true b c d e f g h = cc
claimed false false c d e f g h = cc
claimed false true false d e f g h = cc
claimed false true true false e f g h = cc
claimed false true true true e f g h = refl

pub not_same : (a b : Ineq) → (a ≡ b → ⊥) → same_ineq a b ≡ false
not_same a b h = if_not (same_ineq a b) (λ e. h (ineq_same a b e))
