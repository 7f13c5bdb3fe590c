-- Two lists place by place, and two models.
use Rattle.std.proofs.Common.{◌≡◌, ◌∙◌, ℕ, zero, suc, ◌+◌, ◌<◌, ◌≤◌, arith, add-one, Bool, true, false, ◌&&◌, List, [], ◌∷◌, take, get_or, length, refl, sym, ap, subst, true≢false}
use Rattle.std.proofs.lemmas.List.{take_all}
use Rattle.std.specs.Cmp.Lexicographic.{pointwise}

and_false : (b : Bool) → (b && false) ≡ false
and_false true = refl
and_false false = refl

and_left : (a b : Bool) → (a && b) ≡ true → a ≡ true
and_left true b e = refl
and_left false b e = e

and_right : (a b : Bool) → (a && b) ≡ true → b ≡ true
and_right true b e = e
and_right false b e = absurd (true≢false (sym e))

and_both : (a b : Bool) → a ≡ true → b ≡ true → (a && b) ≡ true
and_both a b ea eb = ap (λ t. t && b) ea ∙ eb

-- one place differs
pub differs : {X : Type 0} (E : X → X → Bool) (xs ys : List X) (k : ℕ) (d e : X) → k < length xs → length xs ≡ length ys
    → E (get_or xs k d) (get_or ys k e) ≡ false → pointwise E xs ys ≡ false
differs E [] ys k d e within same other = grind arith
differs E (x ∷ xs) [] k d e within same other = refl
differs E (x ∷ xs) (y ∷ ys) zero d e within same other = ap (λ t. t && pointwise E xs ys) other
differs E (x ∷ xs) (y ∷ ys) (suc k) d e within same other =
    ap (λ t. E x y && t) (differs E xs ys k d e (omega (arith, within)) (omega (arith, same)) other) ∙ and_false (E x y)

next_same : {X : Type 0} (E : X → X → Bool) (xs ys : List X) (k : ℕ) (d e : X) → k < length xs → length xs ≡ length ys
    → pointwise E (take k xs) (take k ys) ≡ true → E (get_or xs k d) (get_or ys k e) ≡ true → pointwise E (take (suc k) xs) (take (suc k) ys) ≡ true
next_same E [] ys k d e within same before here = grind arith
next_same E (x ∷ xs) [] k d e within same before here = grind arith
next_same E (x ∷ xs) (y ∷ ys) zero d e within same before here = and_both (E x y) true here refl
next_same E (x ∷ xs) (y ∷ ys) (suc k) d e within same before here =
    and_both (E x y) _ (and_left (E x y) _ before) (next_same E xs ys k d e (omega (arith, within)) (omega (arith, same)) (and_right (E x y) _ before) here)

-- one place more is the same
pub same_so_far : {X : Type 0} (E : X → X → Bool) (xs ys : List X) (k : ℕ) (d e : X) → k < length xs → length xs ≡ length ys
    → pointwise E (take k xs) (take k ys) ≡ true → E (get_or xs k d) (get_or ys k e) ≡ true → pointwise E (take (k + 1) xs) (take (k + 1) ys) ≡ true
same_so_far E xs ys k d e within same before here =
    ap (λ n. pointwise E (take n xs) (take n ys)) (add-one k) ∙ next_same E xs ys k d e within same before here

pub same_at_last : {X : Type 0} (E : X → X → Bool) (xs ys : List X) (k : ℕ) → length xs ≤ k → length xs ≡ length ys
    → pointwise E (take k xs) (take k ys) ≡ true → pointwise E xs ys ≡ true
same_at_last E xs ys k past same all =
    sym (ap (λ l. pointwise E l (take k ys)) (take_all k xs past) ∙ ap (pointwise E xs) (take_all k ys (omega (arith, past, same)))) ∙ all

pub other_lengths : {X : Type 0} (E : X → X → Bool) (xs ys : List X) → (length xs ≡ length ys → ⊥) → pointwise E xs ys ≡ false
other_lengths E [] [] other = absurd (other refl)
other_lengths E [] (y ∷ ys) other = refl
other_lengths E (x ∷ xs) [] other = refl
other_lengths E (x ∷ xs) (y ∷ ys) other =
    ap (λ t. E x y && t) (other_lengths E xs ys (λ e. other (omega (arith, e)))) ∙ and_false (E x y)
