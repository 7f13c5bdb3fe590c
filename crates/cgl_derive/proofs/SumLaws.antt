-- Sums of terms as sums over columns.
use Rattle.std.proofs.Common.{◌≡◌, ℕ, zero, suc, ℤ, pos, List, [], ◌∷◌, ◌==◌, refl, sym, ap, ◌∙◌, arith}
use Rattle.std.specs.Prelude.{◌+ℤ◌, ◌*ℤ◌, if◌then◌else◌}
use Rattle.std.proofs.lemmas.Int.{ints}
use Rattle.std.proofs.lemmas.Bool.Decides.{nat_tests}
use Rattle.std.proofs.Math.IntN.{*ℤ-zero, zero-*ℤ}
use Rattle.cgl_num.specs.IntegerLaws.{*ℤ_assoc, *ℤ-+ℤ, +ℤ-*ℤ}
use Rattle.cgl_model.specs.Inequality.{Term, sum_at}
use Rattle.cgl_model.specs.Point.{number_at}
use Rattle.cgl_derive.specs.Derives.{Part, coefficient, weighted}
use Rattle.cgl_derive.proofs.TestLaws.{plus_none, none_plus}

-- the sum over the columns of a number for each, times the point's
abbrev pub dot : List ℤ → (ℕ → ℤ) → ℤ
dot [] f = pos 0
dot (v ∷ p) f = f 0 *ℤ v +ℤ dot p (λ j. f (suc j))

pub dot_same : (p : List ℤ) (f g : ℕ → ℤ) → ((j : ℕ) → f j ≡ g j) → dot p f ≡ dot p g
dot_same [] f g h = refl
dot_same (v ∷ p) f g h = ap (λ z. z *ℤ v +ℤ dot p (λ j. f (suc j))) (h 0) ∙ ap (λ z. g 0 *ℤ v +ℤ z) (dot_same p (λ j. f (suc j)) (λ j. g (suc j)) (λ j. h (suc j)))

dot_none : (p : List ℤ) → dot p (λ j. pos 0) ≡ pos 0
dot_none [] = refl
dot_none (v ∷ p) = let here = zero-*ℤ v in let rest = dot_none p in omega (arith, ints, here, rest)

dot_add : (p : List ℤ) (f g : ℕ → ℤ) → dot p (λ j. f j +ℤ g j) ≡ dot p f +ℤ dot p g
dot_add [] f g = refl
dot_add (v ∷ p) f g = let here = +ℤ-*ℤ (f 0) (g 0) v in let rest = dot_add p (λ j. f (suc j)) (λ j. g (suc j)) in omega (arith, ints, here, rest)

dot_scale : (p : List ℤ) (b : ℤ) (f : ℕ → ℤ) → dot p (λ j. b *ℤ f j) ≡ b *ℤ dot p f
dot_scale [] b f = sym (*ℤ-zero b)
dot_scale (v ∷ p) b f =
    let here = *ℤ_assoc b (f 0) v in
    let rest = dot_scale p b (λ j. f (suc j)) in
    let both = *ℤ-+ℤ b (f 0 *ℤ v) (dot p (λ j. f (suc j))) in
    omega (arith, ints, here, rest, both)

not_first : (j : ℕ) (a : ℤ) → (if suc j == 0 then a else pos 0) ≡ pos 0
not_first j a = grind (arith, nat_tests)

first_other : (c : ℕ) (a : ℤ) → (if 0 == suc c then a else pos 0) ≡ pos 0
first_other c a = grind (arith, nat_tests)

one_less : (j c : ℕ) (a : ℤ) → (if suc j == suc c then a else pos 0) ≡ (if j == c then a else pos 0)
one_less j c a = grind (arith, nat_tests)

-- one column alone
dot_unit : (p : List ℤ) (c : ℕ) (a : ℤ) → dot p (λ j. if j == c then a else pos 0) ≡ a *ℤ number_at p c
dot_unit [] c a = sym (*ℤ-zero a)
dot_unit (v ∷ p) zero a =
    let rest : dot p (λ j. if suc j == 0 then a else pos 0) ≡ pos 0 = dot_same p (λ j. if suc j == 0 then a else pos 0) (λ j. pos 0) (λ j. not_first j a) ∙ dot_none p in
    ap (λ z. a *ℤ v +ℤ z) rest ∙ plus_none (a *ℤ v)
dot_unit (v ∷ p) (suc c) a =
    let rest : dot p (λ j. if suc j == suc c then a else pos 0) ≡ a *ℤ number_at p c = dot_same p (λ j. if suc j == suc c then a else pos 0) (λ j. if j == c then a else pos 0) (λ j. one_less j c a) ∙ dot_unit p c a in
    ap (λ z. z *ℤ v +ℤ dot p (λ j. if suc j == suc c then a else pos 0)) (first_other c a) ∙ ap (λ z. pos 0 *ℤ v +ℤ z) rest ∙ ap (λ z. z +ℤ a *ℤ number_at p c) (zero-*ℤ v) ∙ none_plus (a *ℤ number_at p c)

-- the sum of the terms goes over the columns
pub sum_is : (p : List ℤ) (terms : List Term) → sum_at p terms ≡ dot p (λ j. coefficient j terms)
sum_is p [] = sym (dot_none p)
sum_is p (t ∷ terms) =
    let here = dot_unit p t.0 t.1 in
    let rest = sum_is p terms in
    let both = dot_add p (λ j. if j == t.0 then t.1 else pos 0) (λ j. coefficient j terms) in
    omega (arith, ints, here, rest, both)

-- the weighted sum of the parts' sums is the sum of the weighted coefficients
pub weighted_sum : (p : List ℤ) (parts : List Part) → weighted (λ c. sum_at p c.terms) parts ≡ dot p (λ j. weighted (λ c. coefficient j c.terms) parts)
weighted_sum p [] = sym (dot_none p)
weighted_sum p (part ∷ parts) =
    let here = ap (λ z. part.1 *ℤ z) (sum_is p part.0.terms) in
    let scaled = dot_scale p part.1 (λ j. coefficient j part.0.terms) in
    let rest = weighted_sum p parts in
    let both = dot_add p (λ j. part.1 *ℤ coefficient j part.0.terms) (λ j. weighted (λ c. coefficient j c.terms) parts) in
    omega (arith, ints, here, scaled, rest, both)

-- q times the sum of the terms
pub times_sum : (p : List ℤ) (q : ℤ) (terms : List Term) → dot p (λ j. q *ℤ coefficient j terms) ≡ q *ℤ sum_at p terms
times_sum p q terms = dot_scale p q (λ j. coefficient j terms) ∙ ap (λ z. q *ℤ z) (sym (sum_is p terms))
