-- Lists of zeros and ones, and sets of literals.
use Rattle.std.proofs.Common.{◌≡◌, ℕ, zero, suc, ℤ, pos, negsuc, ◌==◌, Bool, true, false, not, List, [], ◌∷◌, length, refl, sym, ap, ◌∙◌, subst, arith, inl, inr}
use Rattle.std.specs.Prelude.{◌+ℤ◌, ◌-ℤ◌, ◌≤ℤ◌, ◌↔◌, if◌then◌else◌}
use Rattle.std.specs.List.{AllByRecursion}
use Rattle.std.proofs.lemmas.Int.{ints}
use Rattle.std.proofs.lemmas.Bool.{eqb-true}
use Rattle.std.proofs.lemmas.List.{length-map}
use Rattle.cgl_model.specs.declared.linear.Ineq.{Ineq}
use Rattle.cgl_model.specs.Inequality.{Term}
use Rattle.cgl_model.specs.Rising.{IsRising}
use Rattle.cgl_derive.specs.Derives.{coefficient}
use Rattle.cgl_derive.specs.Knapsack.{IsSameSign, coefficients, positive_total}
use Rattle.cgl_derive.specs.KnapsackLists.{HoldsAtLists, HoldsAtLiterals, chosen_sum, coefficients_at, sizes}
use Rattle.cgl_derive.proofs.CoefficientLaws.{own_coefficients}

-- a literal: the column where its coefficient is below 0, and its complement where it is above
abbrev literal : ℤ → Bool → Bool
literal (pos n) b = not b
literal (negsuc n) b = b

abbrev flip : List ℤ → List Bool → List Bool
flip [] z = []
flip (a ∷ numbers) [] = []
flip (a ∷ numbers) (b ∷ z) = literal a b ∷ flip numbers z

flip_size : (numbers : List ℤ) (z : List Bool) → length z ≡ length numbers → length (flip numbers z) ≡ length numbers
flip_size [] z e = refl
flip_size (a ∷ numbers) [] e = absurd (omega (arith, e))
flip_size (a ∷ numbers) (b ∷ z) e = ap suc (flip_size numbers z (omega (arith, e)))

flip_back : (numbers : List ℤ) (z : List Bool) → length z ≡ length numbers → flip numbers (flip numbers z) ≡ z
flip_back [] [] e = refl
flip_back [] (b ∷ z) e = absurd (omega (arith, e))
flip_back (a ∷ numbers) [] e = absurd (omega (arith, e))
flip_back (pos n ∷ numbers) (true ∷ z) e = ap (λ (y : List Bool). true ∷ y) (flip_back numbers z (omega (arith, e)))
flip_back (pos n ∷ numbers) (false ∷ z) e = ap (λ (y : List Bool). false ∷ y) (flip_back numbers z (omega (arith, e)))
flip_back (negsuc n ∷ numbers) (b ∷ z) e = ap (λ (y : List Bool). b ∷ y) (flip_back numbers z (omega (arith, e)))

-- ---- coefficients on the same side

-- both at least 0, or both at most 0
abbrev IsSameSide : ℤ → ℤ → Type 0
IsSameSide (pos a) u = pos 0 ≤ℤ u
IsSameSide (negsuc a) u = u ≤ℤ pos 0

abbrev AreSameSides : List ℤ → List ℤ → Type 0
AreSameSides [] [] = Unit {0}
AreSameSides (a ∷ numbers) (u ∷ claim) = IsSameSide a u × AreSameSides numbers claim
AreSameSides numbers claim = ⊥

same_side : (a u : ℤ) → IsSameSign a u → IsSameSide a u
same_side (pos a) u (inl s) = omega (arith, ints, s.1)
same_side (pos a) u (inr s) = absurd (omega (arith, ints, s.0))
same_side (negsuc a) u (inl s) = absurd (omega (arith, ints, s.0))
same_side (negsuc a) u (inr s) = omega (arith, ints, s.1)

no_side : (a : ℤ) → IsSameSide a (pos 0)
no_side (pos a) = omega (arith, ints)
no_side (negsuc a) = omega (arith, ints)

both_sides : (a u v : ℤ) → IsSameSide a u → IsSameSide a v → IsSameSide a (u +ℤ v)
both_sides (pos a) u v s t = omega (arith, ints, s, t)
both_sides (negsuc a) u v s t = omega (arith, ints, s, t)

side_of : (from : List Term) (j : ℕ) (claim : List Term) → AllByRecursion (λ t. IsSameSign (coefficient t.0 from) t.1) claim → IsSameSide (coefficient j from) (coefficient j claim)
side_of from j [] signs = no_side (coefficient j from)
side_of from j (t ∷ claim) signs =
    both_sides (coefficient j from) (if j == t.0 then t.1 else pos 0) (coefficient j claim) (at (j == t.0) refl) (side_of from j claim signs.1)
  where
    at : (b : Bool) → (j == t.0) ≡ b → IsSameSide (coefficient j from) (if b then t.1 else pos 0)
    at true e = same_side (coefficient j from) t.1 (subst (λ (i : ℕ). IsSameSign (coefficient i from) t.1) (sym (eqb-true j t.0 e)) signs.0)
    at false e = no_side (coefficient j from)

sides_of : (from claim : List Term) (more : List Term) → AllByRecursion (λ t. IsSameSign (coefficient t.0 from) t.1) claim → AllByRecursion (λ t. coefficient t.0 from ≡ t.1) more
    → AreSameSides (coefficients more) (coefficients_at more claim)
sides_of from claim [] signs all = tt
sides_of from claim (t ∷ more) signs all = (subst (λ (a : ℤ). IsSameSide a (coefficient t.0 claim)) all.0 (side_of from t.0 claim signs), sides_of from claim more signs all.1)

-- ---- sums over a list and over its literals

row_flip : (numbers : List ℤ) (z : List Bool) → length z ≡ length numbers → chosen_sum numbers z +ℤ chosen_sum (sizes numbers) (flip numbers z) ≡ positive_total numbers
row_flip [] z e = refl
row_flip (a ∷ numbers) [] e = absurd (omega (arith, e))
row_flip (pos n ∷ numbers) (true ∷ z) e = omega (arith, ints, row_flip numbers z (omega (arith, e)))
row_flip (pos n ∷ numbers) (false ∷ z) e = omega (arith, ints, row_flip numbers z (omega (arith, e)))
row_flip (negsuc n ∷ numbers) (true ∷ z) e = omega (arith, ints, row_flip numbers z (omega (arith, e)))
row_flip (negsuc n ∷ numbers) (false ∷ z) e = omega (arith, ints, row_flip numbers z (omega (arith, e)))

claim_flip : (numbers claim : List ℤ) (z : List Bool) → AreSameSides numbers claim → length z ≡ length numbers
    → chosen_sum claim z +ℤ chosen_sum (sizes claim) (flip numbers z) ≡ positive_total claim
claim_flip [] [] z s e = refl
claim_flip [] (u ∷ claim) z s e = absurd s
claim_flip (a ∷ numbers) [] z s e = absurd s
claim_flip (a ∷ numbers) (u ∷ claim) [] s e = absurd (omega (arith, e))
claim_flip (pos n ∷ numbers) (pos m ∷ claim) (true ∷ z) s e = omega (arith, ints, claim_flip numbers claim z s.1 (omega (arith, e)))
claim_flip (pos n ∷ numbers) (pos m ∷ claim) (false ∷ z) s e = omega (arith, ints, claim_flip numbers claim z s.1 (omega (arith, e)))
claim_flip (pos n ∷ numbers) (negsuc m ∷ claim) (b ∷ z) s e = absurd (omega (arith, ints, s.0))
claim_flip (negsuc n ∷ numbers) (pos zero ∷ claim) (true ∷ z) s e = omega (arith, ints, claim_flip numbers claim z s.1 (omega (arith, e)))
claim_flip (negsuc n ∷ numbers) (pos zero ∷ claim) (false ∷ z) s e = omega (arith, ints, claim_flip numbers claim z s.1 (omega (arith, e)))
claim_flip (negsuc n ∷ numbers) (pos (suc m) ∷ claim) (b ∷ z) s e = absurd (omega (arith, ints, s.0))
claim_flip (negsuc n ∷ numbers) (negsuc m ∷ claim) (true ∷ z) s e = omega (arith, ints, claim_flip numbers claim z s.1 (omega (arith, e)))
claim_flip (negsuc n ∷ numbers) (negsuc m ∷ claim) (false ∷ z) s e = omega (arith, ints, claim_flip numbers claim z s.1 (omega (arith, e)))

pub knap_literals : (from claim : Ineq) → IsRising from.terms → AllByRecursion (λ t. IsSameSign (coefficient t.0 from.terms) t.1) claim.terms → HoldsAtLists from claim ↔ HoldsAtLiterals from claim
knap_literals from claim rising signs = (forward, backward)
  where
    same : AreSameSides (coefficients from.terms) (coefficients_at from.terms claim.terms)
    same = sides_of from.terms claim.terms from.terms signs (own_coefficients from.terms rising)

    count : length (coefficients from.terms) ≡ length from.terms
    count = length-map from.terms (λ t. t.1)

    forward : HoldsAtLists from claim → HoldsAtLiterals from claim
    forward holds y size light =
        let numbers = coefficients from.terms in
        let others = coefficients_at from.terms claim.terms in
        let fits : length y ≡ length numbers = size ∙ sym count in
        let z = flip numbers y in
        let flipped : length z ≡ length numbers = flip_size numbers y fits in
        let back : flip numbers z ≡ y = flip_back numbers y fits in
        let row = subst (λ (x : List Bool). chosen_sum numbers z +ℤ chosen_sum (sizes numbers) x ≡ positive_total numbers) back (row_flip numbers z flipped) in
        let value = subst (λ (x : List Bool). chosen_sum others z +ℤ chosen_sum (sizes others) x ≡ positive_total others) back (claim_flip numbers others z same flipped) in
        let met : from.rhs ≤ℤ chosen_sum numbers z = omega (arith, ints, row, light) in
        omega (arith, ints, holds z (flipped ∙ count) met, value)

    backward : HoldsAtLiterals from claim → HoldsAtLists from claim
    backward holds z size met =
        let numbers = coefficients from.terms in
        let others = coefficients_at from.terms claim.terms in
        let fits : length z ≡ length numbers = size ∙ sym count in
        let y = flip numbers z in
        let row = row_flip numbers z fits in
        let value = claim_flip numbers others z same fits in
        let light : chosen_sum (sizes numbers) y ≤ℤ (positive_total numbers -ℤ from.rhs) = omega (arith, ints, row, met) in
        omega (arith, ints, holds y (flip_size numbers z fits ∙ count) light, value)
