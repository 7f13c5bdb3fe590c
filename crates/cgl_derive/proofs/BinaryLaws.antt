-- Whether an inequality holds at each point of zeros and ones is a test.
use Rattle.std.proofs.Common.{◌≡◌, ℕ, zero, suc, ℤ, Bool, true, false, not, ◌||◌, List, [], ◌∷◌, length, map, refl, ap, arith}
use Rattle.std.specs.Prelude.{◌≤ℤ◌, ◌*ℤ◌, ◌↔◌, int_le, pos, IsTrue}
use Rattle.std.proofs.lemmas.Int.{ints}
use Rattle.cgl_model.specs.declared.linear.Ineq.{Ineq}
use Rattle.cgl_model.specs.declared.mip.Model.{Model}
use Rattle.cgl_model.specs.Inequality.{sum_at}
use Rattle.cgl_derive.specs.Binary.{HoldsAtBits, bit, holds_at_bits, holds_of_all, meets_at}
use Rattle.cgl_derive.proofs.TestLaws.{and_true, true_and}

each_list : (n : ℕ) (test : List Bool → Bool) → holds_of_all n test ≡ true → (z : List Bool) → length z ≡ n → test z ≡ true
unfolding holds_of_all
each_list zero test all [] e = all
each_list zero test all (b ∷ z) e = absurd (omega (arith, e))
each_list (suc n) test all [] e = absurd (omega (arith, e))
each_list (suc n) test all (true ∷ z) e =
    each_list n (λ y. test (true ∷ y)) (and_true (holds_of_all n (λ y. test (true ∷ y))) (holds_of_all n (λ y. test (false ∷ y))) all).0 z (omega (arith, e))
each_list (suc n) test all (false ∷ z) e =
    each_list n (λ y. test (false ∷ y)) (and_true (holds_of_all n (λ y. test (true ∷ y))) (holds_of_all n (λ y. test (false ∷ y))) all).1 z (omega (arith, e))

all_lists : (n : ℕ) (test : List Bool → Bool) → ((z : List Bool) → length z ≡ n → test z ≡ true) → holds_of_all n test ≡ true
unfolding holds_of_all
all_lists zero test each = each [] refl
all_lists (suc n) test each =
    true_and (holds_of_all n (λ y. test (true ∷ y))) (holds_of_all n (λ y. test (false ∷ y))) (all_lists n (λ y. test (true ∷ y)) (λ z e. each (true ∷ z) (ap suc e)))
    (all_lists n (λ y. test (false ∷ y)) (λ z e. each (false ∷ z) (ap suc e)))

follows : (u v s t : ℤ) → (not (int_le u v) || int_le s t) ≡ true → u ≤ℤ v → s ≤ℤ t
follows u v s t e h = grind (arith, ints, e, h)

test_follows : (u v s t : ℤ) → (u ≤ℤ v → s ≤ℤ t) → (not (int_le u v) || int_le s t) ≡ true
test_follows u v s t h = at (int_le u v) refl
  where
    at : (b : Bool) → int_le u v ≡ b → (not b || int_le s t) ≡ true
    at true e = let met : s ≤ℤ t = h (grind (arith, ints, e)) in grind (arith, ints, met)
    at false e = refl

pub bits_decided : (m : Model) (from claim : Ineq) → IsTrue (holds_at_bits m from claim) ↔ HoldsAtBits m from claim
unfolding holds_at_bits meets_at
bits_decided m from claim = (
  (λ all z size met.
      follows (from.rhs *ℤ pos 1) (sum_at (map bit z) from.terms) (claim.rhs *ℤ pos 1) (sum_at (map bit z) claim.terms)
      (each_list (length m.cols) (λ y. not (meets_at from y) || meets_at claim y) all z size) met),
  (λ holds.
      all_lists (length m.cols) (λ y. not (meets_at from y) || meets_at claim y)
      (λ z size. test_follows (from.rhs *ℤ pos 1) (sum_at (map bit z) from.terms) (claim.rhs *ℤ pos 1) (sum_at (map bit z) claim.terms) (holds z size))),
)
