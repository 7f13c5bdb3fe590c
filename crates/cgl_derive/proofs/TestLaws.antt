-- What tests tell.
use Rattle.std.proofs.Common.{◌≡◌, ◌⊎◌, ℕ, ℤ, pos, ◌==◌, ◌&&◌, ◌||◌, Bool, true, false, refl, inl, inr, arith}
use Rattle.std.specs.Prelude.{◌+ℤ◌}
use Rattle.std.specs.Ordering.{int_eq}
use Rattle.std.proofs.lemmas.Int.{ints}
use Rattle.std.proofs.lemmas.Bool.Decides.{nat_tests}

pub tested : (b : Bool) → (b ≡ true) ⊎ (b ≡ false)
tested true = inl refl
tested false = inr refl

pub and_true : (a b : Bool) → (a && b) ≡ true → (a ≡ true) × (b ≡ true)
and_true true b e = (refl, e)
and_true false b e = cc

pub true_and : (a b : Bool) → a ≡ true → b ≡ true → (a && b) ≡ true
true_and true b e f = f
true_and false b e f = cc

pub or_true : (a b : Bool) → (a || b) ≡ true → (a ≡ true) ⊎ (b ≡ true)
or_true true b e = inl refl
or_true false b e = inr e

pub or_false : (a b : Bool) → (a || b) ≡ false → (a ≡ false) × (b ≡ false)
or_false true b e = cc
or_false false b e = (refl, e)

pub false_or : (a b : Bool) → a ≡ false → b ≡ false → (a || b) ≡ false
false_or true b e f = cc
false_or false b e f = f

pub nat_same : (x y : ℕ) → (x == y) ≡ true → x ≡ y
nat_same x y e = grind (arith, nat_tests, e)

pub int_same : (x y : ℤ) → int_eq x y ≡ true → x ≡ y
int_same x y e = grind (arith, ints, e)

pub same_int : (x y : ℤ) → x ≡ y → int_eq x y ≡ true
same_int x y e = grind (arith, ints, e)

pub plus_none : (z : ℤ) → z +ℤ pos 0 ≡ z
plus_none z = omega (arith, ints)

pub none_plus : (z : ℤ) → pos 0 +ℤ z ≡ z
none_plus z = omega (arith, ints)
