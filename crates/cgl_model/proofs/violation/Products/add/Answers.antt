use Rattle.std.proofs.Common.{rules, ◌≡◌, ℕ, ℤ, ◌+◌, ◌*◌, ◌<◌, ◌≤◌, ◌^◌, to_z, of_z, arith}
use Rattle.std.specs.Prelude.{◌+ℤ◌, ◌*ℤ◌, unsigned_abs, FitsSigned}
use Rattle.std.specs.Int.{w128}
use Rattle.std.proofs.lemmas.Int.{ints, fits_signed_from_abs, to_z-of_z, unsigned_abs-mul}
use Rattle.cgl_model.proofs.violation.Products.add.Goals as goal

product_is : (a b : ℤ) (x y : ℕ) → FitsSigned w128 a → FitsSigned w128 b
    → x ≡ unsigned_abs (to_z w128 (of_z w128 a)) → y ≡ unsigned_abs (to_z w128 (of_z w128 b)) → x * y ≡ unsigned_abs a * unsigned_abs b
product_is a b x y f g p q = rw (p, q, to_z-of_z w128 a f, to_z-of_z w128 b g)

too_much : (m x t : ℕ) → x ≡ t → 2 ^ 128 ≤ m + x → 2 ^ 127 ≤ m + t
too_much m x t e h = omega arith

total : (m n p x t : ℕ) → n ≡ m + p → p ≡ x → x ≡ t → n ≡ m + t
total m n p x t e f g = omega arith

product_fits : (a b : ℤ) (m n : ℕ) → n ≡ m + unsigned_abs a * unsigned_abs b → n < 2 ^ 127 → FitsSigned w128 (a *ℤ b)
product_fits a b m n e h = fits_signed_from_abs w128 _ (rw (unsigned_abs-mul a b) (omega arith))

sum_fits : (s a b : ℤ) (m n : ℕ) → unsigned_abs s ≤ m → n ≡ m + unsigned_abs a * unsigned_abs b → n < 2 ^ 127 → FitsSigned w128 (s +ℤ a *ℤ b)
sum_fits s a b m n w e h =
    let product = unsigned_abs-mul a b in
    fits_signed_from_abs w128 _ (omega (arith, ints))

pub returns-in_default-clause-wide : goal.returns-in_default-clause-wide
returns-in_default-clause-wide c =
    let product = product_is c.args.a c.args.b _ _ c.ranges.a c.ranges.b c.unsigned_abs.ensures.value c.unsigned_abs-2.ensures.value in
    let none = c.in_default.ensures in
    omega (arith, product, none)

pub returns-in_default-checked_add-clause-wide : goal.returns-in_default-checked_add-clause-wide
returns-in_default-checked_add-clause-wide c =
    let product = product_is c.args.a c.args.b _ _ c.ranges.a c.ranges.b c.unsigned_abs.ensures.value c.unsigned_abs-2.ensures.value in
    let none = c.in_default-checked_add.ensures in
    omega (arith, product, none)

pub returns-then-magnitude-clause-wide : goal.returns-then-magnitude-clause-wide
returns-then-magnitude-clause-wide c =
    let product = product_is c.args.a c.args.b _ _ c.ranges.a c.ranges.b c.unsigned_abs.ensures.value c.unsigned_abs-2.ensures.value in
    let is = total _ _ _ _ _ c.in-Some-checked_add.ensures.1 c.in-Some.ensures.1 product in
    omega (arith, is)

pub overflow_mul-result : goal.overflow_mul-result
overflow_mul-result c =
    let product = product_is c.args.a c.args.b _ _ c.ranges.a c.ranges.b c.unsigned_abs.ensures.value c.unsigned_abs-2.ensures.value in
    let is = total _ _ _ _ _ c.in-Some-checked_add.ensures.1 c.in-Some.ensures.1 product in
    rw (to_z-of_z w128 c.args.a c.ranges.a, to_z-of_z w128 c.args.b c.ranges.b) (product_fits c.args.a c.args.b _ _ is (search rules))

pub overflow_add-result : goal.overflow_add-result
overflow_add-result c =
    let product = product_is c.args.a c.args.b _ _ c.ranges.a c.ranges.b c.unsigned_abs.ensures.value c.unsigned_abs-2.ensures.value in
    let is = total _ _ _ _ _ c.in-Some-checked_add.ensures.1 c.in-Some.ensures.1 product in
    let sum : FitsSigned w128 c.args.self.sum = search rules in
    let fits = product_fits c.args.a c.args.b _ _ is (search rules) in
    rw (to_z-of_z w128 c.args.a c.ranges.a, to_z-of_z w128 c.args.b c.ranges.b, to_z-of_z w128 _ fits, to_z-of_z w128 _ sum)
    (sum_fits c.args.self.sum c.args.a c.args.b _ _ c.requires.within is (search rules))

pub returns-clause-sum : goal.returns-clause-sum
returns-clause-sum c =
    let product = product_is c.args.a c.args.b _ _ c.ranges.a c.ranges.b c.unsigned_abs.ensures.value c.unsigned_abs-2.ensures.value in
    let is = total _ _ _ _ _ c.in-Some-checked_add.ensures.1 c.in-Some.ensures.1 product in
    let sum : FitsSigned w128 c.args.self.sum = search rules in
    let fits = product_fits c.args.a c.args.b _ _ is (search rules) in
    let all = sum_fits c.args.self.sum c.args.a c.args.b _ _ c.requires.within is (search rules) in
    rw (to_z-of_z w128 c.args.a c.ranges.a, to_z-of_z w128 c.args.b c.ranges.b, to_z-of_z w128 _ fits, to_z-of_z w128 _ sum, to_z-of_z w128 _ all)

pub returns-clause-magnitude : goal.returns-clause-magnitude
returns-clause-magnitude c =
    let product = product_is c.args.a c.args.b _ _ c.ranges.a c.ranges.b c.unsigned_abs.ensures.value c.unsigned_abs-2.ensures.value in
    total _ _ _ _ _ c.in-Some-checked_add.ensures.1 c.in-Some.ensures.1 product
