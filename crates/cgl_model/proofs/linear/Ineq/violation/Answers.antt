use Rattle.std.proofs.Common.{rules, ◌≡◌, ◌∙◌, subst, List, ℕ, ℤ, pos, ◌+◌, ◌*◌, ◌<◌, ◌≤◌, ◌^◌, to_z, of_z, arith}
use Rattle.std.specs.Prelude.{◌+ℤ◌, ◌*ℤ◌, ◌-ℤ◌, unsigned_abs, FitsSigned}
use Rattle.std.specs.Int.{w128}
use Rattle.std.proofs.lemmas.Int.{ints, fits_signed_from_abs, to_z-of_z, unsigned_abs-mul}
use Rattle.std.proofs.lemmas.Result.{MatchResult-from_err}
use Rattle.cgl_num.specs.Fraction.{Fraction, lowest}
use Rattle.cgl_model.specs.Inequality.{Term, magnitudes_at, sum_at}
use Rattle.cgl_model.proofs.linear.Ineq.violation.Goals as goal

product_is : (a b d s : ℤ) → FitsSigned w128 a → FitsSigned w128 b → b ≡ d → s ≡ pos 0 +ℤ to_z w128 (of_z w128 a) *ℤ to_z w128 (of_z w128 b) → s ≡ a *ℤ d
product_is a b d s f g e is =
    let product = rw (to_z-of_z w128 a f, to_z-of_z w128 b g, e) at is in
    omega (arith, ints)

magnitude_is : (a b d : ℤ) (m : ℕ) → FitsSigned w128 a → FitsSigned w128 b → b ≡ d
    → m ≡ 0 + unsigned_abs (to_z w128 (of_z w128 a)) * unsigned_abs (to_z w128 (of_z w128 b)) → m ≡ unsigned_abs a * unsigned_abs d
magnitude_is a b d m f g e is =
    let product = rw (to_z-of_z w128 a f, to_z-of_z w128 b g, e) at is in
    omega arith

-- the right side x times the denominator d is a, and b is the sum
record AreApart (x d a b : ℤ) : Type 0 where
  bound : a ≡ x *ℤ d
  first : FitsSigned w128 a
  second : FitsSigned w128 b
  narrow : unsigned_abs (a -ℤ b) < 2 ^ 127

apart : (x d a b : ℤ) (m n : ℕ) → a ≡ x *ℤ d → m ≡ unsigned_abs x * unsigned_abs d → unsigned_abs b + m ≤ n → n < 2 ^ 127 → AreApart x d a b
apart x d a b m n e f within narrow =
    let product = unsigned_abs-mul x d in
    record {
      bound = e;
      first = fits_signed_from_abs w128 a (omega (arith, ints));
      second = fits_signed_from_abs w128 b (omega arith);
      narrow = omega (arith, ints);
    }

difference_is : (x d a b : ℤ) → AreApart x d a b → to_z w128 (of_z w128 a) -ℤ to_z w128 (of_z w128 b) ≡ a -ℤ b
difference_is x d a b parts = rw (to_z-of_z w128 a parts.first, to_z-of_z w128 b parts.second)

lowest_is : (f : Fraction) (x d a b s e : ℤ) → AreApart x d a b → f ≡ lowest (to_z w128 (of_z w128 (to_z w128 (of_z w128 a) -ℤ to_z w128 (of_z w128 b)))) (to_z w128 (of_z w128 e))
    → FitsSigned w128 e → e ≡ d → b ≡ s → f ≡ lowest (x *ℤ d -ℤ s) d
lowest_is f x d a b s e parts is fits den sum =
    rw (difference_is x d a b parts, to_z-of_z w128 (a -ℤ b) (fits_signed_from_abs w128 _ parts.narrow), parts.bound, sum, to_z-of_z w128 e fits, den) at is

same_sum : (p q : List ℤ) (t u : List Term) → p ≡ q → t ≡ u → sum_at p t ≡ sum_at q u
same_sum p q t u e f = cc

same_magnitudes : (p q : List ℤ) (t u : List Term) (m n : ℕ) → m ≡ n → p ≡ q → t ≡ u → m + magnitudes_at p t ≡ n + magnitudes_at q u
same_magnitudes p q t u m n e f g = cc

wide_bound : (a b d : ℤ) (k : ℕ) → FitsSigned w128 a → FitsSigned w128 b → b ≡ d
    → 2 ^ 127 ≤ 0 + unsigned_abs (to_z w128 (of_z w128 a)) * unsigned_abs (to_z w128 (of_z w128 b)) → 2 ^ 127 ≤ unsigned_abs a * unsigned_abs d + k
wide_bound a b d k f g e h =
    let wide = rw (to_z-of_z w128 a f, to_z-of_z w128 b g, e) at h in
    omega arith

pub returns-clause-ok : goal.returns-clause-ok
returns-clause-ok c =
    let rhs : FitsSigned w128 c.args.self.now.rhs = search rules in
    let den : FitsSigned w128 c.denominator.result = record { sfits = c.denominator.type_inv } in
    let magnitude = magnitude_is c.args.self.now.rhs c.denominator.result c.args.x.now.d _ rhs den c.denominator.ensures.value c.in_ok-bound.ensures.magnitude in
    let bound = product_is c.args.self.now.rhs c.denominator.result c.args.x.now.d _ rhs den c.denominator.ensures.value c.in_ok-bound.ensures.sum in
    let parts = apart c.args.self.now.rhs c.args.x.now.d c.in_ok-bound.bound.sum c.in_ok-sum.sum.sum _ _ bound magnitude c.in_ok-sum.ensures.within c.in_ok-sum.ensures.narrow in
    let den : FitsSigned w128 c.denominator-2.result = record { sfits = c.denominator-2.type_inv } in
    let sum = c.in_ok-sum.ensures.sum ∙ same_sum _ _ _ _ c.numerators.ensures c.as_slice.ensures.value in
    lowest_is _ c.args.self.now.rhs c.args.x.now.d c.in_ok-bound.bound.sum c.in_ok-sum.sum.sum _ c.denominator-2.result parts c.new.ensures.value den c.denominator-2.ensures.value sum

pub returns-in_err-bound-clause-wide : goal.returns-in_err-bound-clause-wide
returns-in_err-bound-clause-wide c =
    let rhs : FitsSigned w128 c.args.self.now.rhs = search rules in
    let den : FitsSigned w128 c.denominator.result = record { sfits = c.denominator.type_inv } in
    MatchResult-from_err c.from_residual.result _ _ c.from_residual.ensures.0 (λ e. wide_bound c.args.self.now.rhs c.denominator.result c.args.x.now.d _ rhs den c.denominator.ensures.value c.in_err-bound.ensures.wide)

pub returns-in_err-sum-clause-wide : goal.returns-in_err-sum-clause-wide
returns-in_err-sum-clause-wide c =
    let rhs : FitsSigned w128 c.args.self.now.rhs = search rules in
    let den : FitsSigned w128 c.denominator.result = record { sfits = c.denominator.type_inv } in
    let magnitude = magnitude_is c.args.self.now.rhs c.denominator.result c.args.x.now.d _ rhs den c.denominator.ensures.value c.in_ok-bound.ensures.magnitude in
    let same = same_magnitudes _ _ _ _ _ _ magnitude c.numerators.ensures c.as_slice.ensures.value in
    MatchResult-from_err c.from_residual-in_err-sum.result _ _ c.from_residual-in_err-sum.ensures.0 (λ e. subst (λ n. 2 ^ 127 ≤ n) same c.in_err-sum.ensures.wide)

pub overflow_sub-bound : goal.overflow_sub-bound
overflow_sub-bound c =
    let rhs : FitsSigned w128 c.args.self.now.rhs = search rules in
    let den : FitsSigned w128 c.denominator.result = record { sfits = c.denominator.type_inv } in
    let magnitude = magnitude_is c.args.self.now.rhs c.denominator.result c.args.x.now.d _ rhs den c.denominator.ensures.value c.in_ok-bound.ensures.magnitude in
    let bound = product_is c.args.self.now.rhs c.denominator.result c.args.x.now.d _ rhs den c.denominator.ensures.value c.in_ok-bound.ensures.sum in
    let parts = apart c.args.self.now.rhs c.args.x.now.d c.in_ok-bound.bound.sum c.in_ok-sum.sum.sum _ _ bound magnitude c.in_ok-sum.ensures.within c.in_ok-sum.ensures.narrow in
    rw (difference_is _ _ _ _ parts) (fits_signed_from_abs w128 _ parts.narrow)

pub new-requires-clause-narrow_num : goal.new-requires-clause-narrow_num
new-requires-clause-narrow_num c =
    let rhs : FitsSigned w128 c.args.self.now.rhs = search rules in
    let den : FitsSigned w128 c.denominator.result = record { sfits = c.denominator.type_inv } in
    let magnitude = magnitude_is c.args.self.now.rhs c.denominator.result c.args.x.now.d _ rhs den c.denominator.ensures.value c.in_ok-bound.ensures.magnitude in
    let bound = product_is c.args.self.now.rhs c.denominator.result c.args.x.now.d _ rhs den c.denominator.ensures.value c.in_ok-bound.ensures.sum in
    let parts = apart c.args.self.now.rhs c.args.x.now.d c.in_ok-bound.bound.sum c.in_ok-sum.sum.sum _ _ bound magnitude c.in_ok-sum.ensures.within c.in_ok-sum.ensures.narrow in
    rw (difference_is _ _ _ _ parts, to_z-of_z w128 _ (fits_signed_from_abs w128 _ parts.narrow)) parts.narrow

pub new-requires-clause-positive : goal.new-requires-clause-positive
new-requires-clause-positive c =
    let den : FitsSigned w128 c.denominator-2.result = record { sfits = c.denominator-2.type_inv } in
    rw (to_z-of_z w128 c.denominator-2.result den, c.denominator-2.ensures.value) c.denominator-2.ensures.positive

pub returns-clause-narrow : goal.returns-clause-narrow
returns-clause-narrow c =
    let rhs : FitsSigned w128 c.args.self.now.rhs = search rules in
    let den : FitsSigned w128 c.denominator.result = record { sfits = c.denominator.type_inv } in
    let magnitude = magnitude_is c.args.self.now.rhs c.denominator.result c.args.x.now.d _ rhs den c.denominator.ensures.value c.in_ok-bound.ensures.magnitude in
    let same = same_magnitudes _ _ _ _ _ _ magnitude c.numerators.ensures c.as_slice.ensures.value in
    subst (λ n. n < 2 ^ 127) (c.in_ok-sum.ensures.magnitude ∙ same) c.in_ok-sum.ensures.narrow
