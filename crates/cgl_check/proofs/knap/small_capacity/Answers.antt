use Rattle.std.proofs.Common.{◌≡◌, ◌+◌, ◌*◌, ◌<◌, ◌≤◌, ◌^◌, ◌∙◌, ℕ, ℤ, pos, length, Some, sym, ap, subst, rules, arith, to_z, of_z}
use Rattle.std.specs.Prelude.{◌-ℤ◌, ◌<ℤ◌, ◌≤ℤ◌, nat_le, unsigned_abs}
use Rattle.std.specs.Int.{w128}
use Rattle.std.specs.Int.RustNames.{FitsSigned}
use Rattle.std.proofs.lemmas.Int.{ints, to_z-of_z}
use Rattle.std.proofs.lemmas.Bool.{eqb-true}
use Rattle.std.proofs.lemmas.Bool.Decides.{nat_tests}
use Rattle.cgl_derive.specs.Knapsack.{capacity, total_magnitude}
use Rattle.cgl_check.specs.LinearIneq.{ineq_of}
use Rattle.cgl_check.specs.Tests.{reaches}
use Rattle.cgl_check.proofs.KnapSmallLaws.{empty_is, large_not, length_signed, low_not, over_not, small_is, total_bounds, wide_not}
use Rattle.cgl_check.proofs.KnapSumLaws.{magnitude_signed}
use Rattle.cgl_check.proofs.TestLaws.{reaches_not}
use Rattle.cgl_check.proofs.knap.small_capacity.Goals as goal

pub returns-then-is_wide_total : goal.returns-then-is_wide_total
returns-then-is_wide_total c =
    let from = c.args.from in
    let rhs_fits : FitsSigned w128 from.rhs = search rules in
    let wide = rw (to_z-of_z w128 from.rhs rhs_fits) at c.if-is_wide_total.ensures in
    wide_not (ineq_of from) (ap (λ (n : ℕ). reaches (n + unsigned_abs from.rhs)) (magnitude_signed from.negative from.terms.now) ∙ sym wide)

pub overflow_sub-capacity : goal.overflow_sub-capacity
overflow_sub-capacity c =
    let from = c.args.from in
    let total = c.positive_total.result in
    let rhs_fits : FitsSigned w128 from.rhs = search rules in
    let rhs_is = to_z-of_z w128 from.rhs rhs_fits in
    let total_fits : FitsSigned w128 total = search rules in
    let wide = rw rhs_is at c.if-is_wide_total.ensures in
    let narrow = reaches_not _ (sym wide) in
    let bounds = total_bounds from.negative from.terms.now in
    rw (to_z-of_z w128 total total_fits, rhs_is) (omega (arith, ints, narrow, bounds.0, bounds.1, c.positive_total.ensures))

pub returns-then-capacity-lt0 : goal.returns-then-capacity-lt0
returns-then-capacity-lt0 c =
    let from = c.args.from in
    let total = c.positive_total.result in
    let rhs_fits : FitsSigned w128 from.rhs = search rules in
    let rhs_is = to_z-of_z w128 from.rhs rhs_fits in
    let total_fits : FitsSigned w128 total = search rules in
    let total_is = to_z-of_z w128 total total_fits in
    let narrow = reaches_not _ (sym (rw rhs_is at c.if-is_wide_total.ensures)) in
    let bounds = total_bounds from.negative from.terms.now in
    let fits : FitsSigned w128 (to_z w128 (of_z w128 total) -ℤ to_z w128 (of_z w128 from.rhs)) = rw (total_is, rhs_is) (omega (arith, ints, narrow, bounds.0, bounds.1, c.positive_total.ensures)) in
    let is = to_z-of_z w128 (to_z w128 (of_z w128 total) -ℤ to_z w128 (of_z w128 from.rhs)) fits in
    let low : capacity (ineq_of from) <ℤ pos 0 = omega (arith, ints, c.if-capacity-lt0.true, is, total_is, rhs_is, c.positive_total.ensures) in
    low_not (ineq_of from) low

pub returns-then-is_empty : goal.returns-then-is_empty
returns-then-is_empty c =
    let from = c.args.from in
    let total = c.positive_total.result in
    let rhs_fits : FitsSigned w128 from.rhs = search rules in
    let rhs_is = to_z-of_z w128 from.rhs rhs_fits in
    let total_fits : FitsSigned w128 total = search rules in
    let total_is = to_z-of_z w128 total total_fits in
    let narrow = reaches_not _ (sym (rw rhs_is at c.if-is_wide_total.ensures)) in
    let bounds = total_bounds from.negative from.terms.now in
    let fits : FitsSigned w128 (to_z w128 (of_z w128 total) -ℤ to_z w128 (of_z w128 from.rhs)) = rw (total_is, rhs_is) (omega (arith, ints, narrow, bounds.0, bounds.1, c.positive_total.ensures)) in
    let is = to_z-of_z w128 (to_z w128 (of_z w128 total) -ℤ to_z w128 (of_z w128 from.rhs)) fits in
    let room : pos 0 ≤ℤ capacity (ineq_of from) = omega (arith, ints, c.if-capacity-lt0.false, is, total_is, rhs_is, c.positive_total.ensures) in
    let none : length from.terms.now ≡ 0 = eqb-true (length from.terms.now) 0 (sym c.if-is_empty.ensures) in
    let small : total_magnitude (ineq_of from).terms + unsigned_abs from.rhs < 2 ^ 127 = omega (arith, magnitude_signed from.negative from.terms.now, narrow) in
    empty_is (ineq_of from) (length_signed from.negative from.terms.now ∙ none) room small

pub returns-then-capacity : goal.returns-then-capacity
returns-then-capacity c =
    let from = c.args.from in
    let total = c.positive_total.result in
    let rhs_fits : FitsSigned w128 from.rhs = search rules in
    let rhs_is = to_z-of_z w128 from.rhs rhs_fits in
    let total_fits : FitsSigned w128 total = search rules in
    let total_is = to_z-of_z w128 total total_fits in
    let narrow = reaches_not _ (sym (rw rhs_is at c.if-is_wide_total.ensures)) in
    let bounds = total_bounds from.negative from.terms.now in
    let fits : FitsSigned w128 (to_z w128 (of_z w128 total) -ℤ to_z w128 (of_z w128 from.rhs)) = rw (total_is, rhs_is) (omega (arith, ints, narrow, bounds.0, bounds.1, c.positive_total.ensures)) in
    let is = to_z-of_z w128 (to_z w128 (of_z w128 total) -ℤ to_z w128 (of_z w128 from.rhs)) fits in
    let number = to_z w128 (of_z w128 (to_z w128 (of_z w128 total) -ℤ to_z w128 (of_z w128 from.rhs))) in
    let number_is : number ≡ capacity (ineq_of from) = omega (arith, ints, is, total_is, rhs_is, c.positive_total.ensures) in
    let length_is = length_signed from.negative from.terms.now in
    let some : 0 < length (ineq_of from).terms = grind (arith, nat_tests, length_is, c.if-is_empty.ensures) in
    let big : pos 50000000 <ℤ capacity (ineq_of from) = omega (arith, ints, c.if-capacity.true, number_is) in
    large_not (ineq_of from) some big

pub returns-then-not-is_within : goal.returns-then-not-is_within
returns-then-not-is_within c =
    let from = c.args.from in
    let total = c.positive_total.result in
    let rhs_fits : FitsSigned w128 from.rhs = search rules in
    let rhs_is = to_z-of_z w128 from.rhs rhs_fits in
    let total_fits : FitsSigned w128 total = search rules in
    let total_is = to_z-of_z w128 total total_fits in
    let narrow = reaches_not _ (sym (rw rhs_is at c.if-is_wide_total.ensures)) in
    let bounds = total_bounds from.negative from.terms.now in
    let fits : FitsSigned w128 (to_z w128 (of_z w128 total) -ℤ to_z w128 (of_z w128 from.rhs)) = rw (total_is, rhs_is) (omega (arith, ints, narrow, bounds.0, bounds.1, c.positive_total.ensures)) in
    let is = to_z-of_z w128 (to_z w128 (of_z w128 total) -ℤ to_z w128 (of_z w128 from.rhs)) fits in
    let number = to_z w128 (of_z w128 (to_z w128 (of_z w128 total) -ℤ to_z w128 (of_z w128 from.rhs))) in
    let number_is : number ≡ capacity (ineq_of from) = omega (arith, ints, is, total_is, rhs_is, c.positive_total.ensures) in
    let length_is = length_signed from.negative from.terms.now in
    let test = ap (λ (z : ℤ). nat_le (length (ineq_of from).terms * (unsigned_abs z + 2)) 50000000) (sym number_is) ∙ ap (λ (n : ℕ). nat_le (n * (unsigned_abs number + 2)) 50000000) length_is ∙ sym c.if-not-is_within.ensures in
    over_not (ineq_of from) test

pub returns : goal.returns
returns c =
    let from = c.args.from in
    let total = c.positive_total.result in
    let rhs_fits : FitsSigned w128 from.rhs = search rules in
    let rhs_is = to_z-of_z w128 from.rhs rhs_fits in
    let total_fits : FitsSigned w128 total = search rules in
    let total_is = to_z-of_z w128 total total_fits in
    let narrow = reaches_not _ (sym (rw rhs_is at c.if-is_wide_total.ensures)) in
    let bounds = total_bounds from.negative from.terms.now in
    let fits : FitsSigned w128 (to_z w128 (of_z w128 total) -ℤ to_z w128 (of_z w128 from.rhs)) = rw (total_is, rhs_is) (omega (arith, ints, narrow, bounds.0, bounds.1, c.positive_total.ensures)) in
    let is = to_z-of_z w128 (to_z w128 (of_z w128 total) -ℤ to_z w128 (of_z w128 from.rhs)) fits in
    let number = to_z w128 (of_z w128 (to_z w128 (of_z w128 total) -ℤ to_z w128 (of_z w128 from.rhs))) in
    let number_is : number ≡ capacity (ineq_of from) = omega (arith, ints, is, total_is, rhs_is, c.positive_total.ensures) in
    let length_is = length_signed from.negative from.terms.now in
    let some : 0 < length (ineq_of from).terms = grind (arith, nat_tests, length_is, c.if-is_empty.ensures) in
    let test = ap (λ (z : ℤ). nat_le (length (ineq_of from).terms * (unsigned_abs z + 2)) 50000000) (sym number_is) ∙ ap (λ (n : ℕ). nat_le (n * (unsigned_abs number + 2)) 50000000) length_is ∙ sym c.if-not-is_within.ensures in
    let room : pos 0 ≤ℤ capacity (ineq_of from) = omega (arith, ints, c.if-capacity-lt0.false, number_is) in
    let small : total_magnitude (ineq_of from).terms + unsigned_abs from.rhs < 2 ^ 127 = omega (arith, magnitude_signed from.negative from.terms.now, narrow) in
    ap (λ (z : ℤ). Some (unsigned_abs z)) number_is ∙ small_is (ineq_of from) some room small test
