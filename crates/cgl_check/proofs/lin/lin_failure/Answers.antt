use Rattle.std.proofs.Common.{◌≡◌, ℕ, pos, length, Some, true, false, sym, ◌∙◌, subst, rules, arith}
use Rattle.std.specs.Prelude.{◌<ℤ◌}
use Rattle.std.specs.Int.{w128}
use Rattle.std.specs.Int.RustNames.{FitsSigned}
use Rattle.std.proofs.lemmas.Int.{ints, to_z-of_z}
use Rattle.cgl_model.specs.Inequality.{AreColumnsBelow}
use Rattle.cgl_derive.specs.Derives.{AreColumns, parts_of}
use Rattle.cgl_derive.specs.Totals.{is_wide_claim}
use Rattle.cgl_check.specs.Tests.{is_claimed}
use Rattle.cgl_check.specs.Walk.{meant_at, parts_in}
use Rattle.cgl_check.proofs.TestLaws.{columns_hold, if_not, zero_above}
use Rattle.cgl_check.proofs.LinExact.{parts_below}
use Rattle.cgl_check.proofs.LinCheckLaws.{head_passed, missing_failure, too_wide, claim_too_wide, parts_there, claimed_from, from_claimed, sum_result}
use Rattle.cgl_check.proofs.WalkLaws.{meant_columns}
use Rattle.std.proofs.lemmas.Bool.{false≢true}
use Rattle.cgl_model.specs.declared.linear.Ineq.{Ineq}
use Rattle.cgl_derive.specs.declared.step.Ref.{Ref}
use Rattle.cgl_check.proofs.lin.lin_failure.Goals as goal

pub returns-then-has_missing-clause-failure : goal.returns-then-has_missing-clause-failure
returns-then-has_missing-clause-failure c =
    let m = c.args.scope.now.model.now in
    let lin = c.args.lin.now in
    let means = meant_at c.args.scope.now c.args.frames.now c.args.own in
    let positive : pos 0 <ℤ lin.q = omega (arith, ints, c.if-lin-lt1.false) in
    let columns = sym (rw c.as_slice.ensures.value at c.if-not-are_columns.ensures.test) in
    let none = sym (rw c.as_slice-refs.ensures at c.if-has_negative.ensures) in
    let missing = sym (rw c.as_slice-refs.ensures at c.if-has_missing.ensures) in
    missing_failure m means lin missing ∙ head_passed m means lin columns none (zero_above lin.q positive)

pub returns-in_default-clause-failure : goal.returns-in_default-clause-failure
returns-in_default-clause-failure c =
    let m = c.args.scope.now.model.now in
    let lin = c.args.lin.now in
    let means = meant_at c.args.scope.now c.args.frames.now c.args.own in
    let positive : pos 0 <ℤ lin.q = omega (arith, ints, c.if-lin-lt1.false) in
    let columns = sym (rw c.as_slice.ensures.value at c.if-not-are_columns.ensures.test) in
    let none = sym (rw c.as_slice-refs.ensures at c.if-has_negative.ensures) in
    let some = sym (rw c.as_slice-refs.ensures at c.if-has_missing.ensures) in
    let wide = (rw c.as_slice-refs.ensures at c.in_default.ensures.wide) some in
    too_wide m lin (parts_of means lin.refs) (parts_in means lin.refs) (parts_there means lin.refs some) wide ∙ head_passed m means lin columns none (zero_above lin.q positive)

pub proves-requires : goal.proves-requires
proves-requires c =
    let columns = sym (rw c.as_slice.ensures.value at c.if-not-are_columns.ensures.test) in
    let P : ℕ → Type 0 = λ n. AreColumnsBelow n c.args.lin.now.claim.terms in
    subst P (sym c.add_all.ensures.size) (columns_hold c.args.scope.now.model.now c.args.lin.now.claim.terms columns)

pub returns-in-Err-clause-failure : goal.returns-in-Err-clause-failure
returns-in-Err-clause-failure c =
    let m = c.args.scope.now.model.now in
    let lin = c.args.lin.now in
    let means = meant_at c.args.scope.now c.args.frames.now c.args.own in
    let q_fits : FitsSigned w128 lin.q = search rules in
    let q_is = to_z-of_z w128 lin.q q_fits in
    let positive : pos 0 <ℤ lin.q = omega (arith, ints, c.if-lin-lt1.false) in
    let columns = sym (rw c.as_slice.ensures.value at c.if-not-are_columns.ensures.test) in
    let none = sym (rw c.as_slice-refs.ensures at c.if-has_negative.ensures) in
    let some = rw c.as_slice-refs.ensures at c.in-Ok.ensures.some in
    let wide : is_wide_claim lin.q lin.claim ≡ true = cc (q_is, c.in-Err.ensures.wide) in
    claim_too_wide m lin (parts_of means lin.refs) wide (parts_in means lin.refs) (parts_there means lin.refs some) ∙ head_passed m means lin columns none (zero_above lin.q positive)

pub returns-in-Ok-true-clause-failure : goal.returns-in-Ok-true-clause-failure
returns-in-Ok-true-clause-failure c =
    let m = c.args.scope.now.model.now in
    let lin = c.args.lin.now in
    let means = meant_at c.args.scope.now c.args.frames.now c.args.own in
    let q_fits : FitsSigned w128 lin.q = search rules in
    let q_is = to_z-of_z w128 lin.q q_fits in
    let positive : pos 0 <ℤ lin.q = omega (arith, ints, c.if-lin-lt1.false) in
    let columns = sym (rw c.as_slice.ensures.value at c.if-not-are_columns.ensures.test) in
    let none = sym (rw c.as_slice-refs.ensures at c.if-has_negative.ensures) in
    let some = rw c.as_slice-refs.ensures at c.in-Ok.ensures.some in
    let parts = parts_in means lin.refs in
    let sum = rw c.as_slice-refs.ensures at c.in-Ok.ensures.sum in
    let narrow = rw c.as_slice-refs.ensures at c.in-Ok.ensures.narrow in
    let value = rw q_is at c.in-Ok-true.ensures.value in
    let fits = rw q_is at c.in-Ok-true.ensures.narrow in
    let claimed = claimed_from m parts lin.q lin.claim c.add_all.new.sum sum (value.0 c.in-Ok-true.field-0-test) in
    sum_result m lin (parts_of means lin.refs) parts true (parts_there means lin.refs some) narrow fits claimed ∙ head_passed m means lin columns none (zero_above lin.q positive)

pub returns-in-Ok-false-clause-failure : goal.returns-in-Ok-false-clause-failure
returns-in-Ok-false-clause-failure c =
    let m = c.args.scope.now.model.now in
    let lin = c.args.lin.now in
    let means = meant_at c.args.scope.now c.args.frames.now c.args.own in
    let q_fits : FitsSigned w128 lin.q = search rules in
    let q_is = to_z-of_z w128 lin.q q_fits in
    let positive : pos 0 <ℤ lin.q = omega (arith, ints, c.if-lin-lt1.false) in
    let columns = sym (rw c.as_slice.ensures.value at c.if-not-are_columns.ensures.test) in
    let none = sym (rw c.as_slice-refs.ensures at c.if-has_negative.ensures) in
    let some = rw c.as_slice-refs.ensures at c.in-Ok.ensures.some in
    let parts = parts_in means lin.refs in
    let there = parts_there means lin.refs some in
    let sum = rw c.as_slice-refs.ensures at c.in-Ok.ensures.sum in
    let narrow = rw c.as_slice-refs.ensures at c.in-Ok.ensures.narrow in
    let value = rw q_is at c.in-Ok-false.ensures.value in
    let fits = rw q_is at c.in-Ok-false.ensures.narrow in
    let below = parts_below (length m.cols) means (meant_columns c.args.scope.now c.args.frames.now c.args.own c.requires.scope c.requires.at) lin.refs parts there in
    let not = if_not (is_claimed m parts lin.q lin.claim) (λ e. let yes = value.1 (from_claimed c.coefficient_laws.ensures.beyond m parts lin.q lin.claim c.add_all.new.sum sum below (columns_hold m lin.claim.terms columns) e) in false≢true (sym c.in-Ok-false.field-0-test ∙ yes)) in
    sum_result m lin (parts_of means lin.refs) parts false there narrow fits not ∙ head_passed m means lin columns none (zero_above lin.q positive)
