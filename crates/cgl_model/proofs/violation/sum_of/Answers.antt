use Rattle.std.proofs.Common.{rules, pos, get_or, arith}
use Rattle.std.specs.Prelude.{FitsSigned}
use Rattle.std.specs.Int.{w128}
use Rattle.std.proofs.lemmas.Int.{ints, to_z-of_z, unsigned_abs-mul}
use Rattle.std.proofs.lemmas.Result.{err_from_is_err_and}
use Rattle.cgl_model.proofs.TermLaws.{column_at, magnitudes_all, magnitudes_from, sum_all, sum_from}
use Rattle.cgl_model.proofs.violation.sum_of.Goals as goal

pub returns-in_err-products-clause-wide : goal.returns-in_err-products-clause-wide
returns-in_err-products-clause-wide c =
    let t = get_or c.args.terms.now c.loop-term.term-index (0, pos 0) in
    let coefficient : FitsSigned w128 t.1 = search rules in
    let number : FitsSigned w128 (get_or c.args.numbers.now t.0 (pos 0)) = search rules in
    let first = to_z-of_z w128 t.1 coefficient in
    let second = to_z-of_z w128 (get_or c.args.numbers.now t.0 (pos 0)) number in
    let wide = rw (first, second) at c.in_err-products.ensures.wide in
    let m = c.loop-term.invariant.magnitude in
    let more = magnitudes_from c.args.numbers.now c.args.terms.now c.loop-term.term-index (0, pos 0) (omega arith) in
    let p = err_from_is_err_and c.from_residual.result c.from_residual.ensures.1 in
    rw (p.1) (omega (arith, wide, m, more))

pub loop-term-preserved : goal.loop-term-preserved
loop-term-preserved c =
    let t = get_or c.args.terms.now c.loop-term.term-index (0, pos 0) in
    let coefficient : FitsSigned w128 t.1 = search rules in
    let number : FitsSigned w128 (get_or c.args.numbers.now t.0 (pos 0)) = search rules in
    let first = to_z-of_z w128 t.1 coefficient in
    let second = to_z-of_z w128 (get_or c.args.numbers.now t.0 (pos 0)) number in
    let sum = rw (first, second) at c.in_ok-products.ensures.sum in
    let magnitude = rw (first, second) at c.in_ok-products.ensures.magnitude in
    let rest = sum_from c.args.numbers.now c.args.terms.now c.loop-term.term-index (0, pos 0) (omega arith) in
    let more = magnitudes_from c.args.numbers.now c.args.terms.now c.loop-term.term-index (0, pos 0) (omega arith) in
    let product = unsigned_abs-mul t.1 (get_or c.args.numbers.now t.0 (pos 0)) in
    record {
      sum = omega (arith, ints, sum, rest, c.loop-term.invariant.sum);
      magnitude = omega (arith, magnitude, more, c.loop-term.invariant.magnitude);
      narrow = search rules;
      within = omega (arith, ints, sum, magnitude, product, c.loop-term.invariant.within);
    }

pub bounds-numbers-term : goal.bounds-numbers-term
bounds-numbers-term c = column_at _ c.args.terms.now c.loop-term.term-index (0, pos 0) c.requires.columns (omega arith)

pub returns-clause-sum : goal.returns-clause-sum
returns-clause-sum c = sum_all c.args.numbers.now c.args.terms.now c.loop-term.term-index _ (omega arith) c.loop-term.invariant.sum

pub returns-clause-magnitude : goal.returns-clause-magnitude
returns-clause-magnitude c = magnitudes_all c.args.numbers.now c.args.terms.now c.loop-term.term-index _ _ (omega arith) c.loop-term.invariant.magnitude

pub returns-clause-narrow : goal.returns-clause-narrow
returns-clause-narrow c = c.loop-term.invariant.narrow

pub returns-clause-within : goal.returns-clause-within
returns-clause-within c = c.loop-term.invariant.within
