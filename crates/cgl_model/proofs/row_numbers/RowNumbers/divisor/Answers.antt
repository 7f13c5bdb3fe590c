use Rattle.std.proofs.Common.{rules, pos, ◌-◌, ◌∷◌, get_or, arith}
use Rattle.std.specs.Prelude.{option_to_list, FitsSigned}
use Rattle.std.specs.Int.{w128}
use Rattle.std.proofs.lemmas.Int.{to_z-of_z}
use Rattle.cgl_model.proofs.BuildLaws.{gcd_start, gcd_step, narrow_at}
use Rattle.cgl_model.proofs.row_numbers.RowNumbers.divisor.Goals as goal

pub loop-i-init : goal.loop-i-init
loop-i-init c =
    let result : FitsSigned w128 c.divisor_of_sides-divisor.result = search rules in
    let rhs : FitsSigned w128 c.args.self.now.rhs = search rules in
    let is = rw (to_z-of_z w128 c.args.self.now.rhs rhs) at c.divisor_of_sides-divisor.ensures in
    record {
      within = omega arith;
      value = rw (to_z-of_z w128 c.divisor_of_sides-divisor.result result) (gcd_start c.as_slice-coeffs.result.now _ c.divisor_of_sides-divisor.result is);
    }

pub gcd-divisor-requires-clause-a : goal.gcd-divisor-requires-clause-a
gcd-divisor-requires-clause-a c =
    let t = get_or c.as_slice-coeffs.result.now (c.loop-i.i - 1) (0, pos 0) in
    let coefficient : FitsSigned w128 t.1 = search rules in
    let narrow = narrow_at c.as_slice-coeffs.result.now (c.args.self.now.rhs ∷ option_to_list c.args.self.now.range) (c.loop-i.i - 1) (0, pos 0) (rw c.as_slice-coeffs.ensures c.requires) (omega arith) in
    rw (to_z-of_z w128 t.1 coefficient) (omega (arith, narrow))

pub loop-i-preserved : goal.loop-i-preserved
loop-i-preserved c =
    let t = get_or c.as_slice-coeffs.result.now (c.loop-i.i - 1) (0, pos 0) in
    let coefficient : FitsSigned w128 t.1 = search rules in
    let divisor : FitsSigned w128 c.loop-i.divisor = search rules in
    let result : FitsSigned w128 c.gcd-divisor.result = search rules in
    let is = rw (to_z-of_z w128 t.1 coefficient) at c.gcd-divisor.ensures.divisor in
    let di = c.loop-i.divisor-is in
    record {
      within = omega arith;
      value = rw (to_z-of_z w128 c.gcd-divisor.result result) (gcd_step c.as_slice-coeffs.result.now _ c.loop-i.i (0, pos 0) _ _ (omega arith) (omega arith) c.loop-i.invariant.value is);
    }
