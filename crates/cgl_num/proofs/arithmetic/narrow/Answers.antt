use Rattle.std.proofs.Common.{arith, ◌≤◌, ◌^◌, unsigned_abs, subst}
use Rattle.std.specs.Int.{w128}
use Rattle.std.proofs.lemmas.Int.{to_z-of_z}
use Rattle.cgl_num.proofs.arithmetic.narrow.Goals as goal

pub returns-then-unsigned_abs-lt-MAGNITUDE_END : goal.returns-then-unsigned_abs-lt-MAGNITUDE_END
returns-then-unsigned_abs-lt-MAGNITUDE_END c = (to_z-of_z w128 _ c.ranges.number, omega (arith, c.unsigned_abs.ensures.value))

pub returns-else-unsigned_abs-lt-MAGNITUDE_END : goal.returns-else-unsigned_abs-lt-MAGNITUDE_END
returns-else-unsigned_abs-lt-MAGNITUDE_END c =
    subst (λ z. 2 ^ 127 ≤ unsigned_abs z) (to_z-of_z w128 c.args.number c.ranges.number) (omega (arith, c.unsigned_abs.ensures.value))
