use Rattle.std.proofs.Common.{arith}
use Rattle.cgl_num.proofs.DecimalLaws.{one_zero_less}
use Rattle.cgl_num.proofs.decimal.without_zeros.Goals as goal

pub loop-rest-preserved : goal.loop-rest-preserved
loop-rest-preserved c =
    let whole = c.loop-rest-test.true in
    record {
      positive = omega arith;
      value = one_zero_less c.loop-rest.rest c.loop-rest.zeros c.args.number (omega arith) c.loop-rest.invariant.value;
    }
