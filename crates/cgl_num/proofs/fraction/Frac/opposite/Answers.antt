use Rattle.std.proofs.Common.{rules}
use Rattle.cgl_num.proofs.fraction.Frac.opposite.Goals as goal

pub num-requires : goal.num-requires
num-requires c = search rules

pub overflow_sub-num : goal.overflow_sub-num
overflow_sub-num c = search rules

pub den-requires : goal.den-requires
den-requires c = search rules

pub of_lowest-requires : goal.of_lowest-requires
of_lowest-requires c = search rules

pub returns : goal.returns
returns c = search rules
