use Rattle.std.proofs.Common.{◌≡◌, ◌<◌, ◌*◌, ◌^◌}
use Rattle.cgl_num.proofs.decimal.without_zeros.Given as goal

abbrev pub invariant-loop-rest : goal.invariant-loop-rest
invariant-loop-rest l = record {
  positive : 0 < l.rest;
  value : l.rest * 10 ^ l.zeros ≡ l.number;
}

abbrev pub decreases-loop-rest : goal.decreases-loop-rest
decreases-loop-rest l = l.rest
