use Rattle.std.proofs.Common.{◌≡◌, ◌<◌, ◌≤◌, ◌^◌, drop, length}
use Rattle.cgl_where.specs.PointFile.{common_denominator}
use Rattle.cgl_where.proofs.denominators.common_denominator.Given as goal

abbrev pub invariant-values : goal.invariant-values
invariant-values l = record {
  place : l.i ≤ length l.values;
  value : l.d ≡ common_denominator (drop l.i l.values);
  positive : 0 < l.d;
  below : l.d ≤ 2 ^ 62;
}

abbrev pub decreases-values : goal.decreases-values
decreases-values l = l.i
