use Rattle.std.proofs.Common.{arith, ap, sym, length}
use Rattle.std.proofs.lemmas.List.{drop_all}
use Rattle.cgl_where.specs.PointFile.{common_denominator}
use Rattle.cgl_where.proofs.LcmLaws.{folded, folded_not}
use Rattle.cgl_where.proofs.denominators.common_denominator.Goals as goal

pub values-init : goal.values-init
values-init c = record {
  place = omega arith;
  value = ap common_denominator (sym (drop_all (length c.args.values.now) c.args.values.now (omega arith)));
  positive = omega arith;
  below = omega arith;
}

pub returns-in_default-clause-value : goal.returns-in_default-clause-value
returns-in_default-clause-value c =
    folded_not c.args.values.now c.values.i c.den.result c.values.d c.index-values-i.result c.values-test.true c.values.invariant.place c.index-values-i.is c.den.ensures.value c.values.invariant.value c.requires c.in_default.ensures

pub values-preserved : goal.values-preserved
values-preserved c =
    let s = folded c.args.values.now c.values.i c.den.result c.values.d c.in-Some.next c.index-values-i.result c.values-test.true c.values.invariant.place c.index-values-i.is c.den.ensures.value c.values.invariant.value c.den.ensures.positive c.values.invariant.positive c.in-Some.ensures in
    record { place = omega arith; value = s.value; positive = s.positive; below = s.below }
