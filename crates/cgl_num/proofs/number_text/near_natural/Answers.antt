use Rattle.std.proofs.Common.{sym, ◌∙◌}
use Rattle.cgl_num.proofs.NumberLaws.{near_all, near_more}
use Rattle.cgl_num.proofs.number_text.near_natural.Goals as goal

pub digits-preserved : goal.digits-preserved
digits-preserved c = record {
  all = near_all c.args.text.now c.digits.byte-index c.digits-test.true c.digits.invariant.all (sym c.is_digit.ensures ∙ c.if-not-is_digit.false);
  value = near_more c.args.text.now c.digits.byte-index c.digits.number _ c.digits-test.true c.digits.invariant.value c.min-number.ensures;
}
