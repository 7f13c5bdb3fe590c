use Rattle.std.proofs.Common.{arith, refl}
use Rattle.cgl_where.proofs.ValueLaws.{all_digits, digit_kept, natural_fits, natural_more, no_digit, no_digits, no_natural, too_large}
use Rattle.cgl_where.proofs.values.natural.Goals as goal

pub returns-then-is_empty : goal.returns-then-is_empty
returns-then-is_empty c = no_natural c.args.text.now (no_digits c.args.text.now c.is_empty.result c.is_empty.ensures c.if-is_empty.true)

pub digits-init : goal.digits-init
digits-init c = record { digits = refl; value = refl; below = omega arith }

pub returns-then-not-is_ascii_digit : goal.returns-then-not-is_ascii_digit
returns-then-not-is_ascii_digit c =
    no_natural c.args.text.now (no_digit c.args.text.now c.digits.b-index c.is_ascii_digit.result c.digits-test.true c.is_ascii_digit.ensures.value c.if-not-is_ascii_digit.true)

pub overflow_mul-number : goal.overflow_mul-number
overflow_mul-number c = omega arith

pub overflow_add-number : goal.overflow_add-number
overflow_add-number c = omega (arith, c.type_inv.text c.digits.b-index)

pub returns-then-number-ge-NATURAL_END : goal.returns-then-number-ge-NATURAL_END
returns-then-number-ge-NATURAL_END c = too_large c.args.text.now c.digits.b-index c.digits.number (omega arith) c.digits.invariant.value (omega arith)

pub digits-preserved : goal.digits-preserved
digits-preserved c = record {
  digits = digit_kept c.args.text.now c.digits.b-index c.is_ascii_digit.result c.digits-test.true c.is_ascii_digit.ensures.value c.if-not-is_ascii_digit.false c.digits.invariant.digits;
  value = natural_more c.args.text.now c.digits.b-index c.digits.number c.digits-test.true c.digits.invariant.value;
  below = c.if-number-ge-NATURAL_END.false;
}

pub returns : goal.returns
returns c =
    natural_fits c.args.text.now c.digits.b-index c.digits.number
    (all_digits c.args.text.now c.digits.b-index c.is_empty.result c.is_empty.ensures c.if-is_empty.false c.digits-test.false c.digits.invariant.digits)
    c.digits-test.false c.digits.invariant.value c.digits.invariant.below
