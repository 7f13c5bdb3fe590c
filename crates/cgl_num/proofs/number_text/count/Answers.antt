use Rattle.std.proofs.Common.{rules, arith, ◌≡◌, subst, true, get_or, refl, sym, ◌∙◌, append-nil}
use Rattle.cgl_num.specs.NumberText.{Word, IsCounted, is_digit}
use Rattle.cgl_num.proofs.CountLaws.{not_all, one_more, whole_counted}
use Rattle.cgl_num.proofs.DigitLaws.{digit-least, digit-small}
use Rattle.cgl_num.proofs.NumberLaws.{grown}
use Rattle.cgl_num.proofs.number_text.count.Goals as goal

pub digits-preserved : goal.digits-preserved
digits-preserved c =
    let digit : is_digit (get_or c.args.text.now c.digits.byte-index 0) ≡ true = sym c.is_digit.ensures ∙ c.if-not-is_digit.false in
    let n = c.push-counted.result in
    let P : Word → Type 0 = λ ds. IsCounted ds n.value n.zeros n.size in
    record {
      counted = (λ before is. subst P (grown before c.args.text.now c.digits.byte-index _ _ c.digits-test.true refl refl digit)
          (c.push-counted.ensures.counted _ (c.digits.invariant.counted before is)));
      zeros = one_more _ _ c.args.start.zeros _ c.digits.invariant.zeros c.push-counted.ensures.zeros;
      size = one_more _ _ c.args.start.size _ c.digits.invariant.size c.push-counted.ensures.size;
    }

pub digits-init : goal.digits-init
digits-init c =
    let start = c.args.start in
    record {
      counted = (λ before is. subst (λ ds. IsCounted ds start.value start.zeros start.size) (sym (append-nil before)) is);
      zeros = omega arith;
      size = omega arith;
    }

pub bounds-text-byte-index : goal.bounds-text-byte-index
bounds-text-byte-index c = omega arith

pub is_digit-requires : goal.is_digit-requires
is_digit-requires c = search rules

pub returns-then-not-is_digit-clause-none : goal.returns-then-not-is_digit-clause-none
returns-then-not-is_digit-clause-none c = not_all c.args.text.now c.digits.byte-index c.digits-test.true (sym c.is_digit.ensures ∙ c.if-not-is_digit.true)

pub returns-then-not-is_digit-clause-some : goal.returns-then-not-is_digit-clause-some
returns-then-not-is_digit-clause-some c = tt

pub returns-then-not-is_digit-clause-room : goal.returns-then-not-is_digit-clause-room
returns-then-not-is_digit-clause-room c = tt

pub overflow_sub-byte : goal.overflow_sub-byte
overflow_sub-byte c = digit-least _ (sym c.is_digit.ensures ∙ c.if-not-is_digit.false)

pub push-counted-requires-clause-digit : goal.push-counted-requires-clause-digit
push-counted-requires-clause-digit c = digit-small _ (sym c.is_digit.ensures ∙ c.if-not-is_digit.false)

pub push-counted-requires-clause-zeros : goal.push-counted-requires-clause-zeros
push-counted-requires-clause-zeros c = omega arith

pub push-counted-requires-clause-size : goal.push-counted-requires-clause-size
push-counted-requires-clause-size c = omega arith

pub digits-smaller : goal.digits-smaller
digits-smaller c = omega arith

pub returns-clause-none : goal.returns-clause-none
returns-clause-none c = tt

pub returns-clause-some : goal.returns-clause-some
returns-clause-some c = λ before is. whole_counted before c.args.text.now c.digits.byte-index _ _ _ c.digits-test.false (c.digits.invariant.counted before is)

pub returns-clause-room : goal.returns-clause-room
returns-clause-room c = (omega arith, omega arith)
