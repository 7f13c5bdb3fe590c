use Rattle.std.proofs.Common.{rules, arith, ◌≡◌, ◌-◌, ◌+◌, ◌^◌, ◌++◌, ◌∷◌, [], ap, sym, subst}
use Rattle.cgl_num.specs.NumberText.{IsCounted}
use Rattle.cgl_num.proofs.DecimalLaws.{tens_mono}
use Rattle.cgl_num.proofs.NumberLaws.{digit-first, digit-many, digit-more, push_below, push_small, push_normal}
use Rattle.cgl_num.proofs.number_text.Digits.push.Goals as goal

pub returns-then-self-eq0-clause-counted : goal.returns-then-self-eq0-clause-counted
returns-then-self-eq0-clause-counted c ds is =
    let below = c.args.self.below (omega arith) in
    let one : 10 ^ (c.args.self.size - c.args.self.zeros) ≡ 1 = (let none : c.args.self.size - c.args.self.zeros ≡ 0 = omega arith in ap (λ k. 10 ^ k) none) in
    digit-first ds _ _ _ _ is (omega arith) (omega (arith, below, one)) (omega arith) c.requires.digit

pub returns-then-self-ge-KEPT-clause-counted : goal.returns-then-self-ge-KEPT-clause-counted
returns-then-self-ge-KEPT-clause-counted c ds is = digit-many ds _ _ _ _ is (omega arith) (omega arith) c.requires.digit

pub pow-requires : goal.pow-requires
pow-requires c =
    let less = c.args.self.some (omega arith) in
    omega (arith, less, tens_mono (c.args.self.zeros + 1) 24 (omega (arith, less)))

pub overflow_mul-result : goal.overflow_mul-result
overflow_mul-result c =
    let less = c.args.self.some (omega arith) in
    let small = push_small c.args.self.value c.args.self.zeros c.args.self.size c.args.digit c.pow.result (c.args.self.below (omega arith)) less (omega arith) c.pow.ensures c.requires.digit in
    omega (arith, small)

pub overflow_add-result-2 : goal.overflow_add-result-2
overflow_add-result-2 c =
    let less = c.args.self.some (omega arith) in
    let small = push_small c.args.self.value c.args.self.zeros c.args.self.size c.args.digit c.pow.result (c.args.self.below (omega arith)) less (omega arith) c.pow.ensures c.requires.digit in
    omega (arith, small)

pub invariant_of-result-2 : goal.invariant_of-result-2
invariant_of-result-2 c =
    let less = c.args.self.some (omega arith) in
    record {
      some = (λ _. omega arith);
      below = (λ _. push_below c.args.self.value c.args.self.zeros c.args.self.size c.args.digit c.pow.result (c.args.self.size + 1 - 0) (c.args.self.below (omega arith)) less c.pow.ensures c.requires.digit (omega arith));
      normal = (λ _ _. push_normal c.args.self.value c.args.self.zeros c.args.digit c.pow.result c.pow.ensures (omega arith) c.requires.digit);
    }

pub returns-clause-counted : goal.returns-clause-counted
returns-clause-counted c ds is = digit-more ds _ _ _ _ _ is (omega arith) (omega arith) c.pow.ensures (omega arith) c.requires.digit

pub push_zero-requires-clause-zeros : goal.push_zero-requires-clause-zeros
push_zero-requires-clause-zeros c = search rules

pub push_zero-requires-clause-size : goal.push_zero-requires-clause-size
push_zero-requires-clause-size c = search rules

pub returns-then-digit-eq0-clause-counted : goal.returns-then-digit-eq0-clause-counted
returns-then-digit-eq0-clause-counted c ds is =
    subst (λ d. IsCounted (ds ++ (48 + d) ∷ []) c.push_zero.result.value c.push_zero.result.zeros c.push_zero.result.size) (sym c.if-digit-eq0.true) (c.push_zero.ensures.counted ds is)

pub returns-then-digit-eq0-clause-zeros : goal.returns-then-digit-eq0-clause-zeros
returns-then-digit-eq0-clause-zeros c = search rules

pub returns-then-digit-eq0-clause-size : goal.returns-then-digit-eq0-clause-size
returns-then-digit-eq0-clause-size c = search rules

pub invariant_of-result : goal.invariant_of-result
invariant_of-result c = search rules

pub returns-then-self-eq0-clause-zeros : goal.returns-then-self-eq0-clause-zeros
returns-then-self-eq0-clause-zeros c = search rules

pub returns-then-self-eq0-clause-size : goal.returns-then-self-eq0-clause-size
returns-then-self-eq0-clause-size c = search rules

pub overflow_add-result : goal.overflow_add-result
overflow_add-result c = search rules

pub invariant_of-result-then-self-ge-KEPT : goal.invariant_of-result-then-self-ge-KEPT
invariant_of-result-then-self-ge-KEPT c = search rules

pub returns-then-self-ge-KEPT-clause-zeros : goal.returns-then-self-ge-KEPT-clause-zeros
returns-then-self-ge-KEPT-clause-zeros c = search rules

pub returns-then-self-ge-KEPT-clause-size : goal.returns-then-self-ge-KEPT-clause-size
returns-then-self-ge-KEPT-clause-size c = search rules

pub overflow_cast-self : goal.overflow_cast-self
overflow_cast-self c = search rules

pub overflow_add-self : goal.overflow_add-self
overflow_add-self c = search rules

pub overflow_add-result-3 : goal.overflow_add-result-3
overflow_add-result-3 c = search rules

pub returns-clause-zeros : goal.returns-clause-zeros
returns-clause-zeros c = search rules

pub returns-clause-size : goal.returns-clause-size
returns-clause-size c = search rules
