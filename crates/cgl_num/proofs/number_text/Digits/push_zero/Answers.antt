use Rattle.std.proofs.Common.{arith, ◌≡◌, ◌-◌, ◌^◌, ap}
use Rattle.cgl_num.proofs.NumberLaws.{zero-first, zero-more}
use Rattle.cgl_num.proofs.number_text.Digits.push_zero.Goals as goal

pub returns-then-self-eq0-clause-counted : goal.returns-then-self-eq0-clause-counted
returns-then-self-eq0-clause-counted c ds is =
    let below = c.args.self.below (omega arith) in
    let one : 10 ^ (c.args.self.size - c.args.self.zeros) ≡ 1 = (let none : c.args.self.size - c.args.self.zeros ≡ 0 = omega arith in ap (λ k. 10 ^ k) none) in
    zero-first ds _ _ _ is (omega arith) (omega (arith, below, one))

pub returns-clause-counted : goal.returns-clause-counted
returns-clause-counted c ds is = zero-more ds _ _ _ is (omega arith)
