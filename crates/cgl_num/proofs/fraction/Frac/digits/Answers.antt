use Rattle.std.proofs.Common.{◌≡◌, ◌<◌, ◌∙◌, pos, sym, arith, rules, length, ap, of_z}
use Rattle.std.specs.Int.{w128}
use Rattle.std.specs.Int.RustNames.{FitsSigned}
use Rattle.std.proofs.lemmas.Int.{ints, to_z-of_z}
use Rattle.std.proofs.lemmas.List.{length-set}
use Rattle.cgl_num.specs.Fraction.{fraction_text}
use Rattle.cgl_num.proofs.FractionLaws.{length_number, length_positive, text_whole, text_joined}
use Rattle.cgl_num.proofs.fraction.Frac.digits.Goals as goal

pub put_number-end-requires : goal.put_number-end-requires
put_number-end-requires c =
    let fits : FitsSigned w128 c.self.inside.num = search rules in
    let is = to_z-of_z w128 c.self.inside.num fits in
    let short = length_number c.self.inside.num c.self.invariant.narrow_num in
    record { room = rw is (omega (arith, short, c.fits-out)) }

pub bounds-out-end : goal.bounds-out-end
bounds-out-end c =
    let fits : FitsSigned w128 c.self.inside.num = search rules in
    let is = to_z-of_z w128 c.self.inside.num fits in
    let short = length_number c.self.inside.num c.self.invariant.narrow_num in
    let end = rw is at c.put_number-end.ensures.end in
    omega (arith, short, end)

pub put_number-requires : goal.put_number-requires
put_number-requires c =
    let fits : FitsSigned w128 c.self.inside.num = search rules in
    let is = to_z-of_z w128 c.self.inside.num fits in
    let den_fits : FitsSigned w128 c.self.inside.den = search rules in
    let den_is = to_z-of_z w128 c.self.inside.den den_fits in
    let short = length_number c.self.inside.num c.self.invariant.narrow_num in
    let den_short = length_positive c.self.inside.den c.self.invariant.positive c.self.invariant.narrow_den in
    let end = rw is at c.put_number-end.ensures.end in
    record { room = rw (den_is, length-set c.put_number-end.new.out c.put_number-end.result 47) (omega (arith, short, den_short, end, c.put_number-end.ensures.length, c.told-out)) }

pub returns-then-self-eq1-clause-text : goal.returns-then-self-eq1-clause-text
returns-then-self-eq1-clause-text c =
    let fits : FitsSigned w128 c.self.inside.num = search rules in
    let is = to_z-of_z w128 c.self.inside.num fits in
    let one : c.self.inside.den ≡ pos 1 = omega (arith, ints, c.if-self-eq1.true, c.self.invariant.positive) in
    (rw is at c.put_number-end.ensures.text) ∙ sym (text_whole (record { num = c.self.inside.num; den = c.self.inside.den }) one) ∙ ap fraction_text c.self.view_is

pub returns-then-self-eq1-clause-within : goal.returns-then-self-eq1-clause-within
returns-then-self-eq1-clause-within c =
    let is = to_z-of_z w128 c.self.inside.num (search rules) in
    let short = length_number c.self.inside.num c.self.invariant.narrow_num in
    let end = rw is at c.put_number-end.ensures.end in
    omega (arith, short, end)

pub returns-clause-within : goal.returns-clause-within
returns-clause-within c =
    let is = to_z-of_z w128 c.self.inside.num (search rules) in
    let den_is = to_z-of_z w128 c.self.inside.den (search rules) in
    let short = length_number c.self.inside.num c.self.invariant.narrow_num in
    let den_short = length_positive c.self.inside.den c.self.invariant.positive c.self.invariant.narrow_den in
    let end = rw is at c.put_number-end.ensures.end in
    let last = rw den_is at c.put_number.ensures.end in
    omega (arith, short, den_short, end, last)

pub returns-clause-text : goal.returns-clause-text
returns-clause-text c =
    let is = to_z-of_z w128 c.self.inside.num (search rules) in
    let den_is = to_z-of_z w128 c.self.inside.den (search rules) in
    let short = length_number c.self.inside.num c.self.invariant.narrow_num in
    let end = rw is at c.put_number-end.ensures.end in
    let other : c.self.inside.den ≡ pos 1 → ⊥ = λ e. c.if-self-eq1.false (ap (of_z w128) e) in
    let room : c.put_number-end.result < length c.put_number-end.new.out = omega (arith, short, end, c.put_number-end.ensures.length, c.told-out) in
    text_joined (record { num = c.self.inside.num; den = c.self.inside.den }) c.put_number-end.new.out c.put_number-end.result _ other room
    (rw is at c.put_number-end.ensures.text) (rw den_is at c.put_number.ensures.text) ∙ ap fraction_text c.self.view_is
