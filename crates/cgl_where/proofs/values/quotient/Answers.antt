use Rattle.std.proofs.Common.{◌≡◌, ◌∙◌, ◌+◌, ◌-◌, ◌<◌, ◌^◌, ap, ap₂, arith, ℕ, Option, take, drop, length, length-drop, Some}
use Rattle.std.specs.List.{position_or_len}
use Rattle.std.specs.Int.{w128}
use Rattle.std.proofs.lemmas.Int.{to_z-of_z, to_z_pos}
use Rattle.std.proofs.lemmas.List.{take_all}
use Rattle.cgl_num.specs.Fraction.{lowest}
use Rattle.cgl_num.specs.NumberText.{Word, signed, unsigned}
use Rattle.cgl_where.specs.PointValue.{denominator, is_slash, numerator}
use Rattle.cgl_where.specs.Limits.{fitting_natural}
use Rattle.cgl_where.proofs.ValueLaws.{natural_within, no_denominator, no_numerator, quotient_is, zero_denominator}
use Rattle.cgl_where.proofs.values.quotient.Goals as goal

numerator_is : (text : Word) (slash : ℕ) (digits : Word) (num : Option ℕ) → slash ≡ position_or_len is_slash text → digits ≡ unsigned (take slash text) → num ≡ fitting_natural digits
    → num ≡ fitting_natural (unsigned (numerator text))
numerator_is text slash digits num place digits_are is = is ∙ ap fitting_natural (digits_are ∙ ap (λ k. unsigned (take k text)) place)

denominator_is : (text : Word) (slash : ℕ) (den : Option ℕ) → slash ≡ position_or_len is_slash text → den ≡ fitting_natural (take (length text - (slash + 1)) (drop (slash + 1) text))
    → den ≡ fitting_natural (denominator text)
denominator_is text slash den place is =
    is ∙ ap fitting_natural (take_all (length text - (slash + 1)) (drop (slash + 1) text) (omega (arith, length-drop (slash + 1) text)) ∙ ap (λ k. drop (k + 1) text) place)

pub returns-in_default : goal.returns-in_default
returns-in_default c =
    let text = c.args.text.now in
    no_numerator text c.natural.result (numerator_is text c.args.slash c.unsigned.result.now c.natural.result c.requires.place c.unsigned.ensures c.natural.ensures) c.in_default.is

pub returns-in_default-natural : goal.returns-in_default-natural
returns-in_default-natural c =
    let text = c.args.text.now in
    no_denominator text c.natural-2.result (denominator_is text c.args.slash c.natural-2.result c.requires.place c.natural-2.ensures) c.in_default-natural.is

pub returns-then-den-eq0 : goal.returns-then-den-eq0
returns-then-den-eq0 c =
    let text = c.args.text.now in
    zero_denominator text c.natural-2.result c.in-Some-natural.den (denominator_is text c.args.slash c.natural-2.result c.requires.place c.natural-2.ensures) c.in-Some-natural.is c.if-den-eq0.true

pub returns : goal.returns
returns c =
    let text = c.args.text.now in
    let num = c.in-Some.num in
    let den = c.in-Some-natural.den in
    let num_is = numerator_is text c.args.slash c.unsigned.result.now c.natural.result c.requires.place c.unsigned.ensures c.natural.ensures in
    let den_is = denominator_is text c.args.slash c.natural-2.result c.requires.place c.natural-2.ensures in
    let below : den < 10 ^ 36 = natural_within (denominator text) c.natural-2.result den den_is c.in-Some-natural.is in
    ap Some
    (c.new.ensures.value
    ∙ ap₂ lowest
    (to_z-of_z w128 c.signed.result (record { sfits = c.signed.type_inv }) ∙ c.signed.ensures.value ∙ ap (λ k. signed (take k text) num) c.requires.place)
    (to_z_pos w128 den (omega (arith, below))))
    ∙ quotient_is text c.natural.result c.natural-2.result num den num_is den_is c.in-Some.is c.in-Some-natural.is c.if-den-eq0.false
