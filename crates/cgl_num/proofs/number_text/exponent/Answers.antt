use Rattle.cgl_num.proofs.NumberLaws.{no_exponent, bad_exponent}
use Rattle.std.proofs.Common.{◌≡◌, ◌∙◌, sym, ap, false}
use Rattle.cgl_num.specs.NumberText.{is_digits, unsigned}
use Rattle.cgl_num.proofs.number_text.exponent.Goals as goal

pub returns-then-place-text-clause-some : goal.returns-then-place-text-clause-some
returns-then-place-text-clause-some c = no_exponent c.args.text.now c.args.place c.requires c.if-place-text.true

pub returns-in_default-clause-none : goal.returns-in_default-clause-none
returns-in_default-clause-none c =
    let bad : is_digits (unsigned c.behind-power.result.now) ≡ false = ap is_digits (sym c.unsigned.ensures) ∙ c.in_default.ensures.none in
    bad_exponent c.args.text.now _ c.args.place c.requires c.if-place-text.false c.behind-power.ensures bad
