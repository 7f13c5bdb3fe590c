use Rattle.std.proofs.Common.{◌≡◌, ◌+◌, arith, ap, sym, ◌∙◌, decimal, length, lit<}
use Rattle.std.proofs.lemmas.Fmt.{length-decimal-le_wide}
use Rattle.cgl_num.proofs.TextLengthLaws.{count_is, zero_count}
use Rattle.cgl_num.proofs.decimal.digit_count.Goals as goal

pub returns-then-number-eq0-clause-count : goal.returns-then-number-eq0-clause-count
returns-then-number-eq0-clause-count c = sym (ap (λ n. length (decimal n)) c.if-number-eq0.true ∙ zero_count)

pub returns-clause-count : goal.returns-clause-count
returns-clause-count c = sym (count_is c.greatest_power.result c.args.number c.greatest_power.ensures.from c.greatest_power.ensures.below (omega (arith, c.requires)))

pub returns-clause-few : goal.returns-clause-few
returns-clause-few c =
    let is : length (decimal c.args.number) ≡ c.greatest_power.result + 1 = count_is c.greatest_power.result c.args.number c.greatest_power.ensures.from c.greatest_power.ensures.below (omega (arith, c.requires)) in
    omega (arith, is, length-decimal-le_wide 24 c.args.number (lit< tt) c.requires (omega (arith, c.requires)))
