use Rattle.std.proofs.Common.{◌≡◌, ◌∙◌, ap, rules, sym, unwrap_or}
use Rattle.std.specs.Prelude.{FitsSigned}
use Rattle.std.specs.Int.{w128}
use Rattle.std.proofs.lemmas.Int.{to_z-of_z}
use Rattle.std.proofs.lemmas.Result.{on_ok_weaker}
use Rattle.cgl_num.specs.Decimal.{zero_decimal}
use Rattle.cgl_deck.specs.Extended.{decimal_or_zero}
use Rattle.cgl_deck.proofs.TermLaws.{term_added}
use Rattle.cgl_deck.proofs.extend.add_term.Goals as goal

pub returns : goal.returns
returns c =
    let fits : FitsSigned w128 c.args.term.now.1 = search rules in
    let whole = rw (to_z-of_z w128 c.args.term.now.1 fits) at c.whole.ensures in
    let number : c.unwrap-number.result ≡ decimal_or_zero c.args.term.now.1 = ap (λ o. unwrap_or o zero_decimal) (sym c.unwrap-number.ensures ∙ whole) in
    on_ok_weaker c.push.result
    (λ h. term_added c.args.row c.args.term.now c.args.columns.now c.index-columns-term.result c.unwrap-number.result c.push.new.self c.requires.known number h)
    c.push.ensures.ok
