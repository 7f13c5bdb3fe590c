use Rattle.std.proofs.Common.{◌≡◌, ap, is_some, pos, rules, sym, true, ◌&&◌}
use Rattle.std.specs.List.{list_all}
use Rattle.cgl_num.specs.Decimal.{decimal_of}
use Rattle.cgl_deck.proofs.ListLaws.{pass_ended, pass_stopped, pass_turn}
use Rattle.cgl_deck.proofs.extend.has_decimals.Goals as goal

pub loop-term-preserved : goal.loop-term-preserved
loop-term-preserved c =
    pass_turn (λ t. is_some (decimal_of t.1)) c.as_slice-term-items.result.now c.args.cut.now.terms c.loop-term.term-index (0, pos 0) c.is_decimal_term.result _
    c.as_slice-term-items.ensures.value c.loop-term-test.true c.is_decimal_term.ensures c.if-not-is_decimal_term.false c.loop-term.invariant

pub returns-then-not-is_decimal_term : goal.returns-then-not-is_decimal_term
returns-then-not-is_decimal_term c =
    sym (ap (λ b. b && is_some (decimal_of c.args.cut.now.rhs))
    (pass_stopped (λ t. is_some (decimal_of t.1)) c.as_slice-term-items.result.now c.args.cut.now.terms c.loop-term.term-index (0, pos 0) c.is_decimal_term.result _
    c.as_slice-term-items.ensures.value c.loop-term-test.true c.is_decimal_term.ensures c.if-not-is_decimal_term.true c.loop-term.invariant))

pub returns : goal.returns
returns c =
    let all : list_all (λ t. is_some (decimal_of t.1)) c.args.cut.now.terms ≡ true =
    pass_ended (λ t. is_some (decimal_of t.1)) c.as_slice-term-items.result.now c.args.cut.now.terms c.loop-term.term-index _ c.as_slice-term-items.ensures.value c.loop-term-test.false
    c.loop-term.invariant in
    rw all (search rules)
