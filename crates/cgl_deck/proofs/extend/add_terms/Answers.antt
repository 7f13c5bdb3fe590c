use Rattle.std.proofs.Common.{◌<◌, ◌≤◌, List, length, get_or, pos, ap, arith}
use Rattle.cgl_model.specs.Inequality.{Term}
use Rattle.cgl_deck.proofs.TermLaws.{terms_turn, terms_ended, column_known_at}
use Rattle.cgl_deck.proofs.extend.add_terms.Goals as goal

pub loop-term-preserved : goal.loop-term-preserved
loop-term-preserved c =
    let none : Term = (0, pos 0) in
    let at = c.loop-term.term-index in
    let value = c.as_slice-term-items.ensures.value in
    let lt : at < length c.args.cut.now.terms = omega (arith, ap length value) in
    let is = ap (λ (terms : List Term). get_or terms at none) value in
    terms_turn c.loop-term.columns c.add_term.new.columns c.args.row c.args.cut.now.terms at none (get_or c.as_slice-term-items.result.now at none) _
    lt c.as_slice-term-items.ensures.rising is c.in_ok-add_term.ensures c.loop-term.invariant

pub returns-clause-columns : goal.returns-clause-columns
returns-clause-columns c =
    let le : length c.args.cut.now.terms ≤ c.loop-term.term-index = omega (arith, ap length c.as_slice-term-items.ensures.value) in
    terms_ended c.loop-term.columns c.args.columns.now c.args.row c.args.cut.now c.loop-term.term-index le c.loop-term.invariant

pub add_term-requires-clause-known : goal.add_term-requires-clause-known
add_term-requires-clause-known c =
    column_known_at (length c.args.columns.now) (length c.loop-term.columns) c.loop-term.term-index c.as_slice-term-items.result.now c.args.cut.now.terms (0, pos 0)
    c.as_slice-term-items.ensures.value c.loop-term.auto.columns c.loop-term-test.true c.requires.known
