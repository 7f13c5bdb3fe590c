use Rattle.std.proofs.Common.{◌≡◌, List, length, nat_lt, pos, ap, refl, sym, arith}
use Rattle.std.proofs.lemmas.Bool.{le-ltb, lt-ltb}
use Rattle.cgl_model.specs.declared.mip.Column.{Column}
use Rattle.cgl_deck.proofs.ListLaws.{pass_ended, pass_stopped, pass_turn}
use Rattle.cgl_deck.proofs.extend.names_known_columns.Goals as goal

pub loop-term-preserved : goal.loop-term-preserved
loop-term-preserved c =
    let columns : length c.as_slice-columns.result.now ≡ length c.args.model.now.cols = ap (λ (l : List Column). length l) c.as_slice-columns.ensures in
    pass_turn (λ t. nat_lt t.0 (length c.args.model.now.cols)) c.as_slice-term-items.result.now c.args.cut.now.terms c.loop-term.term-index (0, pos 0) _ _
    c.as_slice-term-items.ensures.value c.loop-term-test.true refl (lt-ltb _ _ (omega arith)) c.loop-term.invariant

pub returns-then-term-columns : goal.returns-then-term-columns
returns-then-term-columns c =
    let columns : length c.as_slice-columns.result.now ≡ length c.args.model.now.cols = ap (λ (l : List Column). length l) c.as_slice-columns.ensures in
    sym (pass_stopped (λ t. nat_lt t.0 (length c.args.model.now.cols)) c.as_slice-term-items.result.now c.args.cut.now.terms c.loop-term.term-index (0, pos 0) _ _
    c.as_slice-term-items.ensures.value c.loop-term-test.true refl (le-ltb _ _ (omega arith)) c.loop-term.invariant)

pub returns : goal.returns
returns c =
    sym (pass_ended (λ t. nat_lt t.0 (length c.args.model.now.cols)) c.as_slice-term-items.result.now c.args.cut.now.terms c.loop-term.term-index _
    c.as_slice-term-items.ensures.value c.loop-term-test.false c.loop-term.invariant)
