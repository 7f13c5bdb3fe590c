use Rattle.std.proofs.Common.{rules, ◌≡◌, Some}
use Rattle.std.specs.Result.{result_err}
use Rattle.cgl_app.specs.CutSteps.{TextsRefused}
use Rattle.cgl_app.proofs.TextLaws.{deck_made, deck_refused, lengths_are, proofs_made, texts_too_large, with_err}
use Rattle.cgl_app.proofs.cut.deck_and_proofs.Goals as goal

pub returns-in_err-deck-clause-refused : goal.returns-in_err-deck-clause-refused
returns-in_err-deck-clause-refused c =
    let end : result_err c.from_residual.result ≡ Some c.in_err-deck.field-0.0 = search rules in
    λ t em is. with_err (TextsRefused t) c.from_residual.result _ end (deck_refused c.args.model.now t c.args.listed.items _ _ _ c.in-Ok.ensures.cuts c.deref.ensures.value c.in_err-deck.ensures.refused em is)

pub returns-then-are_too_long-clause-refused : goal.returns-then-are_too_long-clause-refused
returns-then-are_too_long-clause-refused c =
    let deck = deck_made c.args.model.now _ c.args.listed.items _ _ c.in-Ok.ensures.cuts c.deref.ensures.value c.in_ok-deck.ensures.model in
    let proofs = proofs_made c.args.listed.items _ _ _ c.in-Ok.ensures.cuts c.in-Ok.ensures.derivations c.in-Ok-proofs.ensures in
    let large = lengths_are c.in_ok-deck.deck _ _ _ _ c.deref-2.ensures.value c.are_too_long.ensures c.if-are_too_long.true in
    λ t em is. texts_too_large c.args.model.now c.in_ok-deck.deck t c.args.listed.items c.in-Ok-proofs.proofs.items deck proofs large em is

pub returns-clause-deck : goal.returns-clause-deck
returns-clause-deck c = deck_made c.args.model.now _ c.args.listed.items _ _ c.in-Ok.ensures.cuts c.deref.ensures.value c.in_ok-deck.ensures.model

pub returns-clause-proofs : goal.returns-clause-proofs
returns-clause-proofs c = proofs_made c.args.listed.items _ _ _ c.in-Ok.ensures.cuts c.in-Ok.ensures.derivations c.in-Ok-proofs.ensures

pub returns-clause-small : goal.returns-clause-small
returns-clause-small c = lengths_are c.in_ok-deck.deck _ _ _ _ c.deref-2.ensures.value c.are_too_long.ensures c.if-are_too_long.false
