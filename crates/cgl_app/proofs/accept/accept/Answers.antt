use Rattle.std.proofs.Common.{◌≡◌, ◌∙◌, true, false, inl, inr, refl, sym, ap}
use Rattle.cgl_deck.specs.Extended.{extended}
use Rattle.cgl_derive.specs.Books.{inequalities}
use Rattle.cgl_app.specs.declared.refusal.Unaccepted.TheVariants.{Deck}
use Rattle.cgl_app.specs.Verdict.{is_extension}
use Rattle.cgl_app.proofs.VerdictLaws.{by_deck, entries_ok, entries_refused}
use Rattle.cgl_app.proofs.accept.accept.Goals as goal

pub returns-then-not-is_extension-clause-refused : goal.returns-then-not-is_extension-clause-refused
returns-then-not-is_extension-clause-refused c =
    let cuts = c.deref.ensures.value ∙ c.in-Ok.ensures ∙ ap inequalities c.as_slice.ensures in
    let is = c.in-Ok-is_extension.ensures ∙ ap (λ cs. is_extension c.args.deck.now (extended c.args.m.now cs)) cuts in
    inr (Deck, refl, by_deck c.args.m.now c.args.deck.now c.args.book.now (sym is ∙ c.if-not-is_extension.true))

pub returns-clause-ok : goal.returns-clause-ok
returns-clause-ok c =
    let cuts = c.deref.ensures.value ∙ c.in-Ok.ensures ∙ ap inequalities c.as_slice.ensures in
    let is = c.in-Ok-is_extension.ensures ∙ ap (λ cs. is_extension c.args.deck.now (extended c.args.m.now cs)) cuts in
    entries_ok c.entries.result c.args.m.now c.args.deck.now c.args.book.now (sym is ∙ c.if-not-is_extension.false) c.entries.ensures.ok

pub returns-clause-refused : goal.returns-clause-refused
returns-clause-refused c =
    let cuts = c.deref.ensures.value ∙ c.in-Ok.ensures ∙ ap inequalities c.as_slice.ensures in
    let is = c.in-Ok-is_extension.ensures ∙ ap (λ cs. is_extension c.args.deck.now (extended c.args.m.now cs)) cuts in
    entries_refused c.entries.result c.args.m.now c.args.deck.now c.args.book.now (sym is ∙ c.if-not-is_extension.false) c.entries.ensures.refused
