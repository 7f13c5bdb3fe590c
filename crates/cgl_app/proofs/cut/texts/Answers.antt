use Rattle.std.proofs.Common.{rules, ◌≡◌, ◌∙◌, Some, refl}
use Rattle.std.specs.Result.{result_err}
use Rattle.cgl_app.specs.CutSteps.{TextsRefused}
use Rattle.cgl_app.specs.CutTask.{task_at}
use Rattle.cgl_app.proofs.TextLaws.{report_made, texts_made, with_err}
use Rattle.cgl_app.proofs.cut.texts.Goals as goal

pub returns-in_err-deck-clause-refused : goal.returns-in_err-deck-clause-refused
returns-in_err-deck-clause-refused c =
    let end : result_err c.from_residual.result ≡ Some c.in_err-deck.field-0.0 = search rules in
    let t = task_at c.args.model.now c.args.point.now in
    let refused = c.in_err-deck.ensures.refused t refl (c.into_vec.ensures ∙ c.in-Ok.ensures.listed) in
    with_err (TextsRefused t) c.from_residual.result _ end refused

pub returns-clause-texts : goal.returns-clause-texts
returns-clause-texts c =
    let t = task_at c.args.model.now c.args.point.now in
    let texts = c.in_ok-deck.ensures in
    let report = report_made t _ _ _ _ _ c.in-Ok.ensures.listed c.in-Ok.ensures.wide c.as_slice.ensures c.as_slice-2.ensures c.in-Ok-report.ensures in
    texts_made t _ c.into_vec.result.items _ c.in-Ok-report.report (c.into_vec.ensures ∙ c.in-Ok.ensures.listed) texts.deck texts.valid texts.proofs texts.small report
