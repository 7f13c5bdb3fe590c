use Rattle.std.proofs.Common.{rules, ◌≡◌, Some, refl}
use Rattle.std.specs.Result.{result_err}
use Rattle.cgl_outside.specs.ScriptLaws.{ended}
use Rattle.cgl_words.specs.Meant.{words_of}
use Rattle.cgl_app.proofs.CutStepLaws.{texts_refused}
use Rattle.cgl_app.proofs.cut.deliver.Goals as goal

pub returns-in_err-texts : goal.returns-in_err-texts
returns-in_err-texts g c =
    let end : result_err c.from_residual.result ≡ Some c.in_err-texts.field-0.0 = search rules in
    ended _ _ _ _ _ _ end (texts_refused (words_of c.args.cut.now) _ _ _ _ c.in_err-texts.ensures.refused refl)

pub returns : goal.returns
returns g c = c.write_texts.ensures _ c.in_ok-texts.ensures.texts
