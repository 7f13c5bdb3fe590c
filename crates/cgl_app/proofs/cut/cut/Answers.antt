use Rattle.std.proofs.Common.{rules, ◌≡◌, Some}
use Rattle.std.specs.Result.{result_err}
use Rattle.cgl_outside.specs.ScriptLaws.{ended, read_refused, read_on}
use Rattle.cgl_app.proofs.cut.cut.Goals as goal

pub returns-in_err-model : goal.returns-in_err-model
returns-in_err-model g c =
    let end : result_err c.from_residual.result ≡ Some c.in_err-model.field-0.0 = search rules in
    let says = c.in_err-model.ensures in
    ended _ _ _ _ _ _ end (read_refused _ _ _ _ _ _ _ _ _ _ _ _ _ _ _ says.held says.writes says.refused)

pub returns : goal.returns
returns g c =
    let first = c.in_ok-model.ensures in
    read_on _ _ _ _ _ _ c.in_ok-model.model _ _ _ _ _ _ _ _ _ _ first.held first.reads first.writes first.model c.with_model.ensures
