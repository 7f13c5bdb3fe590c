use Rattle.std.proofs.Common.{rules, ◌≡◌, Some, sym}
use Rattle.std.specs.Result.{result_err}
use Rattle.cgl_outside.specs.ScriptLaws.{ended, read_refused, read_on}
use Rattle.cgl_words.specs.Meant.{words_of}
use Rattle.cgl_app.proofs.CutStepLaws.{starts_at}
use Rattle.cgl_app.proofs.cut.with_model.Goals as goal

pub deliver-requires-clause-setting : goal.deliver-requires-clause-setting
deliver-requires-clause-setting g c =
    let read = c.in_ok-point.ensures.point in
    let at = c.known_points.ensures.results _ read.text _ read.is in
    record {
      sized = c.requires.valid.sized;
      decimals = c.requires.decimals;
      point = at.0;
      positive = at.1.positive;
      tableau = tt;
    }

pub returns-in_err-point : goal.returns-in_err-point
returns-in_err-point g c =
    let end : result_err c.from_residual.result ≡ Some c.in_err-point.field-0.0 = search rules in
    let says = c.in_err-point.ensures in
    rw (sym (starts_at (words_of c.args.cut.now) c.args.model c.args.cut.now.start), sym c.name.ensures)
    (ended _ _ _ _ _ _ end (read_refused _ _ _ _ _ _ _ _ _ _ _ _ _ _ _ says.held says.writes says.refused))

pub returns : goal.returns
returns g c =
    let first = c.in_ok-point.ensures in
    rw (sym (starts_at (words_of c.args.cut.now) c.args.model c.args.cut.now.start), sym c.name.ensures)
    (read_on _ _ _ _ _ _ c.in_ok-point.point _ _ _ _ _ _ _ _ _ _ first.held first.reads first.writes first.point c.deliver.ensures)
