use Rattle.cgl_text.specs.GrowthLaws.{grows_then}
use Rattle.cgl_app.proofs.report.append_counted.Goals as goal

pub returns : goal.returns
returns c = grows_then _ _ _ _ _ c.append.ensures c.append_number.ensures
