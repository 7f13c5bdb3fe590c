use Rattle.std.proofs.Common.{◌∙◌}
use Rattle.cgl_text.specs.GrowthLaws.{grows_as}
use Rattle.cgl_app.proofs.report.append_number.Goals as goal

pub returns : goal.returns
returns c = grows_as _ _ _ _ (c.as_bytes.ensures.value ∙ c.format.ensures.text) c.append.ensures
