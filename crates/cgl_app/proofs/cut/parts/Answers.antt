use Rattle.cgl_app.proofs.TextLaws.{mapped_more}
use Rattle.cgl_app.specs.CutOf.{inequality_of}
use Rattle.cgl_app.specs.CutSteps.{derivation_of}
use Rattle.cgl_app.proofs.cut.parts.Goals as goal

pub listed-preserved : goal.listed-preserved
listed-preserved c = record {
  cuts = mapped_more inequality_of _ _ _ _ c.listed.invariant.cuts c.in-Ok-Ok.ensures.items;
  derivations = mapped_more derivation_of _ _ _ _ c.listed.invariant.derivations c.in-Ok-Ok.ensures'.items;
}
