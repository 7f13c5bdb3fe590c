use Rattle.std.proofs.Common.{◌≡◌, map}
use Rattle.cgl_app.specs.CutOf.{inequality_of}
use Rattle.cgl_app.specs.CutSteps.{derivation_of}
use Rattle.cgl_app.proofs.cut.parts.Given as goal

abbrev pub invariant-listed : goal.invariant-listed
invariant-listed l = record {
  cuts : l.cuts.items ≡ map inequality_of l.yielded;
  derivations : l.derivations.items ≡ map derivation_of l.yielded;
}
