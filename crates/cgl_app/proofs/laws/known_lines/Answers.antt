use Rattle.std.proofs.Common.{refl}
use Rattle.std.specs.Fmt.{digits}
use Rattle.cgl_app.proofs.laws.known_lines.Goals as goal

pub returns : goal.returns
unfolding digits
returns c = record {
  singular = refl;
  scale = refl;
  too_fine = refl;
  column = refl;
  slack = refl;
  right_side = refl;
}
