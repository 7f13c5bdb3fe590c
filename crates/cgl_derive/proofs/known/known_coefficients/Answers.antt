use Rattle.cgl_derive.proofs.KnownLaws.{first_term}
use Rattle.cgl_derive.proofs.known.known_coefficients.Goals as goal

pub returns : goal.returns
returns c = first_term
