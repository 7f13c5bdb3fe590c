use Rattle.cgl_derive.proofs.KnownLaws.{continuous_column}
use Rattle.cgl_derive.proofs.known.known_continuous.Goals as goal

pub returns : goal.returns
returns c = continuous_column
