use Rattle.std.proofs.Common.{refl}
use Rattle.cgl_decode.specs.Faults.{fault_after}
use Rattle.cgl_decode.specs.Models.{model_of}
use Rattle.cgl_decode.proofs.examples.scaled_deck.Goals as goal

pub returns : goal.returns
unfolding fault_after model_of
returns c = refl
