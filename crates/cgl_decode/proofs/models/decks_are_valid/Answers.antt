use Rattle.cgl_decode.proofs.ValidLaws.{decks_valid}
use Rattle.cgl_decode.proofs.models.decks_are_valid.Goals as goal

pub returns : goal.returns
returns c = decks_valid
