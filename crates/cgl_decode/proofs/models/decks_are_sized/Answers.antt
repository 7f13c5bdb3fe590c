use Rattle.cgl_decode.proofs.SizeLaws.{decks_sized}
use Rattle.cgl_decode.proofs.models.decks_are_sized.Goals as goal

pub returns : goal.returns
returns c = decks_sized
