use Rattle.cgl_decode.proofs.DecimalLaws.{decks_decimal}
use Rattle.cgl_decode.proofs.models.decks_are_decimal.Goals as goal

pub returns : goal.returns
returns c = decks_decimal
