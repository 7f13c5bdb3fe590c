use Rattle.cgl_app.proofs.TextLaws.{long_where_measured}
use Rattle.cgl_app.proofs.texts.is_too_long_deck.Goals as goal

pub returns : goal.returns
returns c = long_where_measured c.deck_len.result _ c.deck_len.ensures
