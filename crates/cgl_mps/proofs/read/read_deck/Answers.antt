use Rattle.cgl_mps.proofs.LoopLaws.{means_model}
use Rattle.cgl_mps.proofs.read.read_deck.Goals as goal

pub returns-in-Ok-clause-valid : goal.returns-in-Ok-clause-valid
returns-in-Ok-clause-valid g c =
    (means_model (g.S.Shelf.held c.args.shelf.now) c.args.name.now c.in-Ok.model (c.in_ok-read_lines.ensures.deck c.in-Ok.model c.in-Ok.ensures)).0

pub returns-in-Ok-clause-decimals : goal.returns-in-Ok-clause-decimals
returns-in-Ok-clause-decimals g c =
    (means_model (g.S.Shelf.held c.args.shelf.now) c.args.name.now c.in-Ok.model (c.in_ok-read_lines.ensures.deck c.in-Ok.model c.in-Ok.ensures)).1
