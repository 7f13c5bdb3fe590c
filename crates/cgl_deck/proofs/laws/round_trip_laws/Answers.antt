use Rattle.cgl_deck.proofs.RoundTripLaws.{decodes, again}
use Rattle.cgl_deck.proofs.laws.round_trip_laws.Goals as goal

pub returns : goal.returns
returns c = record {
  decodes = decodes;
  again = again;
}
