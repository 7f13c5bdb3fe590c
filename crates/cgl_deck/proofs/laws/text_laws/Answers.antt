use Rattle.cgl_deck.proofs.DeckLineLaws.{line_sizes}
use Rattle.cgl_deck.proofs.RecordTextLaws.{records_of_text, text_is_lines}
use Rattle.cgl_deck.proofs.laws.text_laws.Goals as goal

pub returns : goal.returns
returns c = record {
  lines = text_is_lines;
  records = records_of_text;
  sizes = line_sizes;
}
