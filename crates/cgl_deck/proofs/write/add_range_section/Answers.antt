use Rattle.std.proofs.Common.{codes}
use Rattle.cgl_deck.specs.DeckText.{range_text}
use Rattle.cgl_deck.proofs.TurnLaws.{section_left_out, section_written}
use Rattle.cgl_deck.proofs.write.add_range_section.Goals as goal

pub returns-then-has_ranges : goal.returns-then-has_ranges
returns-then-has_ranges c = section_written range_text c.args.rows.now (codes "RANGES\n") _ _ _ _ c.has_ranges.ensures c.if-has_ranges.true c.append.ensures c.add_ranges.ensures

pub returns-else-has_ranges : goal.returns-else-has_ranges
returns-else-has_ranges c = section_left_out range_text c.args.rows.now (codes "RANGES\n") _ _ c.has_ranges.ensures c.if-has_ranges.false
