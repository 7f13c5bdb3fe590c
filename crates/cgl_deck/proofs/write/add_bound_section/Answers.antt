use Rattle.std.proofs.Common.{codes}
use Rattle.cgl_deck.specs.DeckText.{bound_text}
use Rattle.cgl_deck.proofs.TurnLaws.{section_left_out, section_written}
use Rattle.cgl_deck.proofs.write.add_bound_section.Goals as goal

pub returns-then-has_bounds : goal.returns-then-has_bounds
returns-then-has_bounds c = section_written bound_text c.args.columns.now (codes "BOUNDS\n") _ _ _ _ c.has_bounds.ensures c.if-has_bounds.true c.append.ensures c.add_bounds.ensures

pub returns-else-has_bounds : goal.returns-else-has_bounds
returns-else-has_bounds c = section_left_out bound_text c.args.columns.now (codes "BOUNDS\n") _ _ c.has_bounds.ensures c.if-has_bounds.false
