use Rattle.std.proofs.Common.{codes}
use Rattle.cgl_deck.specs.DeckText.{rhs_text}
use Rattle.cgl_deck.proofs.TurnLaws.{section_left_out, section_written}
use Rattle.cgl_deck.proofs.write.add_right_side_section.Goals as goal

pub returns-then-has_right_sides : goal.returns-then-has_right_sides
returns-then-has_right_sides c = section_written rhs_text c.args.rows.now (codes "RHS\n") _ _ _ _ c.has_right_sides.ensures c.if-has_right_sides.true c.append.ensures c.add_right_sides.ensures

pub returns-else-has_right_sides : goal.returns-else-has_right_sides
returns-else-has_right_sides c = section_left_out rhs_text c.args.rows.now (codes "RHS\n") _ _ c.has_right_sides.ensures c.if-has_right_sides.false
