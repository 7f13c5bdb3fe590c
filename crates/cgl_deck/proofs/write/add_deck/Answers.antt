use Rattle.std.proofs.Common.{ap, codes, flat_map}
use Rattle.cgl_deck.specs.DeckText.{range_text, section_text}
use Rattle.cgl_deck.proofs.TurnLaws.{deck_longer, longer_as}
use Rattle.cgl_deck.proofs.write.add_deck.Goals as goal

pub returns : goal.returns
returns c =
    let name = rw c.as_slice.ensures at c.add_name.ensures in
    let rows = rw c.as_slice-rows.ensures at c.add_rows.ensures in
    let columns = rw (c.as_slice-rows.ensures, c.as_slice-columns.ensures) at c.add_columns.ensures in
    let rhs = rw c.as_slice-rows.ensures at c.add_right_side_section.ensures in
    let ranges = longer_as _ _ _ _ (ap (λ rows. section_text (codes "RANGES\n") (flat_map range_text rows)) c.as_slice-rows.ensures) c.add_range_section.ensures in
    let bounds = rw c.as_slice-columns.ensures at c.add_bound_section.ensures in
    deck_longer c.args.model.now _ _ _ _ _ _ _ _ _ _ _ name c.add_sense.ensures c.append.ensures rows c.append-2.ensures columns rhs ranges bounds c.append-3.ensures
