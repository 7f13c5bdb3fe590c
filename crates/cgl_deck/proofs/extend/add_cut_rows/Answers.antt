use Rattle.std.proofs.Common.{map, ap, arith}
use Rattle.cgl_deck.specs.Extended.{cut_row, is_decimal}
use Rattle.cgl_deck.proofs.ListLaws.{nothing_left}
use Rattle.cgl_deck.proofs.CutListLaws.{cut_passes, zip_ended, zip_turn}
use Rattle.cgl_deck.proofs.extend.add_cut_rows.Goals as goal

pub returns : goal.returns
returns c = nothing_left _ _ _ (ap (map cut_row) (zip_ended c.args.names.now c.args.cuts.now c.loop-k.k (omega arith))) c.loop-k.invariant

pub loop-k-preserved : goal.loop-k-preserved
loop-k-preserved c =
    let added = rw c.right_side-rhs.ensures at c.in_ok-add_row.ensures in
    zip_turn cut_row c.loop-k.rows c.add_row.new.rows _ c.args.names.now c.args.cuts.now c.loop-k.k c.index-names-k.result c.as_slice-name.result.now c.index-cuts-k.result
    (omega arith) (omega arith) c.index-names-k.is c.index-cuts-k.is c.as_slice-name.ensures added c.loop-k.invariant

pub right_side-rhs-requires : goal.right_side-rhs-requires
right_side-rhs-requires c = cut_passes is_decimal c.args.cuts.now c.loop-k.k c.index-cuts-k.result (omega arith) c.index-cuts-k.is c.requires
