use Rattle.std.proofs.Common.{arith}
use Rattle.cgl_model.proofs.FormListLaws.{column_step}
use Rattle.cgl_model.proofs.side_list.add_column_sides.Goals as goal

pub loop-j-preserved : goal.loop-j-preserved
loop-j-preserved c =
    column_step c.args.columns.now c.loop-j.j c.index-columns-j.result c.args.sides.now c.loop-j.sides c.add_bounds.new.sides (omega arith) c.index-columns-j.is c.loop-j.invariant c.in_ok-add_bounds.ensures
