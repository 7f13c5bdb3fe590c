use Rattle.std.proofs.Common.{◌∙◌, ap, map}
use Rattle.cgl_num.specs.NumberText.{Word}
use Rattle.cgl_model.specs.declared.mip.Column.{Column}
use Rattle.cgl_where.proofs.StepLaws.{mapped_all, mapped_more}
use Rattle.cgl_where.proofs.columns.Columns.of.Goals as goal

abbrev name : Column → Word
name column = column.name

pub loop-column-preserved : goal.loop-column-preserved
loop-column-preserved c =
    mapped_more name c.as_slice-column-items.result.now c.loop-column.column-index c.column-item.result _ _ _ c.loop-column-test.true c.column-item.is c.as_slice.ensures c.loop-column.invariant c.in-Ok.ensures.ok

pub invariant_of-result : goal.invariant_of-result
invariant_of-result c = mapped_all name c.as_slice-column-items.result.now c.loop-column.column-index _ c.loop-column-test.false c.loop-column.invariant ∙ ap (map name) c.as_slice-column-items.ensures
