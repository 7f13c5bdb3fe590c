use Rattle.std.proofs.Common.{take}
use Rattle.std.specs.List.{All}
use Rattle.cgl_model.specs.HasDecimals.{IsDecimalColumn, IsDecimalRow}
use Rattle.cgl_model.proofs.mip.Model.has_decimals.Given as goal

abbrev pub invariant-loop-row : goal.invariant-loop-row
invariant-loop-row l = All IsDecimalRow (take l.row-index l.row-items)

abbrev pub invariant-loop-column : goal.invariant-loop-column
invariant-loop-column l = All IsDecimalColumn (take l.column-index l.column-items)
