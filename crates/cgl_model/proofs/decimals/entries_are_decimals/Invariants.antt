use Rattle.std.proofs.Common.{take}
use Rattle.std.specs.List.{All}
use Rattle.cgl_num.specs.Decimal.{IsDecimal}
use Rattle.cgl_model.proofs.decimals.entries_are_decimals.Given as goal

abbrev pub invariant-loop-entry : goal.invariant-loop-entry
invariant-loop-entry l = All (λ e. IsDecimal e.1) (take l.entry-index l.entries)
