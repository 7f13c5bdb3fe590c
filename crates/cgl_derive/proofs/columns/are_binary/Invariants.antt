use Rattle.std.proofs.Common.{take}
use Rattle.cgl_derive.specs.Binary.{AreBinary}
use Rattle.cgl_derive.proofs.columns.are_binary.Given as goal

abbrev pub invariant-loop-term : goal.invariant-loop-term
invariant-loop-term l = AreBinary l.model (take l.term-index l.terms)
