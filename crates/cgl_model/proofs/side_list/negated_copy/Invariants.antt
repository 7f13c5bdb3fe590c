use Rattle.std.proofs.Common.{◌≡◌, take}
use Rattle.cgl_model.specs.IntegerForm.{negated}
use Rattle.cgl_model.proofs.side_list.negated_copy.Given as goal

abbrev pub invariant-loop-term : goal.invariant-loop-term
invariant-loop-term l = l.copy ≡ negated (take l.term-index l.term-items)
