use Rattle.std.proofs.Common.{◌+◌, ◌-◌}
use Rattle.cgl_deck.specs.CutNames.{cut_names}
use Rattle.cgl_deck.proofs.NameLaws.{IsFound}
use Rattle.cgl_deck.proofs.names.cut_names.Given as goal

abbrev pub invariant-loop-number : goal.invariant-loop-number
invariant-loop-number l = IsFound l.model l.n (l.number + 1) (l.last - l.number) l.names (cut_names l.model l.n)
