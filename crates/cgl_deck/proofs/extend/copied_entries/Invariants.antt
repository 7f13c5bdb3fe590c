use Rattle.std.proofs.Common.{◌≡◌, ◌++◌, drop}
use Rattle.cgl_deck.proofs.extend.copied_entries.Given as goal

abbrev pub invariant-loop-entry : goal.invariant-loop-entry
invariant-loop-entry l = l.copy ++ drop l.entry-index l.entries ≡ l.entries
