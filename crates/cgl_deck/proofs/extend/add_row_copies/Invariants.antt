use Rattle.std.proofs.Common.{◌≡◌, ◌++◌, drop}
use Rattle.cgl_deck.proofs.extend.add_row_copies.Given as goal

abbrev pub invariant-loop-row : goal.invariant-loop-row
invariant-loop-row l = l.copies ++ drop l.row-index l.rows ≡ l.initial.copies ++ l.rows
