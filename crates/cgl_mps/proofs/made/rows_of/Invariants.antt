use Rattle.std.proofs.Common.{◌≡◌}
use Rattle.cgl_text.specs.Seen.{owned_words}
use Rattle.cgl_mps.specs.Made.{made_rows}
use Rattle.cgl_mps.proofs.made.rows_of.Given as goal

abbrev pub invariant-loop-name : goal.invariant-loop-name
invariant-loop-name l = l.rows.items ≡ made_rows (owned_words l.yielded) l.kinds l.rhs.values l.ranges.values
