use Rattle.std.proofs.Common.{◌≡◌, ◌++◌, drop, map}
use Rattle.std.specs.List.{zip}
use Rattle.cgl_deck.specs.Extended.{cut_row}
use Rattle.cgl_deck.proofs.extend.add_cut_rows.Given as goal

abbrev pub invariant-loop-k : goal.invariant-loop-k
invariant-loop-k l = l.rows ++ map cut_row (zip (drop l.k l.names) (drop l.k l.cuts)) ≡ l.initial.rows ++ map cut_row (zip l.names l.cuts)
