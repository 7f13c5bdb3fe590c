use Rattle.std.proofs.Common.{◌≡◌, ◌+◌, drop}
use Rattle.cgl_deck.specs.Extended.{AreRising, extended_columns_from}
use Rattle.cgl_deck.proofs.extend.add_cuts.Given as goal

abbrev pub invariant-loop-k : goal.invariant-loop-k
invariant-loop-k l = record {
  columns : extended_columns_from (l.first + l.k) 0 (drop l.k l.cuts) l.columns ≡ extended_columns_from l.first 0 l.cuts l.initial.columns;
  rising : AreRising (drop l.k l.cuts) → AreRising l.cuts;
}
