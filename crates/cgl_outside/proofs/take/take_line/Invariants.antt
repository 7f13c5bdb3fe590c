use Rattle.std.proofs.Common.{◌≡◌, ◌≤◌, ◌+◌, ◌-◌, ◌^◌, ◌⊎◌, ℕ, List, [], false, IsSome, Some, drop}
use Rattle.cgl_outside.specs.Shelf.{file_of}
use Rattle.cgl_outside.specs.Front.{Follows, IsPast}
use Rattle.cgl_outside.specs.Turns.{Bare, Mid}
use Rattle.cgl_outside.proofs.take.take_line.Given as goal

abbrev pub invariant-pieces : goal.invariant-pieces
invariant-pieces g l = record {
  follows : Follows (g.S.Shelf.held l.fn.shelf) l.ahead;
  name : l.ahead.name ≡ l.fn.ahead.name;
  start : l.start ≡ l.fn.ahead.done;
  later : l.start ≤ l.ahead.done;
  small : l.ahead.done ≤ 2 ^ 30;
  mid : (file : List ℕ) → file_of (g.S.Shelf.held l.fn.shelf) l.fn.ahead.name ≡ Some file → Mid l.longest (l.ahead.done - l.start) (drop l.start file) l.line.items;
  bare : Bare l.longest (l.ahead.done - l.start) l.line.items;
  past : IsPast l.fn.ahead → l.ahead ≡ l.fn.ahead;
  found : (l.ahead ≡ l.fn.ahead) ⊎ (l.fn.ahead.ahead ≡ [] → l.fn.ahead.ended ≡ false → IsSome (g.S.Shelf.held l.fn.shelf) → IsSome (file_of (g.S.Shelf.held l.fn.shelf) l.fn.ahead.name));
  held : g.S.Shelf.held l.shelf ≡ g.S.Shelf.held l.fn.shelf;
  reads : g.S.Shelf.failed_reads l.shelf ≡ g.S.Shelf.failed_reads l.fn.shelf;
  writes : g.S.Shelf.failed_writes l.shelf ≡ g.S.Shelf.failed_writes l.fn.shelf;
}

abbrev pub decreases-pieces : goal.decreases-pieces
decreases-pieces g l = 2 ^ 30 + 1 - l.ahead.done
