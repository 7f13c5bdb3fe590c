use Rattle.std.proofs.Common.{length, take, ◌-◌, ◌≡◌, ◌≤◌}
use Rattle.cgl_outside.specs.Shelf.{with_file}
use Rattle.cgl_outside.proofs.whole.write_whole.Given as goal

abbrev pub invariant-pieces : goal.invariant-pieces
invariant-pieces g l = record {
  place : l.done ≤ length l.bytes;
  held : g.S.Shelf.held l.shelf ≡ with_file (g.S.Shelf.held l.fn.shelf) l.name (take l.done l.bytes);
  writes : g.S.Shelf.failed_writes l.shelf ≡ g.S.Shelf.failed_writes l.fn.shelf;
  reads : g.S.Shelf.failed_reads l.shelf ≡ g.S.Shelf.failed_reads l.fn.shelf;
}

abbrev pub decreases-pieces : goal.decreases-pieces
decreases-pieces g l = length l.bytes - l.done
