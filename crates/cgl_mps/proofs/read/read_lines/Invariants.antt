use Rattle.std.proofs.Common.{◌≡◌, ◌+◌, ◌-◌, ◌^◌, ℕ, List}
use Rattle.cgl_decode.specs.DeckResult.{deck_result}
use Rattle.cgl_decode.specs.Records.{Record}
use Rattle.cgl_outside.proofs.SoFarLaws.{IsSoFar}
use Rattle.cgl_mps.specs.State.{Stands}
use Rattle.cgl_mps.proofs.LoopLaws.{read_on}
use Rattle.cgl_mps.proofs.read.read_lines.Given as goal

abbrev pub invariant-lines : goal.invariant-lines
invariant-lines g l = record {
  text : List ℕ;
  before : List Record;
  stands : Stands before l.state;
  so_far : IsSoFar (g.S.Shelf.held l.fn.shelf) l.name 4096 deck_result (read_on l.section before) l.lines text;
  held : g.S.Shelf.held l.shelf ≡ g.S.Shelf.held l.fn.shelf;
  reads : g.S.Shelf.failed_reads l.shelf ≡ g.S.Shelf.failed_reads l.fn.shelf;
  writes : g.S.Shelf.failed_writes l.shelf ≡ g.S.Shelf.failed_writes l.fn.shelf;
}

abbrev pub decreases-lines : goal.decreases-lines
decreases-lines g l = 2 ^ 30 + 1 - l.lines.front.done
