use Rattle.std.proofs.Common.{◌≡◌, ◌+◌, ◌-◌, ◌^◌, ℕ, List}
use Rattle.cgl_where.specs.Carried.{Carries}
use Rattle.cgl_where.specs.PointFile.{Record}
use Rattle.cgl_where.specs.PointRead.{point_result}
use Rattle.cgl_outside.proofs.SoFarLaws.{IsSoFar}
use Rattle.cgl_where.proofs.LineLaws.{read_on}
use Rattle.cgl_where.proofs.read.read_point.Given as goal

abbrev pub invariant-lines : goal.invariant-lines
invariant-lines g l = record {
  text : List ℕ;
  before : List Record;
  carries : Carries l.model before l.carried;
  so_far : IsSoFar (g.S.Shelf.held l.fn.shelf) l.name 4096 (point_result l.model) (read_on l.model before) l.lines text;
  held : g.S.Shelf.held l.shelf ≡ g.S.Shelf.held l.fn.shelf;
  reads : g.S.Shelf.failed_reads l.shelf ≡ g.S.Shelf.failed_reads l.fn.shelf;
  writes : g.S.Shelf.failed_writes l.shelf ≡ g.S.Shelf.failed_writes l.fn.shelf;
}

abbrev pub decreases-lines : goal.decreases-lines
decreases-lines g l = 2 ^ 30 + 1 - l.lines.front.done
