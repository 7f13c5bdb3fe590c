use Rattle.cgl_outside.specs.Front.{Follows}
use Rattle.cgl_outside.specs.Reading.{IsOpen}
use Rattle.cgl_cases.proofs.lines.tell_answers.Given as goal

abbrev pub invariant-loop : goal.invariant-loop
invariant-loop g l = IsOpen l.lines.last → Follows (g.S.Shelf.held l.shelf) l.lines.front
