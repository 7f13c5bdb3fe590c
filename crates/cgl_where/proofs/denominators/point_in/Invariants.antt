use Rattle.std.proofs.Common.{◌≡◌, map, take}
use Rattle.cgl_where.specs.PointFile.{numerator_over}
use Rattle.cgl_where.proofs.denominators.point_in.Given as goal

abbrev pub invariant-loop-f : goal.invariant-loop-f
invariant-loop-f l = l.numerators.items ≡ map (numerator_over l.d) (take l.f-index l.values)
