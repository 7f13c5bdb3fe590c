use Rattle.std.proofs.Common.{◌≡◌, map, take}
use Rattle.cgl_where.specs.Carried.{carried_value}
use Rattle.cgl_where.proofs.carried.Carried.point.Given as goal

abbrev pub invariant-loop-c : goal.invariant-loop-c
invariant-loop-c l = l.values.items ≡ map (λ c. carried_value l.columns l.self.named.items c.name) (take l.c-index l.c-items)
