use Rattle.std.proofs.Common.{ap, ◌^◌}
use Rattle.std.specs.Prelude.{nat_le}
use Rattle.std.specs.Int.{w128}
use Rattle.std.proofs.lemmas.Int.{to_z-of_z}
use Rattle.cgl_gen.proofs.listable.is_large.Goals as goal

pub returns : goal.returns
returns c =
    let magnitude = rw (to_z-of_z w128 c.args.number c.ranges.number) at c.unsigned_abs.ensures.value in
    ap (nat_le (10 ^ 24)) magnitude
