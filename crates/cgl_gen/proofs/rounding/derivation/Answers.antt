use Rattle.std.specs.Int.{w128}
use Rattle.std.proofs.lemmas.Int.{to_z-of_z}
use Rattle.cgl_gen.proofs.MemberLaws.{round_from_is}
use Rattle.cgl_gen.proofs.rounding.derivation.Goals as goal

pub returns : goal.returns
returns c =
    let is = to_z-of_z w128 c.args.divisor c.ranges.divisor in
    round_from_is c.args.place c.args.divisor _ c.args.claim c.new-steps.result c.push.new.self c.new-steps.ensures is c.in-Ok.ensures.ok
