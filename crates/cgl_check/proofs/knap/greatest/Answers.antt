use Rattle.std.proofs.Common.{◌≡◌, ◌+◌, ◌<◌, ◌∙◌, pos, length, get_or, rules, arith}
use Rattle.std.specs.Int.{w128}
use Rattle.std.specs.Int.RustNames.{FitsSigned}
use Rattle.std.proofs.lemmas.Int.{to_z-of_z}
use Rattle.std.proofs.lemmas.List.{length-take-le}
use Rattle.cgl_check.proofs.knap.greatest.Goals as goal

pub returns-clause-value : goal.returns-clause-value
returns-clause-value c =
    let places = c.args.capacity + 1 in
    let size : length c.fill.new.table ≡ places = c.fill.auto.table ∙ length-take-le places c.as_mut_slice.result.now (omega (arith, c.requires.places, c.as_mut_slice.ensures.len)) in
    let fits : FitsSigned w128 (get_or c.fill.new.table c.args.capacity (pos 0)) = search rules in
    rw (to_z-of_z w128 (get_or c.fill.new.table c.args.capacity (pos 0)) fits) (c.fill.ensures c.args.capacity (omega (arith, size)))
