use Rattle.std.proofs.Common.{subst, sym, ◌/◌, ◌%◌, ◌^◌}
use Rattle.std.specs.Int.{w16}
use Rattle.std.proofs.lemmas.Int.{to_z-of_z}
use Rattle.cgl_num.specs.DecimalWords.{IsPacked}
use Rattle.cgl_num.proofs.DecimalLaws.{not_multiple, parts_valid}
use Rattle.cgl_num.proofs.DecimalWordLaws.{packed}
use Rattle.cgl_num.proofs.decimal.with_sign.Goals as goal

pub invariant_of-result : goal.invariant_of-result
invariant_of-result c =
    let valid = parts_valid c.args.negative c.args.m c.args.e c.requires.normal c.requires.digits c.requires.scale c.requires.size in
    subst (λ e. IsPacked c.args.negative (c.args.m / 2 ^ 64) (c.args.m % 2 ^ 64) e) (sym (to_z-of_z w16 c.args.e c.ranges.e))
    (packed c.args.negative c.args.m c.args.e (not_multiple c.args.m c.requires.normal) valid)
