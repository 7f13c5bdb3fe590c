use Rattle.std.proofs.Common.{◌≡◌, arith, rules}
use Rattle.cgl_num.specs.Gcd.{gcd}
use Rattle.cgl_num.proofs.GcdLaws.{gcd_above}
use Rattle.cgl_where.proofs.denominators.lcm.Goals as goal

pub nonzero_div-b : goal.nonzero_div-b
nonzero_div-b c =
    let is : c.unsigned_abs.result ≡ gcd c.args.a c.args.b = search rules in
    omega (arith, gcd_above c.args.a c.args.b c.requires.positive, is)
