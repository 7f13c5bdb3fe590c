use Rattle.std.proofs.Common.{◌≡◌, ◌<◌, ◌^◌, arith, rules}
use Rattle.std.specs.Prelude.{unsigned_abs}
use Rattle.std.specs.Int.{w128}
use Rattle.std.proofs.lemmas.Int.{ints, to_z_pos}
use Rattle.cgl_num.specs.Gcd.{gcd}
use Rattle.cgl_num.proofs.GcdLaws.{gcd_below}
use Rattle.cgl_num.proofs.divisor.gcd.Goals as goal

pub overflow_cast-result : goal.overflow_cast-result
overflow_cast-result c =
    let left : c.unsigned_abs.result ≡ unsigned_abs c.args.a = search rules in
    let right : c.unsigned_abs-2.result ≡ unsigned_abs c.args.b = search rules in
    let is = rw (left, right) at c.common.ensures in
    let fits = gcd_below _ _ (2 ^ 127) c.requires.a c.requires.b in
    omega (arith, ints, fits, is)

pub returns : goal.returns
returns c =
    let left : c.unsigned_abs.result ≡ unsigned_abs c.args.a = search rules in
    let right : c.unsigned_abs-2.result ≡ unsigned_abs c.args.b = search rules in
    let is = rw (left, right) at c.common.ensures in
    let fits : gcd (unsigned_abs c.args.a) (unsigned_abs c.args.b) < 2 ^ 127 = gcd_below _ _ (2 ^ 127) c.requires.a c.requires.b in
    record { divisor = rw is (to_z_pos w128 _ fits) }
