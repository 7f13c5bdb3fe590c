use Rattle.std.proofs.Common.{◌≡◌, ◌∙◌, sym, ap, arith, to_z, of_z, to_z-of_z}
use Rattle.std.specs.Int.{w128}
use Rattle.std.specs.Fmt.{signed_decimal}
use Rattle.cgl_app.proofs.say.say_cause.Goals as goal

pub returns-in-Singular : goal.returns-in-Singular
returns-in-Singular g c = rw (c.in-Singular.is, sym c.column_name.ensures) c.say_fault.ensures

pub returns-in-Scale : goal.returns-in-Scale
returns-in-Scale g c = rw (c.in-Scale.is, sym c.row_name.ensures) c.say_fault-in-Scale.ensures

pub returns-in-TooFine : goal.returns-in-TooFine
returns-in-TooFine g c = rw (c.in-TooFine.is, sym c.column_name-in-TooFine.ensures) c.say_fault-in-TooFine.ensures

pub returns-in-Overflow : goal.returns-in-Overflow
returns-in-Overflow g c =
    let left : to_z w128 (of_z w128 c.in-Overflow.left) ≡ c.in-Overflow.left = grind (arith, to_z-of_z) in
    let right : to_z w128 (of_z w128 c.in-Overflow.right) ≡ c.in-Overflow.right = grind (arith, to_z-of_z) in
    let lefts = c.digits.ensures ∙ ap signed_decimal left in
    let rights = c.digits-in-Overflow.ensures ∙ ap signed_decimal right in
    rw (c.in-Overflow.is, sym c.row_name-in-Overflow.ensures, sym c.spot_front.ensures, sym c.spot_word.ensures, sym lefts, sym rights) c.say_overflow.ensures
