use Rattle.std.proofs.Common.{rules, ◌≡◌, ◌*ℤ◌, ◌<◌, ◌^◌, unsigned_abs, subst, inr}
use Rattle.std.specs.Int.{w128}
use Rattle.std.proofs.lemmas.Int.{to_z-of_z}
use Rattle.cgl_num.proofs.OverflowLaws.{match_weaker}
use Rattle.cgl_num.proofs.arithmetic.numerator.Goals as goal

pub returns : goal.returns
returns c =
    let a_is = to_z-of_z w128 c.args.a c.ranges.a in
    let y_is = to_z-of_z w128 c.args.y c.ranges.y in
    let c_is = to_z-of_z w128 c.args.c c.ranges.c in
    let x_is = to_z-of_z w128 c.args.x c.ranges.x in
    let l_is = to_z-of_z w128 c.in-Some.left (search rules) in
    let r_is = to_z-of_z w128 c.in-Some-product.right (search rules) in
    let left : c.in-Some.left ≡ c.args.a *ℤ c.args.y = rw (a_is, y_is) at c.in-Some.ensures.0 in
    let right : c.in-Some-product.right ≡ c.args.c *ℤ c.args.x = rw (c_is, x_is) at c.in-Some-product.ensures.0 in
    match_weaker c.total.result (λ w. inr (inr w))
    (λ z q. (q.0, q.1, subst (λ z. unsigned_abs z < 2 ^ 127) left c.in-Some.ensures.1, subst (λ z. unsigned_abs z < 2 ^ 127) right c.in-Some-product.ensures.1))
    (rw (l_is, r_is, left, right) at c.total.ensures)
