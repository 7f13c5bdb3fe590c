use Rattle.std.proofs.Common.{rules, ◌∙◌}
use Rattle.std.specs.Int.{w128}
use Rattle.std.proofs.lemmas.Int.{to_z-of_z}
use Rattle.cgl_num.specs.Fraction.{Fraction}
use Rattle.cgl_num.proofs.OverflowLaws.{ProductParts, left_positive, product_made, num_wide, den_wide, product_lowest}
use Rattle.cgl_num.proofs.arithmetic.product_of.Goals as goal

pub quotient-requires : goal.quotient-requires
quotient-requires c =
    let f : Fraction = record { num = c.args.a; den = c.args.b } in
    let h : Fraction = record { num = c.args.c; den = c.args.d } in
    let a_is = to_z-of_z w128 c.args.a c.ranges.a in
    let b_is = to_z-of_z w128 c.args.b c.ranges.b in
    let c_is = to_z-of_z w128 c.args.c c.ranges.c in
    let d_is = to_z-of_z w128 c.args.d c.ranges.d in
    let g_is = to_z-of_z w128 c.gcd-left.result (record { sfits = c.gcd-left.type_inv }) in
    let k_is = to_z-of_z w128 c.gcd-right.result (record { sfits = c.gcd-right.type_inv }) in
    let left = rw (a_is, d_is) at c.gcd-left.ensures.divisor in
    let right = rw (c_is, b_is) at c.gcd-right.ensures.divisor in
    record { above = rw g_is (left_positive f h c.gcd-left.result c.requires.right left) }

pub quotient-requires-2 : goal.quotient-requires-2
quotient-requires-2 c =
    let f : Fraction = record { num = c.args.a; den = c.args.b } in
    let h : Fraction = record { num = c.args.c; den = c.args.d } in
    let a_is = to_z-of_z w128 c.args.a c.ranges.a in
    let b_is = to_z-of_z w128 c.args.b c.ranges.b in
    let c_is = to_z-of_z w128 c.args.c c.ranges.c in
    let d_is = to_z-of_z w128 c.args.d c.ranges.d in
    let g_is = to_z-of_z w128 c.gcd-left.result (record { sfits = c.gcd-left.type_inv }) in
    let k_is = to_z-of_z w128 c.gcd-right.result (record { sfits = c.gcd-right.type_inv }) in
    let left = rw (a_is, d_is) at c.gcd-left.ensures.divisor in
    let right = rw (c_is, b_is) at c.gcd-right.ensures.divisor in
    record { above = rw k_is (left_positive h f c.gcd-right.result c.requires.left right) }

pub quotient-requires-3 : goal.quotient-requires-3
quotient-requires-3 c =
    let f : Fraction = record { num = c.args.a; den = c.args.b } in
    let h : Fraction = record { num = c.args.c; den = c.args.d } in
    let a_is = to_z-of_z w128 c.args.a c.ranges.a in
    let b_is = to_z-of_z w128 c.args.b c.ranges.b in
    let c_is = to_z-of_z w128 c.args.c c.ranges.c in
    let d_is = to_z-of_z w128 c.args.d c.ranges.d in
    let g_is = to_z-of_z w128 c.gcd-left.result (record { sfits = c.gcd-left.type_inv }) in
    let k_is = to_z-of_z w128 c.gcd-right.result (record { sfits = c.gcd-right.type_inv }) in
    let left = rw (a_is, d_is) at c.gcd-left.ensures.divisor in
    let right = rw (c_is, b_is) at c.gcd-right.ensures.divisor in
    record { above = rw k_is (left_positive h f c.gcd-right.result c.requires.left right) }

pub quotient-requires-4 : goal.quotient-requires-4
quotient-requires-4 c =
    let f : Fraction = record { num = c.args.a; den = c.args.b } in
    let h : Fraction = record { num = c.args.c; den = c.args.d } in
    let a_is = to_z-of_z w128 c.args.a c.ranges.a in
    let b_is = to_z-of_z w128 c.args.b c.ranges.b in
    let c_is = to_z-of_z w128 c.args.c c.ranges.c in
    let d_is = to_z-of_z w128 c.args.d c.ranges.d in
    let g_is = to_z-of_z w128 c.gcd-left.result (record { sfits = c.gcd-left.type_inv }) in
    let k_is = to_z-of_z w128 c.gcd-right.result (record { sfits = c.gcd-right.type_inv }) in
    let left = rw (a_is, d_is) at c.gcd-left.ensures.divisor in
    let right = rw (c_is, b_is) at c.gcd-right.ensures.divisor in
    record { above = rw g_is (left_positive f h c.gcd-left.result c.requires.right left) }

pub returns-in_default : goal.returns-in_default
returns-in_default c =
    let f : Fraction = record { num = c.args.a; den = c.args.b } in
    let h : Fraction = record { num = c.args.c; den = c.args.d } in
    let a_is = to_z-of_z w128 c.args.a c.ranges.a in
    let b_is = to_z-of_z w128 c.args.b c.ranges.b in
    let c_is = to_z-of_z w128 c.args.c c.ranges.c in
    let d_is = to_z-of_z w128 c.args.d c.ranges.d in
    let g_is = to_z-of_z w128 c.gcd-left.result (record { sfits = c.gcd-left.type_inv }) in
    let k_is = to_z-of_z w128 c.gcd-right.result (record { sfits = c.gcd-right.type_inv }) in
    let left = rw (a_is, d_is) at c.gcd-left.ensures.divisor in
    let right = rw (c_is, b_is) at c.gcd-right.ensures.divisor in
    let parts : ProductParts f h c.gcd-left.result c.gcd-right.result = record { left = c.requires.left; right = c.requires.right; left_divisor = left; right_divisor = right } in
    let q_is = to_z-of_z w128 c.quotient.result (record { sfits = c.quotient.type_inv }) in
    let q2_is = to_z-of_z w128 c.quotient-2.result (record { sfits = c.quotient-2.type_inv }) in
    let q = rw (a_is, g_is) at c.quotient.ensures.quotient in
    let q2 = rw (c_is, k_is) at c.quotient-2.ensures.quotient in
    num_wide f h _ _ parts (rw (q_is, q2_is, q, q2) at c.in_default.ensures)

pub returns-in_default-product : goal.returns-in_default-product
returns-in_default-product c =
    let f : Fraction = record { num = c.args.a; den = c.args.b } in
    let h : Fraction = record { num = c.args.c; den = c.args.d } in
    let a_is = to_z-of_z w128 c.args.a c.ranges.a in
    let b_is = to_z-of_z w128 c.args.b c.ranges.b in
    let c_is = to_z-of_z w128 c.args.c c.ranges.c in
    let d_is = to_z-of_z w128 c.args.d c.ranges.d in
    let g_is = to_z-of_z w128 c.gcd-left.result (record { sfits = c.gcd-left.type_inv }) in
    let k_is = to_z-of_z w128 c.gcd-right.result (record { sfits = c.gcd-right.type_inv }) in
    let left = rw (a_is, d_is) at c.gcd-left.ensures.divisor in
    let right = rw (c_is, b_is) at c.gcd-right.ensures.divisor in
    let parts : ProductParts f h c.gcd-left.result c.gcd-right.result = record { left = c.requires.left; right = c.requires.right; left_divisor = left; right_divisor = right } in
    let q_is = to_z-of_z w128 c.quotient.result (record { sfits = c.quotient.type_inv }) in
    let q2_is = to_z-of_z w128 c.quotient-2.result (record { sfits = c.quotient-2.type_inv }) in
    let q = rw (a_is, g_is) at c.quotient.ensures.quotient in
    let q2 = rw (c_is, k_is) at c.quotient-2.ensures.quotient in
    let q3_is = to_z-of_z w128 c.quotient-3.result (record { sfits = c.quotient-3.type_inv }) in
    let q4_is = to_z-of_z w128 c.quotient-4.result (record { sfits = c.quotient-4.type_inv }) in
    let q3 = rw (b_is, k_is) at c.quotient-3.ensures.quotient in
    let q4 = rw (d_is, g_is) at c.quotient-4.ensures.quotient in
    den_wide f h _ _ parts (rw (q3_is, q4_is, q3, q4) at c.in_default-product.ensures)

pub of_lowest-requires : goal.of_lowest-requires
of_lowest-requires c =
    let f : Fraction = record { num = c.args.a; den = c.args.b } in
    let h : Fraction = record { num = c.args.c; den = c.args.d } in
    let a_is = to_z-of_z w128 c.args.a c.ranges.a in
    let b_is = to_z-of_z w128 c.args.b c.ranges.b in
    let c_is = to_z-of_z w128 c.args.c c.ranges.c in
    let d_is = to_z-of_z w128 c.args.d c.ranges.d in
    let g_is = to_z-of_z w128 c.gcd-left.result (record { sfits = c.gcd-left.type_inv }) in
    let k_is = to_z-of_z w128 c.gcd-right.result (record { sfits = c.gcd-right.type_inv }) in
    let left = rw (a_is, d_is) at c.gcd-left.ensures.divisor in
    let right = rw (c_is, b_is) at c.gcd-right.ensures.divisor in
    let parts : ProductParts f h c.gcd-left.result c.gcd-right.result = record { left = c.requires.left; right = c.requires.right; left_divisor = left; right_divisor = right } in
    let q_is = to_z-of_z w128 c.quotient.result (record { sfits = c.quotient.type_inv }) in
    let q2_is = to_z-of_z w128 c.quotient-2.result (record { sfits = c.quotient-2.type_inv }) in
    let q = rw (a_is, g_is) at c.quotient.ensures.quotient in
    let q2 = rw (c_is, k_is) at c.quotient-2.ensures.quotient in
    let q3_is = to_z-of_z w128 c.quotient-3.result (record { sfits = c.quotient-3.type_inv }) in
    let q4_is = to_z-of_z w128 c.quotient-4.result (record { sfits = c.quotient-4.type_inv }) in
    let q3 = rw (b_is, k_is) at c.quotient-3.ensures.quotient in
    let q4 = rw (d_is, g_is) at c.quotient-4.ensures.quotient in
    let p_is = to_z-of_z w128 c.in-Some.num (search rules) in
    let r_is = to_z-of_z w128 c.in-Some-product.den (search rules) in
    let num = rw (q_is, q2_is, q, q2) at c.in-Some.ensures.0 in
    let den = rw (q3_is, q4_is, q3, q4) at c.in-Some-product.ensures.0 in
    record { lowest = rw (p_is, r_is) (product_lowest f h _ _ _ _ parts num den c.in-Some.ensures.1 c.in-Some-product.ensures.1) }

pub returns : goal.returns
returns c =
    let f : Fraction = record { num = c.args.a; den = c.args.b } in
    let h : Fraction = record { num = c.args.c; den = c.args.d } in
    let a_is = to_z-of_z w128 c.args.a c.ranges.a in
    let b_is = to_z-of_z w128 c.args.b c.ranges.b in
    let c_is = to_z-of_z w128 c.args.c c.ranges.c in
    let d_is = to_z-of_z w128 c.args.d c.ranges.d in
    let g_is = to_z-of_z w128 c.gcd-left.result (record { sfits = c.gcd-left.type_inv }) in
    let k_is = to_z-of_z w128 c.gcd-right.result (record { sfits = c.gcd-right.type_inv }) in
    let left = rw (a_is, d_is) at c.gcd-left.ensures.divisor in
    let right = rw (c_is, b_is) at c.gcd-right.ensures.divisor in
    let parts : ProductParts f h c.gcd-left.result c.gcd-right.result = record { left = c.requires.left; right = c.requires.right; left_divisor = left; right_divisor = right } in
    let q_is = to_z-of_z w128 c.quotient.result (record { sfits = c.quotient.type_inv }) in
    let q2_is = to_z-of_z w128 c.quotient-2.result (record { sfits = c.quotient-2.type_inv }) in
    let q = rw (a_is, g_is) at c.quotient.ensures.quotient in
    let q2 = rw (c_is, k_is) at c.quotient-2.ensures.quotient in
    let q3_is = to_z-of_z w128 c.quotient-3.result (record { sfits = c.quotient-3.type_inv }) in
    let q4_is = to_z-of_z w128 c.quotient-4.result (record { sfits = c.quotient-4.type_inv }) in
    let q3 = rw (b_is, k_is) at c.quotient-3.ensures.quotient in
    let q4 = rw (d_is, g_is) at c.quotient-4.ensures.quotient in
    let p_is = to_z-of_z w128 c.in-Some.num (search rules) in
    let r_is = to_z-of_z w128 c.in-Some-product.den (search rules) in
    let num = rw (q_is, q2_is, q, q2) at c.in-Some.ensures.0 in
    let den = rw (q3_is, q4_is, q3, q4) at c.in-Some-product.ensures.0 in
    ((rw (p_is, r_is) at c.of_lowest.ensures.value) ∙ product_made f h _ _ _ _ parts num den, c.of_lowest.ensures.lowest)
