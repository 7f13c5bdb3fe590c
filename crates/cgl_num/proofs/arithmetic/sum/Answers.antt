use Rattle.std.proofs.Common.{rules}
use Rattle.std.specs.Int.{w128}
use Rattle.std.proofs.lemmas.Int.{to_z-of_z}
use Rattle.cgl_num.specs.Fraction.{Fraction}
use Rattle.cgl_num.proofs.OverflowLaws.{SumParts, match_weaker, divisor_positive, rest_positive, sum_apart, terms_overflow, den_overflows, sum_fits}
use Rattle.cgl_num.proofs.arithmetic.sum.Goals as goal

pub quotient-rest-requires : goal.quotient-rest-requires
quotient-rest-requires c =
    let f : Fraction = record { num = c.args.a; den = c.args.b } in
    let h : Fraction = record { num = c.args.c; den = c.args.d } in
    let b_is = to_z-of_z w128 c.args.b c.ranges.b in
    let d_is = to_z-of_z w128 c.args.d c.ranges.d in
    let g_is = to_z-of_z w128 c.gcd-divisor.result (record { sfits = c.gcd-divisor.type_inv }) in
    let is = rw (b_is, d_is) at c.gcd-divisor.ensures.divisor in
    record { above = rw g_is (divisor_positive f h c.gcd-divisor.result c.requires.right is) }

pub quotient-requires : goal.quotient-requires
quotient-requires c =
    let f : Fraction = record { num = c.args.a; den = c.args.b } in
    let h : Fraction = record { num = c.args.c; den = c.args.d } in
    let b_is = to_z-of_z w128 c.args.b c.ranges.b in
    let d_is = to_z-of_z w128 c.args.d c.ranges.d in
    let g_is = to_z-of_z w128 c.gcd-divisor.result (record { sfits = c.gcd-divisor.type_inv }) in
    let is = rw (b_is, d_is) at c.gcd-divisor.ensures.divisor in
    record { above = rw g_is (divisor_positive f h c.gcd-divisor.result c.requires.right is) }

pub returns-in_default : goal.returns-in_default
returns-in_default c =
    let f : Fraction = record { num = c.args.a; den = c.args.b } in
    let h : Fraction = record { num = c.args.c; den = c.args.d } in
    let b_is = to_z-of_z w128 c.args.b c.ranges.b in
    let d_is = to_z-of_z w128 c.args.d c.ranges.d in
    let g_is = to_z-of_z w128 c.gcd-divisor.result (record { sfits = c.gcd-divisor.type_inv }) in
    let is = rw (b_is, d_is) at c.gcd-divisor.ensures.divisor in
    let a_is = to_z-of_z w128 c.args.a c.ranges.a in
    let c_is = to_z-of_z w128 c.args.c c.ranges.c in
    let x_is = to_z-of_z w128 c.quotient-rest.result (record { sfits = c.quotient-rest.type_inv }) in
    let y_is = to_z-of_z w128 c.quotient.result (record { sfits = c.quotient.type_inv }) in
    let parts : SumParts f h c.gcd-divisor.result c.quotient-rest.result c.quotient.result =
    record { left = c.requires.left; right = c.requires.right; divisor = is; rest = rw (b_is, g_is) at c.quotient-rest.ensures.quotient; other = rw (d_is, g_is) at c.quotient.ensures.quotient } in
    terms_overflow f h _ _ _ parts (rw (a_is, y_is, c_is, x_is) at c.in_default.ensures)

pub reduced-requires-clause-rest : goal.reduced-requires-clause-rest
reduced-requires-clause-rest c =
    let f : Fraction = record { num = c.args.a; den = c.args.b } in
    let h : Fraction = record { num = c.args.c; den = c.args.d } in
    let b_is = to_z-of_z w128 c.args.b c.ranges.b in
    let d_is = to_z-of_z w128 c.args.d c.ranges.d in
    let g_is = to_z-of_z w128 c.gcd-divisor.result (record { sfits = c.gcd-divisor.type_inv }) in
    let is = rw (b_is, d_is) at c.gcd-divisor.ensures.divisor in
    let a_is = to_z-of_z w128 c.args.a c.ranges.a in
    let c_is = to_z-of_z w128 c.args.c c.ranges.c in
    let x_is = to_z-of_z w128 c.quotient-rest.result (record { sfits = c.quotient-rest.type_inv }) in
    let y_is = to_z-of_z w128 c.quotient.result (record { sfits = c.quotient.type_inv }) in
    let parts : SumParts f h c.gcd-divisor.result c.quotient-rest.result c.quotient.result =
    record { left = c.requires.left; right = c.requires.right; divisor = is; rest = rw (b_is, g_is) at c.quotient-rest.ensures.quotient; other = rw (d_is, g_is) at c.quotient.ensures.quotient } in
    rw x_is (rest_positive f h _ _ _ parts)

pub reduced-requires-clause-apart : goal.reduced-requires-clause-apart
reduced-requires-clause-apart c =
    let f : Fraction = record { num = c.args.a; den = c.args.b } in
    let h : Fraction = record { num = c.args.c; den = c.args.d } in
    let b_is = to_z-of_z w128 c.args.b c.ranges.b in
    let d_is = to_z-of_z w128 c.args.d c.ranges.d in
    let g_is = to_z-of_z w128 c.gcd-divisor.result (record { sfits = c.gcd-divisor.type_inv }) in
    let is = rw (b_is, d_is) at c.gcd-divisor.ensures.divisor in
    let a_is = to_z-of_z w128 c.args.a c.ranges.a in
    let c_is = to_z-of_z w128 c.args.c c.ranges.c in
    let x_is = to_z-of_z w128 c.quotient-rest.result (record { sfits = c.quotient-rest.type_inv }) in
    let y_is = to_z-of_z w128 c.quotient.result (record { sfits = c.quotient.type_inv }) in
    let parts : SumParts f h c.gcd-divisor.result c.quotient-rest.result c.quotient.result =
    record { left = c.requires.left; right = c.requires.right; divisor = is; rest = rw (b_is, g_is) at c.quotient-rest.ensures.quotient; other = rw (d_is, g_is) at c.quotient.ensures.quotient } in
    let t_is = to_z-of_z w128 c.in-Some.num (search rules) in
    let made = rw (a_is, y_is, c_is, x_is) at c.in-Some.ensures in
    rw (t_is, x_is) (sum_apart f h _ _ _ c.in-Some.num parts made.0)

pub returns : goal.returns
returns c =
    let f : Fraction = record { num = c.args.a; den = c.args.b } in
    let h : Fraction = record { num = c.args.c; den = c.args.d } in
    let b_is = to_z-of_z w128 c.args.b c.ranges.b in
    let d_is = to_z-of_z w128 c.args.d c.ranges.d in
    let g_is = to_z-of_z w128 c.gcd-divisor.result (record { sfits = c.gcd-divisor.type_inv }) in
    let is = rw (b_is, d_is) at c.gcd-divisor.ensures.divisor in
    let a_is = to_z-of_z w128 c.args.a c.ranges.a in
    let c_is = to_z-of_z w128 c.args.c c.ranges.c in
    let x_is = to_z-of_z w128 c.quotient-rest.result (record { sfits = c.quotient-rest.type_inv }) in
    let y_is = to_z-of_z w128 c.quotient.result (record { sfits = c.quotient.type_inv }) in
    let parts : SumParts f h c.gcd-divisor.result c.quotient-rest.result c.quotient.result =
    record { left = c.requires.left; right = c.requires.right; divisor = is; rest = rw (b_is, g_is) at c.quotient-rest.ensures.quotient; other = rw (d_is, g_is) at c.quotient.ensures.quotient } in
    let t_is = to_z-of_z w128 c.in-Some.num (search rules) in
    let made = rw (a_is, y_is, c_is, x_is) at c.in-Some.ensures in
    match_weaker c.reduced.result (den_overflows f h _ _ _ c.in-Some.num parts made.0)
    (λ s q. sum_fits f h _ _ _ c.in-Some.num s parts made.0 made.1 made.2 made.3 q.0 q.1)
    (rw (t_is, x_is, d_is) at c.reduced.ensures)

pub reduced-requires-clause-narrow : goal.reduced-requires-clause-narrow
reduced-requires-clause-narrow c = rw (to_z-of_z w128 c.in-Some.num (search rules)) c.in-Some.ensures.1

pub reduced-requires-clause-den : goal.reduced-requires-clause-den
reduced-requires-clause-den c = rw (to_z-of_z w128 c.args.d c.ranges.d) c.requires.right.positive
