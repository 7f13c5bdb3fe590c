use Rattle.std.proofs.Common.{rules, refl}
use Rattle.std.specs.Int.{w128}
use Rattle.std.proofs.lemmas.Int.{to_z-of_z}
use Rattle.std.proofs.lemmas.Bool.{false≢true}
use Rattle.cgl_num.proofs.OverflowLaws.{lowest_fits}
use Rattle.cgl_num.proofs.fraction.Frac.div.Goals as goal

pub returns-in_default-clause-overflow : goal.returns-in_default-clause-overflow
returns-in_default-clause-overflow c =
    let n_is = to_z-of_z w128 c.num.result (record { sfits = c.num.type_inv }) in
    let d_is = to_z-of_z w128 c.den.result (record { sfits = c.den.type_inv }) in
    let p_is = to_z-of_z w128 c.num-2.result (record { sfits = c.num-2.type_inv }) in
    let q_is = to_z-of_z w128 c.den-2.result (record { sfits = c.den-2.type_inv }) in
    (λ _. rw (n_is, d_is, p_is, q_is, c.num.ensures.num, c.den.ensures.den, c.num-2.ensures.num, c.den-2.ensures.den, c.reciprocal-inverse.ensures.value) at c.in_default.ensures, λ _. refl)

pub returns-clause-value : goal.returns-clause-value
returns-clause-value c =
    let n_is = to_z-of_z w128 c.num.result (record { sfits = c.num.type_inv }) in
    let d_is = to_z-of_z w128 c.den.result (record { sfits = c.den.type_inv }) in
    let p_is = to_z-of_z w128 c.num-2.result (record { sfits = c.num-2.type_inv }) in
    let q_is = to_z-of_z w128 c.den-2.result (record { sfits = c.den-2.type_inv }) in
    rw (n_is, d_is, p_is, q_is, c.num.ensures.num, c.den.ensures.den, c.num-2.ensures.num, c.den-2.ensures.den, c.reciprocal-inverse.ensures.value) at c.in-Some.ensures

pub returns-clause-overflow : goal.returns-clause-overflow
returns-clause-overflow c =
    let n_is = to_z-of_z w128 c.num.result (record { sfits = c.num.type_inv }) in
    let d_is = to_z-of_z w128 c.den.result (record { sfits = c.den.type_inv }) in
    let p_is = to_z-of_z w128 c.num-2.result (record { sfits = c.num-2.type_inv }) in
    let q_is = to_z-of_z w128 c.den-2.result (record { sfits = c.den-2.type_inv }) in
    let made = rw (n_is, d_is, p_is, q_is, c.num.ensures.num, c.den.ensures.den, c.num-2.ensures.num, c.den-2.ensures.den, c.reciprocal-inverse.ensures.value) at c.in-Some.ensures in
    (λ e. absurd (false≢true e), λ w. absurd (lowest_fits _ _ made.0 made.1 w))

pub reciprocal-inverse-requires : goal.reciprocal-inverse-requires
reciprocal-inverse-requires c = search rules

pub num-requires : goal.num-requires
num-requires c = search rules

pub den-requires : goal.den-requires
den-requires c = search rules

pub num-requires-2 : goal.num-requires-2
num-requires-2 c = search rules

pub den-requires-2 : goal.den-requires-2
den-requires-2 c = search rules

pub product_of-requires-clause-left : goal.product_of-requires-clause-left
product_of-requires-clause-left c = search rules

pub product_of-requires-clause-right : goal.product_of-requires-clause-right
product_of-requires-clause-right c = search rules

pub returns-in_default-clause-value : goal.returns-in_default-clause-value
returns-in_default-clause-value c = search rules

pub returns-in_default-clause-error : goal.returns-in_default-clause-error
returns-in_default-clause-error c = search rules

pub returns-clause-error : goal.returns-clause-error
returns-clause-error c = search rules
