use Rattle.std.proofs.Common.{rules, ◌≡◌, ℤ, pos, ◌∙◌, ap, to_z, of_z, arith, ◌++◌}
use Rattle.std.specs.Prelude.{FitsSigned, ◌-ℤ◌}
use Rattle.std.specs.Int.{w128}
use Rattle.std.proofs.Math.IntN.{neg_ℤ}
use Rattle.std.proofs.lemmas.Int.{ints}
use Rattle.cgl_model.specs.IntegerForm.{lower_bound_side}
use Rattle.cgl_model.proofs.SideListLaws.{upper_push}
use Rattle.cgl_model.proofs.side_list.add_bounds.Goals as goal

minus : (z : ℤ) → FitsSigned w128 z → FitsSigned w128 (neg_ℤ z) → to_z w128 (of_z w128 (pos 0 -ℤ to_z w128 (of_z w128 z))) ≡ neg_ℤ z
minus z h k = omega (arith, ints, h, k)

pub returns-in_ok-add_bound-2 : goal.returns-in_ok-add_bound-2
returns-in_ok-add_bound-2 c =
    let num = c.num-in-Some-up.ensures.num in
    let den = c.den-in-Some-up.ensures.den in
    let lowest = c.num-in-Some-up.ensures.lowest in
    let fits : FitsSigned w128 c.num-in-Some-up.result = search rules in
    let fits' : FitsSigned w128 c.den-in-Some-up.result = search rules in
    let back : FitsSigned w128 (neg_ℤ c.num-in-Some-up.result) = record { sfits = omega (arith, ints, num, lowest.narrow_num) } in
    let back' : FitsSigned w128 (neg_ℤ c.den-in-Some-up.result) = record { sfits = omega (arith, ints, den, lowest.narrow_den) } in
    let lower : c.match-column.sides ≡ c.args.sides.now ++ lower_bound_side c.args.j c.args.column.now.lo = search rules in
    upper_push c.args.sides.now c.match-column.sides _ c.args.j c.args.column.now c.in-Some-up.limit _ _ c.in-Some-up.is lower c.in_ok-add_bound-2.ensures
    (minus c.den-in-Some-up.result fits' back' ∙ ap neg_ℤ (den ∙ ap (λ f. f.den) c.bound_of-bound-in-Some-up.ensures.value))
    (minus c.num-in-Some-up.result fits back ∙ ap neg_ℤ (num ∙ ap (λ f. f.num) c.bound_of-bound-in-Some-up.ensures.value))

pub returns-in_default-up : goal.returns-in_default-up
returns-in_default-up c = search rules
