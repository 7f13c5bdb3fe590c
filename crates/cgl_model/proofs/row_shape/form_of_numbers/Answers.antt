use Rattle.std.proofs.Common.{◌∷◌, ◌∙◌, ap}
use Rattle.std.specs.Prelude.{option_to_list, unsigned_abs}
use Rattle.std.specs.Int.{w128}
use Rattle.std.proofs.lemmas.Int.{to_z-of_z}
use Rattle.cgl_model.proofs.BuildLaws.{narrow_at, narrow_sides}
use Rattle.cgl_model.proofs.ShapeLaws.{form_made}
use Rattle.cgl_model.proofs.row_shape.form_of_numbers.Goals as goal

pub divide_terms-requires-clause-narrow : goal.divide_terms-requires-clause-narrow
divide_terms-requires-clause-narrow c =
    λ k d h. narrow_at c.as_slice.result.now (c.args.numbers.now.rhs ∷ option_to_list c.args.numbers.now.range) k d (rw c.as_slice.ensures c.requires.narrow) h

pub divide-rhs-requires-clause-narrow : goal.divide-rhs-requires-clause-narrow
divide-rhs-requires-clause-narrow c =
    let sides = narrow_sides c.args.numbers.now c.requires.narrow in
    rw (to_z-of_z w128 c.args.numbers.now.rhs sides.fits) sides.right

pub divide_range-range-requires-clause-narrow : goal.divide_range-range-requires-clause-narrow
divide_range-range-requires-clause-narrow c = (narrow_sides c.args.numbers.now c.requires.narrow).range_each

pub returns-clause-value : goal.returns-clause-value
returns-clause-value c =
    let sides = narrow_sides c.args.numbers.now c.requires.narrow in
    let divisor = ap unsigned_abs (to_z-of_z w128 c.divisor-divisor.result (record { sfits = c.divisor-divisor.type_inv }) ∙ c.divisor-divisor.ensures) in
    let read = to_z-of_z w128 c.divide-rhs.result (record { sfits = c.divide-rhs.type_inv }) in
    let rhs = read ∙ (rw (to_z-of_z w128 c.args.numbers.now.rhs sides.fits) at c.divide-rhs.ensures.value) in
    form_made c.args.kind c.args.numbers.now _ _ c.as_slice.result.now _ _ c.divide_range-range.result _ _ divisor c.as_slice.ensures c.in_ok-coeffs.ensures rhs
    c.divide_range-range.ensures.value c.lower_end.ensures c.upper_end.ensures.value

pub returns-clause-narrow : goal.returns-clause-narrow
returns-clause-narrow c = c.upper_end.ensures.narrow
