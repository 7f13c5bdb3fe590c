use Rattle.std.specs.Int.{w128}
use Rattle.std.proofs.lemmas.Int.{to_z-of_z}
use Rattle.cgl_model.proofs.BuildLaws.{narrow_sides}
use Rattle.cgl_model.proofs.ShapeLaws.{end_is, narrow_shape, wide_lower, wide_upper}
use Rattle.cgl_model.proofs.row_shape.shape_of.Goals as goal
use Rattle.cgl_model.proofs.row_shape.shape_of.Goals.{then-is_wide-via-then-is_wide, then-is_wide-via-else-is_wide+then-is_wide-2}

pub lower_end-lo-requires : goal.lower_end-lo-requires
lower_end-lo-requires c =
    let sides = narrow_sides c.args.numbers.now c.requires.narrow in
    record { rhs = rw (to_z-of_z w128 c.args.numbers.now.rhs sides.fits) sides.right; range = sides.range_each }

pub upper_end-up-requires : goal.upper_end-up-requires
upper_end-up-requires c =
    let sides = narrow_sides c.args.numbers.now c.requires.narrow in
    record { rhs = rw (to_z-of_z w128 c.args.numbers.now.rhs sides.fits) sides.right; range = sides.range_each }

pub returns-then-is_wide-clause-value : goal.returns-then-is_wide-clause-value
returns-then-is_wide-clause-value c =
    let sides = narrow_sides c.args.numbers.now c.requires.narrow in
    let lo = rw (to_z-of_z w128 c.args.numbers.now.rhs sides.fits) at c.lower_end-lo.ensures in
    let up = rw (to_z-of_z w128 c.args.numbers.now.rhs sides.fits) at c.upper_end-up.ensures.value in
    elim c.then-is_wide.branch [
      | then-is_wide-via-then-is_wide w ↦ wide_lower c.args.kind c.args.numbers.now (end_is _ _ _ _ c.is_wide.ensures lo w.if-is_wide.true)
      | then-is_wide-via-else-is_wide+then-is_wide-2 w ↦ wide_upper c.args.kind c.args.numbers.now (end_is _ _ _ _ w.is_wide-else-is_wide.ensures up w.if-is_wide-2.true)
    ]

pub returns-clause-value : goal.returns-clause-value
returns-clause-value c =
    let sides = narrow_sides c.args.numbers.now c.requires.narrow in
    let lo = rw (to_z-of_z w128 c.args.numbers.now.rhs sides.fits) at c.lower_end-lo.ensures in
    let up = rw (to_z-of_z w128 c.args.numbers.now.rhs sides.fits) at c.upper_end-up.ensures.value in
    narrow_shape c.args.kind c.args.numbers.now c.in_ok-form_of_numbers.field-0 c.requires.narrow
    (end_is _ _ _ _ c.is_wide.ensures lo c.if-is_wide.false)
    (end_is _ _ _ _ c.is_wide-else-is_wide.ensures up c.if-is_wide-2.false)
    c.in_ok-form_of_numbers.ensures.value
