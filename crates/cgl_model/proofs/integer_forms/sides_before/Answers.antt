use Rattle.std.proofs.Common.{◌+◌, ◌-◌, ◌/◌, ◌<◌, length, arith}
use Rattle.cgl_model.proofs.PlaceLaws.{after_middle, before_middle}
use Rattle.cgl_model.proofs.integer_forms.sides_before.Goals as goal

pub loop-low-preserved-then-order-target : goal.loop-low-preserved-then-order-target
loop-low-preserved-then-order-target c =
    let middle = c.loop-low.low + (c.loop-low.high - c.loop-low.low) / 2 in
    let within : middle < length c.args.sides.now = omega arith in
    record {
      order = omega arith;
      within = omega arith;
      before = before_middle c.args.sides.now middle c.order-target.result c.index-sides-middle.result c.requires within (omega (arith, c.order.ensures));
      after = c.loop-low.invariant.after;
    }

pub loop-low-preserved : goal.loop-low-preserved
loop-low-preserved c =
    let middle = c.loop-low.low + (c.loop-low.high - c.loop-low.low) / 2 in
    let within : middle < length c.args.sides.now = omega arith in
    record {
      order = omega arith;
      within = omega arith;
      before = c.loop-low.invariant.before;
      after = after_middle c.args.sides.now middle c.order-target.result c.index-sides-middle.result c.requires within (omega (arith, c.order.ensures));
    }
