use Rattle.std.proofs.Common.{rules, ◌-◌, ◌*◌, ◌+◌, pos, get_or, arith, ◌∙◌, drop, length, ap, ℕ}
use Rattle.std.specs.Prelude.{FitsSigned}
use Rattle.std.specs.Int.{w128}
use Rattle.std.proofs.lemmas.Int.{to_z-of_z}
use Rattle.cgl_knap.proofs.ValueLaws.{drop_both}
use Rattle.cgl_knap.proofs.ChoiceLaws.{least_room}
use Rattle.cgl_knap.proofs.WalkLaws.{rows_step}
use Rattle.cgl_knap.specs.LeastCost.{IsLeastTable}
use Rattle.cgl_knap.proofs.cover.fill.Goals as goal

pub add_choice-requires-clause-room : goal.add_choice-requires-clause-room
add_choice-requires-clause-room c =
    let i = c.loop-item.item - 1 in
    let fits : FitsSigned w128 (get_or c.args.costs.now i (pos 0)) = search rules in
    let cost_is = to_z-of_z w128 (get_or c.args.costs.now i (pos 0)) fits in
    simp cost_is (least_room c.args.weights.now c.args.costs.now c.loop-item.table i c.loop-item.item (omega arith) (omega arith) c.requires.size c.requires.costs c.requires.sum c.loop-item.invariant.table)

pub loop-item-preserved : goal.loop-item-preserved
loop-item-preserved c =
    let i = c.loop-item.item - 1 in
    let n = c.loop-item.item in
    let fits : FitsSigned w128 (get_or c.args.costs.now i (pos 0)) = search rules in
    let cost_is = to_z-of_z w128 (get_or c.args.costs.now i (pos 0)) fits in
    let table = simp cost_is at c.add_choice.ensures.table in
    let row = simp cost_is at c.add_choice.ensures.choice in
    record {
      size = search rules;
      choices = search rules;
      places = search rules;
      table = drop_both c.args.weights.now c.args.costs.now i n (λ ws cs. IsLeastTable ws cs c.add_choice.new.table) (omega arith) (omega arith) (omega arith)
          (table (drop n c.args.weights.now) (drop n c.args.costs.now) c.loop-item.invariant.table);
      rows = rows_step c.args.weights.now c.args.costs.now (length c.args.table.now) i n (i * length c.clear.new.table) (i * length c.clear.new.table + length c.clear.new.table - i * length c.clear.new.table)
          c.loop-item.choice c.add_choice.new.choice (omega arith) (omega arith) (omega arith)
          (c.loop-item.invariant.choices ∙ c.requires.choices) (omega (arith, c.add_choice.ensures.size)) (ap (λ (m : ℕ). i * m) c.loop-item.invariant.places) (omega arith)
          (row (drop n c.args.weights.now) (drop n c.args.costs.now) c.loop-item.invariant.table) c.loop-item.invariant.rows;
    }
