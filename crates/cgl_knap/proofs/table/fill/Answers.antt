use Rattle.std.proofs.Common.{rules, ◌≡◌, ◌-◌, ℕ, pos, get_or, arith, [], drop, subst}
use Rattle.std.specs.Prelude.{FitsSigned}
use Rattle.std.specs.Int.{w128}
use Rattle.std.proofs.lemmas.Int.{to_z-of_z}
use Rattle.std.proofs.Math.Seq.{drop-length}
use Rattle.cgl_knap.specs.Greatest.{IsTable}
use Rattle.cgl_knap.proofs.ValueLaws.{drop_both}
use Rattle.cgl_knap.proofs.TableLaws.{next_room, table_all}
use Rattle.cgl_knap.proofs.table.fill.Goals as goal

pub loop-item-init : goal.loop-item-init
loop-item-init c =
    let no_weights = drop-length c.args.weights.now in
    let no_values = subst (λ (n : ℕ). drop n c.args.values.now ≡ []) c.requires.size (drop-length c.args.values.now) in
    rw (no_weights, no_values) c.clear.ensures

pub add_item-requires-clause-room : goal.add_item-requires-clause-room
add_item-requires-clause-room c =
    let i = c.loop-item.item - 1 in
    let fits : FitsSigned w128 (get_or c.args.values.now i (pos 0)) = search rules in
    let value_is = to_z-of_z w128 (get_or c.args.values.now i (pos 0)) fits in
    simp value_is (next_room c.args.weights.now c.args.values.now c.loop-item.table i c.loop-item.item (omega arith) (omega arith) c.requires.values c.requires.sum c.loop-item.invariant)

pub loop-item-preserved : goal.loop-item-preserved
loop-item-preserved c =
    let i = c.loop-item.item - 1 in
    let n = c.loop-item.item in
    let fits : FitsSigned w128 (get_or c.args.values.now i (pos 0)) = search rules in
    let value_is = to_z-of_z w128 (get_or c.args.values.now i (pos 0)) fits in
    let more = simp value_is at c.add_item.ensures in
    drop_both c.args.weights.now c.args.values.now i n (λ ws vs. IsTable ws vs c.add_item.new.table) (omega arith) (omega arith) (omega arith)
    (more (drop n c.args.weights.now) (drop n c.args.values.now) c.loop-item.invariant)

pub returns : goal.returns
returns c = table_all c.args.weights.now c.args.values.now c.loop-item.table c.loop-item.item (omega arith) c.loop-item.invariant
