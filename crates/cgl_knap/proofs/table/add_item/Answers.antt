use Rattle.std.proofs.Common.{rules, ◌-◌, pos, get_or, arith}
use Rattle.std.specs.Prelude.{◌+ℤ◌, FitsSigned}
use Rattle.std.specs.Int.{w128}
use Rattle.std.proofs.lemmas.Int.{ints, to_z-of_z}
use Rattle.cgl_knap.proofs.TableLaws.{more_step, more_from_end, table_more}
use Rattle.cgl_knap.proofs.table.add_item.Goals as goal

pub loop-cap-init : goal.loop-cap-init
loop-cap-init c =
    let value_is = to_z-of_z w128 c.args.value c.ranges.value in
    rw value_is (record { size = search rules; more = more_from_end c.args.weight c.args.value c.args.table.now })

pub overflow_add-value : goal.overflow_add-value
overflow_add-value c =
    let value_is = to_z-of_z w128 c.args.value c.ranges.value in
    let rest = c.loop-cap.cap - 1 - c.args.weight in
    let cell : FitsSigned w128 (get_or c.loop-cap.table rest (pos 0)) = search rules in
    let rest_is = to_z-of_z w128 (get_or c.loop-cap.table rest (pos 0)) cell in
    let same = (c.loop-cap.invariant.more rest (omega arith)).untouched (omega arith) in
    let room = c.requires.room rest (omega arith) in
    simp (value_is, rest_is) (omega (arith, ints, same, room, cell, c.requires.value))

pub loop-cap-preserved : goal.loop-cap-preserved
loop-cap-preserved c =
    let value_is = to_z-of_z w128 c.args.value c.ranges.value in
    let at = c.loop-cap.cap - 1 in
    let rest = at - c.args.weight in
    let here : FitsSigned w128 (get_or c.loop-cap.table at (pos 0)) = search rules in
    let cell : FitsSigned w128 (get_or c.loop-cap.table rest (pos 0)) = search rules in
    let same = (c.loop-cap.invariant.more rest (omega arith)).untouched (omega arith) in
    let room = c.requires.room rest (omega arith) in
    let sum : FitsSigned w128 (c.args.value +ℤ get_or c.loop-cap.table rest (pos 0)) = omega (arith, ints, same, room, cell, c.requires.value) in
    let fits : FitsSigned w128 c.max.result = search rules in
    let here_is = to_z-of_z w128 (get_or c.loop-cap.table at (pos 0)) here in
    let rest_is = to_z-of_z w128 (get_or c.loop-cap.table rest (pos 0)) cell in
    let sum_is = to_z-of_z w128 (c.args.value +ℤ get_or c.loop-cap.table rest (pos 0)) sum in
    let best_is = to_z-of_z w128 c.max.result fits in
    let greater = simp (value_is, here_is, rest_is, sum_is) at c.max.ensures.value in
    let more = simp value_is at c.loop-cap.invariant.more in
    simp (value_is, best_is) (record {
      size = search rules;
      more = more_step c.args.weight c.args.value c.loop-cap.cap at c.args.table.now c.loop-cap.table c.max.result (omega arith) (omega arith) (omega arith) (omega arith) more greater;
    })

pub returns : goal.returns
returns c =
    let value_is = to_z-of_z w128 c.args.value c.ranges.value in
    let more = simp value_is at c.loop-cap.invariant.more in
    λ weights values t. table_more c.args.weight c.args.value c.loop-cap.cap c.args.table.now c.loop-cap.table weights values (omega arith) (omega arith) more t
