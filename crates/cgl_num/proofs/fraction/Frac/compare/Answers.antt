use Rattle.std.proofs.Common.{◌∙◌}
use Rattle.std.specs.Int.{w128}
use Rattle.std.proofs.lemmas.Int.{to_z-of_z}
use Rattle.cgl_num.proofs.CompareLaws.{IsPair, den_above, order_below, order_greater, order_less, order_not_below}
use Rattle.cgl_num.proofs.fraction.Frac.compare.Goals as goal

pub compare_ratios-requires-clause-left : goal.compare_ratios-requires-clause-left
compare_ratios-requires-clause-left c = den_above c.args.o _ _ c.den-2.ensures.lowest (to_z-of_z w128 c.den-2.result (record { sfits = c.den-2.type_inv }) ∙ c.den-2.ensures.den) c.unsigned_abs-right_den.ensures.value

pub compare_ratios-requires-clause-right : goal.compare_ratios-requires-clause-right
compare_ratios-requires-clause-right c = den_above c.args.self _ _ c.den.ensures.lowest (to_z-of_z w128 c.den.result (record { sfits = c.den.type_inv }) ∙ c.den.ensures.den) c.unsigned_abs-left_den.ensures.value

pub compare_ratios-requires-in-false-false-clause-left : goal.compare_ratios-requires-in-false-false-clause-left
compare_ratios-requires-in-false-false-clause-left c = den_above c.args.self _ _ c.den.ensures.lowest (to_z-of_z w128 c.den.result (record { sfits = c.den.type_inv }) ∙ c.den.ensures.den) c.unsigned_abs-left_den.ensures.value

pub compare_ratios-requires-in-false-false-clause-right : goal.compare_ratios-requires-in-false-false-clause-right
compare_ratios-requires-in-false-false-clause-right c = den_above c.args.o _ _ c.den-2.ensures.lowest (to_z-of_z w128 c.den-2.result (record { sfits = c.den-2.type_inv }) ∙ c.den-2.ensures.den) c.unsigned_abs-right_den.ensures.value

pub returns-in-true-true-clause-order : goal.returns-in-true-true-clause-order
returns-in-true-true-clause-order c =
    let is : IsPair c.args.self c.args.o _ _ _ _ c.unsigned_abs-in-true-true.result c.unsigned_abs-left_den.result c.unsigned_abs.result c.unsigned_abs-right_den.result = record {
      left = c.num-left.ensures.lowest;
      right = c.num-right.ensures.lowest;
      num = to_z-of_z w128 c.num-left.result (record { sfits = c.num-left.type_inv }) ∙ c.num-left.ensures.num;
      den = to_z-of_z w128 c.den.result (record { sfits = c.den.type_inv }) ∙ c.den.ensures.den;
      other_num = to_z-of_z w128 c.num-right.result (record { sfits = c.num-right.type_inv }) ∙ c.num-right.ensures.num;
      other_den = to_z-of_z w128 c.den-2.result (record { sfits = c.den-2.type_inv }) ∙ c.den-2.ensures.den;
      num_size = c.unsigned_abs-in-true-true.ensures.value;
      den_size = c.unsigned_abs-left_den.ensures.value;
      other_num_size = c.unsigned_abs.ensures.value;
      other_den_size = c.unsigned_abs-right_den.ensures.value;
    } in
    c.compare_ratios.ensures ∙ order_below c.args.self c.args.o _ _ _ _ _ _ _ _ is c.in-true-true.is-0 c.in-true-true.is-1

pub returns-in-true-false-clause-order : goal.returns-in-true-false-clause-order
returns-in-true-false-clause-order c =
    order_less c.args.self c.args.o _ _ c.num-left.ensures.lowest c.num-right.ensures.lowest
    (to_z-of_z w128 c.num-left.result (record { sfits = c.num-left.type_inv }) ∙ c.num-left.ensures.num) (to_z-of_z w128 c.num-right.result (record { sfits = c.num-right.type_inv }) ∙ c.num-right.ensures.num)
    c.in-true-false.is-0 c.in-true-false.is-1

pub returns-in-false-true-clause-order : goal.returns-in-false-true-clause-order
returns-in-false-true-clause-order c =
    order_greater c.args.self c.args.o _ _ c.num-left.ensures.lowest c.num-right.ensures.lowest
    (to_z-of_z w128 c.num-left.result (record { sfits = c.num-left.type_inv }) ∙ c.num-left.ensures.num) (to_z-of_z w128 c.num-right.result (record { sfits = c.num-right.type_inv }) ∙ c.num-right.ensures.num)
    c.in-false-true.is-0 c.in-false-true.is-1

pub returns-in-false-false-clause-order : goal.returns-in-false-false-clause-order
returns-in-false-false-clause-order c =
    let is : IsPair c.args.self c.args.o _ _ _ _ c.unsigned_abs-in-false-false.result c.unsigned_abs-left_den.result c.unsigned_abs-in-false-false-2.result c.unsigned_abs-right_den.result = record {
      left = c.num-left.ensures.lowest;
      right = c.num-right.ensures.lowest;
      num = to_z-of_z w128 c.num-left.result (record { sfits = c.num-left.type_inv }) ∙ c.num-left.ensures.num;
      den = to_z-of_z w128 c.den.result (record { sfits = c.den.type_inv }) ∙ c.den.ensures.den;
      other_num = to_z-of_z w128 c.num-right.result (record { sfits = c.num-right.type_inv }) ∙ c.num-right.ensures.num;
      other_den = to_z-of_z w128 c.den-2.result (record { sfits = c.den-2.type_inv }) ∙ c.den-2.ensures.den;
      num_size = c.unsigned_abs-in-false-false.ensures.value;
      den_size = c.unsigned_abs-left_den.ensures.value;
      other_num_size = c.unsigned_abs-in-false-false-2.ensures.value;
      other_den_size = c.unsigned_abs-right_den.ensures.value;
    } in
    c.compare_ratios-in-false-false.ensures ∙ order_not_below c.args.self c.args.o _ _ _ _ _ _ _ _ is c.in-false-false.is-0 c.in-false-false.is-1
