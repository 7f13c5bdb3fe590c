use Rattle.std.proofs.Common.{rules, ◌≡◌, ◌+◌, ◌∙◌, pos, get_or, arith, drop, length, ◌++◌}
use Rattle.std.specs.Prelude.{FitsSigned}
use Rattle.std.specs.Int.{w128}
use Rattle.std.proofs.lemmas.Int.{to_z-of_z}
use Rattle.std.proofs.lemmas.List.{length-take-le}
use Rattle.cgl_knap.proofs.TableLaws.{table_front, table_place}
use Rattle.cgl_knap.proofs.table.best_value.Goals as goal

pub returns-clause-value : goal.returns-clause-value
returns-clause-value c =
    let places = c.args.cap + 1 in
    let rest = drop places c.args.table.now in
    let size : length c.fill.new.table ≡ places = c.fill.auto.table ∙ length-take-le places c.args.table.now (omega arith) in
    let fits : FitsSigned w128 (get_or (c.fill.new.table ++ rest) c.args.cap (pos 0)) = search rules in
    rw (to_z-of_z w128 (get_or (c.fill.new.table ++ rest) c.args.cap (pos 0)) fits)
    (table_place c.args.weights.now c.args.values.now c.fill.new.table rest c.args.cap (omega (arith, size)) c.fill.ensures)

pub returns-clause-table : goal.returns-clause-table
returns-clause-table c =
    let places = c.args.cap + 1 in
    let size : length c.fill.new.table ≡ places = c.fill.auto.table ∙ length-take-le places c.args.table.now (omega arith) in
    table_front c.args.weights.now c.args.values.now c.fill.new.table (drop places c.args.table.now) places size c.fill.ensures
