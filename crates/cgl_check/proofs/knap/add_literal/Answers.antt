use Rattle.std.proofs.Common.{◌≡◌, ◌∷◌, ◌<◌, ◌^◌, ℕ, ℤ, length, sym, subst, rules, arith}
use Rattle.std.specs.Int.{w128}
use Rattle.std.proofs.lemmas.Int.{to_z-of_z}
use Rattle.cgl_knap.specs.Greatest.{IsTable}
use Rattle.cgl_check.proofs.KnapValueLaws.{table_heavy}
use Rattle.cgl_check.proofs.knap.add_literal.Goals as goal

pub returns-in-Ok : goal.returns-in-Ok
returns-in-Ok c = λ weights values t.
    let value_is = to_z-of_z w128 c.args.value c.ranges.value in
    let weight_is : c.in-Ok.weight ≡ c.args.weight = omega (arith, c.in-Ok.ensures) in
    let table = c.add_item.new.table in
    let more = c.add_item.ensures weights values t in
    subst (λ (w : ℕ). IsTable (w ∷ weights) (c.args.value ∷ values) table) weight_is (subst (λ (v : ℤ). IsTable (c.in-Ok.weight ∷ weights) (v ∷ values) table) value_is more)

pub returns-in_default : goal.returns-in_default
returns-in_default c = λ weights values t.
    let small : length c.args.table.now < 2 ^ 64 = search rules in
    table_heavy c.args.weight c.args.value weights values c.args.table.now (omega (arith, small, c.in_default.ensures)) t
