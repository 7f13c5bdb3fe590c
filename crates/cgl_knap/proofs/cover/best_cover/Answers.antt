use Rattle.std.proofs.Common.{rules, ◌≡◌, ◌+◌, ◌-◌, ℕ, pos, get_or, arith, ◌∙◌, sym, subst, ap}
use Rattle.std.specs.Prelude.{FitsSigned, List, Bool, length}
use Rattle.std.specs.Int.{w128}
use Rattle.std.proofs.lemmas.Int.{ints, to_z-of_z}
use Rattle.cgl_knap.specs.Subset.{value_of}
use Rattle.cgl_knap.specs.Cover.{IsPick}
use Rattle.cgl_knap.specs.LeastCost.{picks, AreAllChoices}
use Rattle.cgl_knap.proofs.PickLaws.{least_none, least_some, pick_heavy}
use Rattle.cgl_knap.proofs.cover.best_cover.Goals as goal

pub returns-then-cost-lt0-clause-none : goal.returns-then-cost-lt0-clause-none
returns-then-cost-lt0-clause-none c =
    let need = c.args.cap + 1 in
    let cell : FitsSigned w128 (get_or c.fill.new.table need (pos 0)) = search rules in
    let cost_is = to_z-of_z w128 (get_or c.fill.new.table need (pos 0)) cell in
    let least_is = c.fill.ensures.table need (omega arith) in
    omega (arith, least_none c.args.weights.now c.args.costs.now need c.requires.costs c.requires.size (omega (arith, ints, cost_is, least_is)))

pub returns-clause-some : goal.returns-clause-some
returns-clause-some c =
    let need = c.args.cap + 1 in
    let cell : FitsSigned w128 (get_or c.fill.new.table need (pos 0)) = search rules in
    let cost_is = to_z-of_z w128 (get_or c.fill.new.table need (pos 0)) cell in
    let least_is = c.fill.ensures.table need (omega arith) in
    let best = least_some c.args.weights.now c.args.costs.now need c.requires.costs c.requires.size (omega (arith, ints, cost_is, least_is)) in
    omega (arith, pick_heavy c.args.weights.now c.args.costs.now need (picks c.args.weights.now c.args.costs.now need) best.0)

pub returns-clause-pick : goal.returns-clause-pick
returns-clause-pick c =
    let need = c.args.cap + 1 in
    let cell : FitsSigned w128 (get_or c.fill.new.table need (pos 0)) = search rules in
    let cost_is = to_z-of_z w128 (get_or c.fill.new.table need (pos 0)) cell in
    let least_is = c.fill.ensures.table need (omega arith) in
    let best = least_some c.args.weights.now c.args.costs.now need c.requires.costs c.requires.size (omega (arith, ints, cost_is, least_is)) in
    let sizes : length c.args.table.now ≡ length c.fill.new.table = omega arith in
    let choices = subst (λ (n : ℕ). AreAllChoices c.args.weights.now c.args.costs.now n c.fill.new.choice) sizes c.fill.ensures.choice in
    let there : length c.fill.new.table - 1 ≡ need = omega arith in
    let walked : c.walk.new.pick ≡ picks c.args.weights.now c.args.costs.now need =
    c.walk.ensures c.args.costs.now c.requires.size choices ∙ ap (picks c.args.weights.now c.args.costs.now) there in
    subst (λ (p : List Bool). IsPick c.args.weights.now c.args.costs.now need p) (sym walked) best.0

pub returns-clause-cost : goal.returns-clause-cost
returns-clause-cost c =
    let need = c.args.cap + 1 in
    let cell : FitsSigned w128 (get_or c.fill.new.table need (pos 0)) = search rules in
    let cost_is = to_z-of_z w128 (get_or c.fill.new.table need (pos 0)) cell in
    let least_is = c.fill.ensures.table need (omega arith) in
    let best = least_some c.args.weights.now c.args.costs.now need c.requires.costs c.requires.size (omega (arith, ints, cost_is, least_is)) in
    let sizes : length c.args.table.now ≡ length c.fill.new.table = omega arith in
    let choices = subst (λ (n : ℕ). AreAllChoices c.args.weights.now c.args.costs.now n c.fill.new.choice) sizes c.fill.ensures.choice in
    let there : length c.fill.new.table - 1 ≡ need = omega arith in
    let walked : c.walk.new.pick ≡ picks c.args.weights.now c.args.costs.now need =
    c.walk.ensures c.args.costs.now c.requires.size choices ∙ ap (picks c.args.weights.now c.args.costs.now) there in
    ap (value_of c.args.costs.now) walked ∙ best.1 ∙ sym least_is ∙ sym cost_is
