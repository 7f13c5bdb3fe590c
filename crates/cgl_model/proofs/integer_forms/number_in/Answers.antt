use Rattle.std.proofs.Common.{◌≤◌, ◌∙◌, sym, subst, arith}
use Rattle.cgl_model.specs.declared.places.Side.{Side}
use Rattle.cgl_model.specs.PlaceOrder.{rank}
use Rattle.cgl_model.proofs.PlaceLaws.{equal_place, searched, searched_all, searched_apart}
use Rattle.cgl_model.proofs.integer_forms.number_in.Goals as goal

pub returns-then-number-sides : goal.returns-then-number-sides
returns-then-number-sides c = searched_all c.args.place c.args.sides.now c.sides_before-number.result (omega arith) c.sides_before-number.ensures.before

pub returns-then-eq : goal.returns-then-eq
returns-then-eq c =
    searched c.args.place c.args.sides.now c.sides_before-number.result c.index-sides-number.result (omega arith) c.index-sides-number.is c.sides_before-number.ensures.before
    (sym (equal_place c.args.place c.index-sides-number.result.place) ∙ sym c.eq.ensures ∙ c.if-eq.true)

pub returns-else-eq : goal.returns-else-eq
returns-else-eq c =
    let F : Side → Type 0 = λ s. rank c.args.place ≤ rank s.place in
    let least = subst F (sym c.index-sides-number.is) (c.sides_before-number.ensures.after c.sides_before-number.result c.index-sides-number.result (omega arith) (omega arith)) in
    searched_apart c.args.place c.args.sides.now c.sides_before-number.result c.index-sides-number.result c.requires.order (omega arith) c.index-sides-number.is c.sides_before-number.ensures.before
    least (sym (equal_place c.args.place c.index-sides-number.result.place) ∙ sym c.eq.ensures ∙ c.if-eq.false)
