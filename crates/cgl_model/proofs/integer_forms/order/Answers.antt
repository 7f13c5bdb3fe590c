use Rattle.std.proofs.Common.{◌+◌, ◌*◌, ◌^◌, ◌∙◌, ap, sym}
use Rattle.cgl_model.specs.PlaceOrder.{rank}
use Rattle.cgl_model.proofs.integer_forms.order.Goals as goal

pub returns-in-Row : goal.returns-in-Row
returns-in-Row c = ap (λ n. 2 * c.in-Row.row + n) c.end_order.ensures ∙ ap rank (sym c.in-Row.is)

pub returns-in-Bound : goal.returns-in-Bound
returns-in-Bound c = ap (λ n. 2 ^ 33 + (2 * c.in-Bound.column + n)) c.end_order-in-Bound.ensures ∙ ap rank (sym c.in-Bound.is)
