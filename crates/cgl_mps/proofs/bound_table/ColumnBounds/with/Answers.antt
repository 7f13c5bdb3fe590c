use Rattle.std.proofs.Common.{◌≡◌, ◌∙◌, sym, ap, ap₂, ◌||◌, ◌&&◌, cond, not, None, is_some, unwrap_or}
use Rattle.cgl_decode.specs.Sections.{Bound}
use Rattle.cgl_decode.specs.Models.{is_below_zero, is_upper, lower_by, makes_integer, upper_by, value_in}
use Rattle.cgl_decode.specs.Reading.{setting}
use Rattle.cgl_mps.proofs.BoundTableLaws.{with_is}
use Rattle.cgl_mps.proofs.bound_table.ColumnBounds.with.Goals as goal
use Rattle.cgl_mps.proofs.bound_table.ColumnBounds.with.Goals.{then-self, else-self, then-self-2, else-self-2}

pub returns : goal.returns
returns c = λ bounds are.
    let before = c.args.self in
    let b = c.args.bound.now in
    let kind : c.bound.inside.kind ≡ b.kind = ap (λ (x : Bound). x.kind) c.bound.view_is in
    let value : c.value_in-value.result ≡ value_in b = c.value_in-value.ensures in
    let set : c.lower_by-lower.result ≡ setting b = c.lower_by-lower.ensures ∙ ap₂ lower_by kind value in
    let integer : c.if-self.result ≡ (before.integer || makes_integer b.kind) =
    elim c.if-self.branch [
      | then-self w ↦ w.result-is ∙ w.if-self.true ∙ sym (ap (λ x. x || makes_integer b.kind) w.if-self.true)
      | else-self w ↦ w.result-is ∙ w.is_integer.ensures ∙ ap makes_integer kind ∙ sym (ap (λ x. x || makes_integer b.kind) w.if-self.false)
    ] in
    let is_set : c.if-self-2.result ≡ (before.is_set || is_some (setting b)) =
    elim c.if-self-2.branch [
      | then-self-2 w ↦ w.result-is ∙ w.if-self-2.true ∙ sym (ap (λ x. x || is_some (setting b)) w.if-self-2.true)
      | else-self-2 w ↦ w.result-is ∙ w.is_some.ensures ∙ ap is_some set ∙ sym (ap (λ x. x || is_some (setting b)) w.if-self-2.false)
    ] in
    with_is bounds b before _ _ _ _ are
    (c.unwrap_or.ensures
    ∙ ap₂ unwrap_or set (c.lower_unset.ensures ∙ ap₂ (λ k v. cond ((is_upper k && is_below_zero v) && not before.is_set) None before.lower) kind value))
    (c.unwrap_or-2.ensures ∙ ap (λ o. unwrap_or o before.upper) (c.upper_by.ensures ∙ ap₂ upper_by kind value))
    integer is_set
