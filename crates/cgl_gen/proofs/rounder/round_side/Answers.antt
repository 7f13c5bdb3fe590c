use Rattle.std.proofs.Common.{◌≡◌, ◌∙◌, sym, ap, subst, length, ℕ}
use Rattle.std.specs.Prelude.{slice_get, IfOk}
use Rattle.cgl_model.specs.declared.places.Side.{Side}
use Rattle.cgl_model.specs.IntegerForm.{forms_of}
use Rattle.cgl_model.specs.Inequality.{AreColumnsBelow}
use Rattle.cgl_model.proofs.ColumnLaws.{sides_below}
use Rattle.cgl_derive.specs.declared.answer.Answer.{Answer}
use Rattle.cgl_gen.specs.RoundMember.{answer_at, round_member}
use Rattle.cgl_gen.specs.SidePlaces.{all_at}
use Rattle.cgl_gen.proofs.ItemLaws.{item_at, no_item_at}
use Rattle.cgl_gen.proofs.rounder.round_side.Goals as goal

pub round-requires : goal.round-requires
round-requires c =
    let m = c.args.site.now.model in
    let lookup = c.in-Some.ensures.lookup in
    let sides : c.sides.result.now ≡ (forms_of m).sides = c.sides.ensures ∙ ap (λ f. f.sides) c.forms.ensures.value in
    let at = ap (λ s. slice_get s c.args.number) (sym sides) ∙ item_at c.sides.result.now c.args.number c.in-Some.side.now lookup.3.0 lookup.1 in
    let below = all_at (λ (s : Side). AreColumnsBelow (length m.cols) s.ineq.terms) (forms_of m).sides c.args.number c.in-Some.side.now (sides_below m) at in
    let count : length m.cols ≡ length c.point.result.now.p = sym (ap (λ x. length x.p) c.point.ensures.value ∙ c.point.ensures.setting.point) in
    record { columns = subst (λ (n : ℕ). AreColumnsBelow n c.in-Some.side.now.ineq.terms) count below }

pub returns-in-None : goal.returns-in-None
returns-in-None c =
    let s = c.args.site.now in
    let sides : c.sides.result.now ≡ (forms_of s.model).sides = c.sides.ensures ∙ ap (λ f. f.sides) c.forms.ensures.value in
    let at = ap (λ z. slice_get z c.args.number) (sym sides) ∙ no_item_at c.sides.result.now c.args.number c.in-None.ensures.lookup.3 in
    sym (ap (answer_at s.model s.point) at)

pub returns-in-Some : goal.returns-in-Some
returns-in-Some c =
    let s = c.args.site.now in
    let lookup = c.in-Some.ensures.lookup in
    let sides : c.sides.result.now ≡ (forms_of s.model).sides = c.sides.ensures ∙ ap (λ f. f.sides) c.forms.ensures.value in
    let at = ap (λ z. slice_get z c.args.number) (sym sides) ∙ item_at c.sides.result.now c.args.number c.in-Some.side.now lookup.3.0 lookup.1 in
    let said : round_member c.model.result.now c.point.result.now c.in-Some.side.now ≡ answer_at s.model s.point (slice_get (forms_of s.model).sides c.args.number) =
    ap (λ z. round_member z c.point.result.now c.in-Some.side.now) c.model.ensures.value ∙ ap (λ z. round_member s.model z c.in-Some.side.now) c.point.ensures.value ∙ sym (ap (answer_at s.model s.point) at) in
    subst (λ (z : Answer). IfOk c.round.result (λ answer. answer ≡ z)) said c.round.ensures
