use Rattle.std.proofs.Common.{◌≡◌, ◌∙◌, ap, sym, subst, refl, map, List}
use Rattle.std.specs.Prelude.{pos, IfOk}
use Rattle.cgl_num.specs.Fraction.{Fraction, lowest}
use Rattle.cgl_num.specs.Gcd.{gcd}
use Rattle.cgl_model.specs.declared.mip.Column.{Column}
use Rattle.cgl_model.specs.declared.mip.Model.{Model}
use Rattle.cgl_where.specs.PointFile.{is_too_fine, point_in, zero_fraction}
use Rattle.cgl_where.specs.Limits.{ArePositive}
use Rattle.cgl_where.specs.Carried.{carried_value}
use Rattle.cgl_where.proofs.StepLaws.{mapped_all, mapped_more}
use Rattle.cgl_where.proofs.carried.Carried.point.Goals as goal

zero_is : lowest (pos 0) (pos 1) ≡ zero_fraction
unfolding lowest gcd
zero_is = refl

pub loop-c-preserved : goal.loop-c-preserved
loop-c-preserved c =
    let column = c.c-item.result in
    let value : Column → Fraction = λ x. carried_value c.args.columns.now c.args.self.now.named.items x.name in
    let is_value : c.unwrap_or.result ≡ value column = cc (zero_is) in
    mapped_more value c.as_slice-c-items.result.now c.loop-c.c-index column _ _ _ c.loop-c-test.true c.c-item.is is_value c.loop-c.invariant c.in-Ok.ensures.items

pub point_in-requires-clause-positive : goal.point_in-requires-clause-positive
point_in-requires-clause-positive c =
    let value : Column → Fraction = λ x. carried_value c.args.columns.now c.args.self.now.named.items x.name in
    let all : c.as_slice-2.result.now ≡ map value c.args.columns.now.cols =
    c.as_slice-2.ensures.value
    ∙ mapped_all value c.as_slice-c-items.result.now c.loop-c.c-index _ c.loop-c-test.false c.loop-c.invariant
    ∙ ap (map value) c.as_slice-c-items.ensures
    ∙ ap (λ (m : Model). map value m.cols) c.columns.view_is in
    subst ArePositive (sym all) c.requires.positive

pub point_in-requires-clause-within : goal.point_in-requires-clause-within
point_in-requires-clause-within c =
    let value : Column → Fraction = λ x. carried_value c.args.columns.now c.args.self.now.named.items x.name in
    let all : c.as_slice-2.result.now ≡ map value c.args.columns.now.cols =
    c.as_slice-2.ensures.value
    ∙ mapped_all value c.as_slice-c-items.result.now c.loop-c.c-index _ c.loop-c-test.false c.loop-c.invariant
    ∙ ap (map value) c.as_slice-c-items.ensures
    ∙ ap (λ (m : Model). map value m.cols) c.columns.view_is in
    ap is_too_fine all ∙ c.requires.within

pub returns : goal.returns
returns c =
    let value : Column → Fraction = λ x. carried_value c.args.columns.now c.args.self.now.named.items x.name in
    let all : c.as_slice-2.result.now ≡ map value c.args.columns.now.cols =
    c.as_slice-2.ensures.value
    ∙ mapped_all value c.as_slice-c-items.result.now c.loop-c.c-index _ c.loop-c-test.false c.loop-c.invariant
    ∙ ap (map value) c.as_slice-c-items.ensures
    ∙ ap (λ (m : Model). map value m.cols) c.columns.view_is in
    subst (λ (fs : List Fraction). IfOk c.point_in.result (λ x. x ≡ point_in fs)) all c.point_in.ensures
