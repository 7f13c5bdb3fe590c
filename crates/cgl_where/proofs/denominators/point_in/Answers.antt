use Rattle.std.proofs.Common.{◌≡◌, ◌∙◌, arith, rules, sym, Some, None}
use Rattle.std.specs.Int.{w128}
use Rattle.std.specs.Int.RustNames.{FitsSigned}
use Rattle.std.proofs.lemmas.Int.{to_z-of_z, to_z_pos}
use Rattle.cgl_where.specs.PointFile.{common_denominator, numerator_over}
use Rattle.cgl_where.proofs.LcmLaws.{fits}
use Rattle.cgl_where.proofs.PointLaws.{number_fits, point_is}
use Rattle.cgl_where.proofs.StepLaws.{mapped_all, mapped_more}
use Rattle.cgl_where.proofs.denominators.point_in.Goals as goal

pub unreachable-requires-in_default-numerator_over : goal.unreachable-requires-in_default-numerator_over
unreachable-requires-in_default-numerator_over c =
    let found : Some (numerator_over c.in-Some.d c.f-item.result) ≡ None =
    number_fits c.args.values.now c.in-Some.d c.loop-f.f-index c.f-item.result c.requires.within c.in-Some.ensures.value c.loop-f-test.true c.f-item.is
    ∙ sym c.numerator_over.ensures
    ∙ c.in_default-numerator_over.is in
    cc

pub loop-f-preserved : goal.loop-f-preserved
loop-f-preserved c =
    let number = c.in-Some-numerator_over.number in
    let fits : FitsSigned w128 number = search rules in
    let found : Some number ≡ Some (numerator_over c.in-Some.d c.f-item.result) =
    sym c.in-Some-numerator_over.is
    ∙ c.numerator_over.ensures
    ∙ sym (number_fits c.args.values.now c.in-Some.d c.loop-f.f-index c.f-item.result c.requires.within c.in-Some.ensures.value c.loop-f-test.true c.f-item.is) in
    let is : number ≡ numerator_over c.in-Some.d c.f-item.result = cc in
    mapped_more (numerator_over c.in-Some.d) c.args.values.now c.loop-f.f-index c.f-item.result _ _ _ c.loop-f-test.true c.f-item.is (to_z-of_z w128 number fits ∙ is) c.loop-f.invariant
    c.in-Ok.ensures.items

pub returns : goal.returns
returns c =
    let fit = fits (common_denominator c.args.values.now) c.in-Some.d c.in-Some.ensures.value in
    point_is c.args.values.now c.in-Some.d c.new.result c.in-Some.ensures.value
    (c.new.ensures.numerators ∙ c.from_vec.ensures ∙ mapped_all (numerator_over c.in-Some.d) c.args.values.now c.loop-f.f-index _ c.loop-f-test.false c.loop-f.invariant)
    (c.new.ensures.denominator ∙ to_z_pos w128 c.in-Some.d (omega (arith, fit.0, fit.1)))
