use Rattle.std.proofs.Common.{◌∙◌, sym}
use Rattle.std.specs.Int.{w128}
use Rattle.std.proofs.lemmas.Int.{to_z-of_z}
use Rattle.std.proofs.lemmas.Result.{IfOk-weaker}
use Rattle.cgl_gen.proofs.MemberLaws.{wide_answer, no_answer, cut_answer}
use Rattle.cgl_gen.proofs.rounding.answer.Goals as goal

pub returns-in-Err : goal.returns-in-Err
returns-in-Err c = wide_answer c.args.side.now c.args.point.now c.args.divisor c.args.cut c.in-Err.ensures.wide

pub returns-in-Ok-None : goal.returns-in-Ok-None
returns-in-Ok-None c = no_answer c.args.side.now c.args.point.now c.args.divisor c.args.cut c.in-Ok-None.ensures.fits (sym c.in-Ok-None.field-0-is ∙ c.in-Ok-None.ensures.value)

pub returns-in-Ok-Some : goal.returns-in-Ok-Some
returns-in-Ok-Some c =
    let divisor_is = to_z-of_z w128 c.args.divisor c.ranges.divisor in
    let value = sym c.in-Ok-Some.field-0-is ∙ c.in-Ok-Some.ensures.value in
    let is = cut_answer c.args.side.now c.args.point.now c.args.divisor _ c.args.cut c.in-Ok-Some.violation divisor_is c.in-Ok-Some.ensures.fits value in
    IfOk-weaker c.derived.result _ _ (λ a e. e ∙ is) c.derived.ensures
