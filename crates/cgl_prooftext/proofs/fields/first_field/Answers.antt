use Rattle.std.proofs.Common.{◌≡◌, ◌∙◌, length, arith}
use Rattle.cgl_prooftext.proofs.FieldLaws.{last_field, behind_field}
use Rattle.cgl_prooftext.proofs.fields.first_field.Goals as goal

pub returns-then-end-line : goal.returns-then-end-line
returns-then-end-line c = behind_field c.args.line.now c.space_place-end.result c.space_place-end.ensures.place c.if-end-line.true

pub returns : goal.returns
returns c =
    let is : length c.args.line.now ≡ c.space_place-end.result = omega arith in
    last_field c.args.line.now (is ∙ c.space_place-end.ensures.place)
