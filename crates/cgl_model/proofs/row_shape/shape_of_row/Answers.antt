use Rattle.std.proofs.Common.{◌∙◌, subst, sym}
use Rattle.std.proofs.lemmas.Result.{IfOk-weaker}
use Rattle.cgl_model.specs.declared.row_numbers.RowNumbers.{RowNumbers}
use Rattle.cgl_model.specs.RowEntries.{RiseFrom}
use Rattle.cgl_model.proofs.RiseLaws.{scaled_rise}
use Rattle.cgl_model.proofs.ShapeLaws.{free_row, placed, shape_is, wide_shape}
use Rattle.cgl_model.proofs.row_shape.shape_of_row.Goals as goal

pub returns-in-N-clause-value : goal.returns-in-N-clause-value
returns-in-N-clause-value c = free_row c.args.entries.now c.args.row.now c.in-N.is

pub scale_row-requires : goal.scale_row-requires
scale_row-requires c =
    let each = placed c.places_of_row-k.result c.args.entries.now c.args.row.now c.places_of_row-k.ensures.value in
    record { within = c.places_of_row-k.ensures.within; entries = each.coefficients; rhs = each.rhs; range = each.range }

pub shape_of-requires-in-Ok : goal.shape_of-requires-in-Ok
shape_of-requires-in-Ok c =
    let F : RowNumbers → Type 0 = λ n. RiseFrom 0 n.coeffs in
    record {
      narrow = c.in-Ok.ensures.narrow;
      rising = subst F (sym c.in-Ok.ensures.value) (scaled_rise 0 c.places_of_row-k.result c.args.entries.now c.requires);
    }

pub returns-in-Ok-clause-value : goal.returns-in-Ok-clause-value
returns-in-Ok-clause-value c =
    let same = shape_is c.args.entries.now c.args.row.now c.places_of_row-k.result c.in-Ok.numbers c.in_default.not-N c.places_of_row-k.ensures.value c.in-Ok.ensures.value in
    IfOk-weaker c.shape_of.result _ _ (λ s e. e ∙ same) c.shape_of.ensures.value

pub returns-in-Err-Wide-clause-value : goal.returns-in-Err-Wide-clause-value
returns-in-Err-Wide-clause-value c =
    wide_shape c.args.entries.now c.args.row.now c.places_of_row-k.result c.in_default.not-N c.places_of_row-k.ensures.value (c.in-Err-Wide.ensures.wide c.in-Err-Wide.field-0-is)
