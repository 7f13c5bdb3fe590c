use Rattle.std.specs.Int.{w128}
use Rattle.std.proofs.lemmas.Int.{to_z-of_z}
use Rattle.std.proofs.lemmas.Result.{MatchResult-from_err, err_from_is_err_and}
use Rattle.cgl_model.specs.IntegerForm.{scaled_row}
use Rattle.cgl_model.proofs.BuildLaws.{narrow_numbers, narrow_signed, wide_coeffs, wide_range, wide_right}
use Rattle.cgl_model.proofs.row_numbers.scale_row.Goals as goal

pub returns-in_default-clause-wide : goal.returns-in_default-clause-wide
returns-in_default-clause-wide c = λ is. wide_right (scaled_row c.args.k c.args.entries.now c.args.row.now) c.in_default.ensures.value

pub returns-in_err-range-clause-wide : goal.returns-in_err-range-clause-wide
returns-in_err-range-clause-wide c =
    MatchResult-from_err c.from_residual.result _ _ c.from_residual.ensures.0
    (λ e is. wide_range (scaled_row c.args.k c.args.entries.now c.args.row.now) c.in_err-range.ensures.wide)

pub returns-in_err-coeffs-clause-wide : goal.returns-in_err-coeffs-clause-wide
returns-in_err-coeffs-clause-wide c =
    let p = err_from_is_err_and c.from_residual-in_err-coeffs.result c.from_residual-in_err-coeffs.ensures.1 in
    rw (p.1, p.2) (λ is. wide_coeffs (scaled_row c.args.k c.args.entries.now c.args.row.now) (c.in_err-coeffs.ensures.wide is))

pub returns-clause-narrow : goal.returns-clause-narrow
returns-clause-narrow c =
    rw (to_z-of_z w128 c.in-Some.rhs (narrow_signed _ c.in-Some.ensures.narrow))
    (narrow_numbers (record { coeffs = c.in_ok-coeffs.coeffs; rhs = c.in-Some.rhs; range = c.in_ok-range.range }) c.in_ok-coeffs.ensures.narrow c.in-Some.ensures.narrow c.in_ok-range.ensures.narrow)
