use Rattle.std.proofs.Common.{◌≡◌, take, map}
use Rattle.std.specs.Prelude.{unsigned_abs}
use Rattle.std.specs.List.{filter}
use Rattle.cgl_model.specs.IntegerForm.{divided, is_nonzero_term}
use Rattle.cgl_model.proofs.row_shape.divide_terms.Given as goal

abbrev pub invariant-loop-term : goal.invariant-loop-term
invariant-loop-term l = l.terms ≡ filter is_nonzero_term (map (λ t. (t.0, divided (unsigned_abs l.divisor) t.1)) (take l.term-index l.coeffs))
