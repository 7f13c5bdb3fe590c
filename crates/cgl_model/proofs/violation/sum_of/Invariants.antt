use Rattle.std.proofs.Common.{◌≡◌, ◌+◌, ◌<◌, ◌≤◌, ◌^◌, drop}
use Rattle.std.specs.Prelude.{◌+ℤ◌, unsigned_abs}
use Rattle.cgl_model.specs.Inequality.{magnitudes_at, sum_at}
use Rattle.cgl_model.proofs.violation.sum_of.Given as goal

abbrev pub invariant-loop-term : goal.invariant-loop-term
invariant-loop-term l = record {
  sum : l.products.sum +ℤ sum_at l.numbers (drop l.term-index l.terms) ≡ sum_at l.numbers l.terms;
  magnitude : l.products.magnitude + magnitudes_at l.numbers (drop l.term-index l.terms) ≡ l.magnitude + magnitudes_at l.numbers l.terms;
  narrow : l.products.magnitude < 2 ^ 127;
  within : unsigned_abs l.products.sum + l.magnitude ≤ l.products.magnitude;
}
