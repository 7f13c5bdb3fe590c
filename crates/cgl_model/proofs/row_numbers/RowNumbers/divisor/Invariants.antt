use Rattle.std.proofs.Common.{◌≡◌, ◌≤◌, ◌∷◌, ◌++◌, drop, length, map, pos}
use Rattle.std.specs.Prelude.{option_to_list}
use Rattle.cgl_num.specs.Gcd.{gcd_of}
use Rattle.cgl_model.proofs.row_numbers.RowNumbers.divisor.Given as goal

abbrev pub invariant-loop-i : goal.invariant-loop-i
invariant-loop-i l = record {
  within : l.i ≤ length l.coeffs;
  value : l.divisor ≡ pos (gcd_of (map (λ t. t.1) (drop l.i l.coeffs) ++ (l.self.rhs ∷ option_to_list l.self.range)));
}

abbrev pub decreases-loop-i : goal.decreases-loop-i
decreases-loop-i l = l.i
