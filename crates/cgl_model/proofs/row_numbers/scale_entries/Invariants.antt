use Rattle.std.proofs.Common.{◌≡◌, take, map, false}
use Rattle.std.specs.List.{list_any}
use Rattle.cgl_model.specs.IntegerForm.{is_wide_number, scaled_term}
use Rattle.cgl_model.proofs.row_numbers.scale_entries.Given as goal

abbrev pub invariant-loop-entry : goal.invariant-loop-entry
invariant-loop-entry l = record {
  value : l.coeffs ≡ map (scaled_term l.k) (take l.entry-index l.entries);
  narrow : list_any is_wide_number (map (λ t. t.1) l.coeffs) ≡ false;
}
