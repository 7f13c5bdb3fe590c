use Rattle.std.proofs.Common.{◌≡◌, ◌≤◌, ◌∷◌, take, map, max}
use Rattle.std.specs.Prelude.{option_to_list}
use Rattle.cgl_model.specs.IntegerForm.{most_places}
use Rattle.cgl_model.proofs.scaling.places_of_row.Given as goal

abbrev pub invariant-loop-entry : goal.invariant-loop-entry
invariant-loop-entry l = record {
  most : l.most ≡ max (most_places (map (λ e. e.1) (take l.entry-index l.entries))) (most_places (l.row.rhs ∷ option_to_list l.row.range));
  within : l.most ≤ 30;
}
