use Rattle.std.proofs.Common.{◌≡◌, ℕ, ◌+◌, ◌*◌, ◌<◌, ◌≤◌, Some}
use Rattle.std.specs.Prelude.{slice_get}
use Rattle.cgl_derive.specs.declared.step.Step.{Step, out-Step}
use Rattle.cgl_check.specs.Covered.{CoversLayer, CoversList}
use Rattle.cgl_check.proofs.tables.+tables.Given as goal

abbrev pub invariant-list_places-loop-at : goal.invariant-list_places-loop-at
invariant-list_places-loop-at l = record {
  covered : (k : ℕ) (s : Step) → k < l.at → slice_get l.steps k ≡ Some s → CoversLayer l.scope l.fn.frames l.depth k l.places (out-Step s);
  least : (places : ℕ) → CoversList l.scope l.fn.frames l.depth places → l.places ≤ places;
  frames : l.frames ≡ l.fn.frames;
}

abbrev pub decreases-list_places : goal.decreases-list_places
decreases-list_places l = 4 * l.depth + 3

abbrev pub decreases-step_places : goal.decreases-step_places
decreases-step_places l = 4 * l.depth + 2

abbrev pub decreases-split_places : goal.decreases-split_places
decreases-split_places l = 4 * l.depth + 1

abbrev pub decreases-branch_places : goal.decreases-branch_places
decreases-branch_places l = 4 * l.depth + 4
