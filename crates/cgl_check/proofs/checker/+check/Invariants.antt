use Rattle.std.proofs.Common.{◌≡◌, ◌+◌, ◌*◌, drop}
use Rattle.std.specs.Prelude.{nat_lt}
use Rattle.cgl_check.specs.FirstFailure.{list_failure}
use Rattle.cgl_check.specs.Nested.{inner_search}
use Rattle.cgl_check.specs.Walk.{IsAt, claims_at, givens_at}
use Rattle.cgl_check.proofs.checker.+check.Given as goal

abbrev pub invariant-list_failure-loop-at : goal.invariant-list_failure-loop-at
invariant-list_failure-loop-at l = record {
  failure : list_failure l.scope.model.now l.scope.shared.now (nat_lt 0 l.depth) (inner_search l.scope.model.now l.scope.shared.now l.depth) (givens_at l.scope.steps.now l.fn.frames) (claims_at l.scope.steps.now l.fn.frames 0) 0 l.steps
      ≡ list_failure l.scope.model.now l.scope.shared.now (nat_lt 0 l.depth) (inner_search l.scope.model.now l.scope.shared.now l.depth) (givens_at l.scope.steps.now l.fn.frames) (claims_at l.scope.steps.now l.fn.frames l.at) l.at (drop l.at l.steps);
  frames : l.frames ≡ l.fn.frames;
  at : IsAt l.scope l.fn.frames l.at;
  room : l.space ≡ l.fn.space;
}

abbrev pub decreases-list_failure : goal.decreases-list_failure
decreases-list_failure l = 4 * l.depth + 3

abbrev pub decreases-step_failure : goal.decreases-step_failure
decreases-step_failure l = 4 * l.depth + 2

abbrev pub decreases-split_failure : goal.decreases-split_failure
decreases-split_failure l = 4 * l.depth + 1

abbrev pub decreases-branch_failure : goal.decreases-branch_failure
decreases-branch_failure l = 4 * l.depth + 4
