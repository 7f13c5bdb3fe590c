use Rattle.std.proofs.Common.{◌≡◌, ℕ, ◌<◌, ◌≤◌, ◌-◌, [], length, get_or}
use Rattle.cgl_model.proofs.row_lists.empty_lists.Given as goal

abbrev pub invariant-loop-alloc : goal.invariant-loop-alloc
invariant-loop-alloc l = record {
  size : length l.lists.items ≤ l.count;
  none : (r : ℕ) → r < length l.lists.items → get_or l.lists.items r [] ≡ [];
}

abbrev pub decreases-loop-alloc : goal.decreases-loop-alloc
decreases-loop-alloc l = l.count - length l.lists.items
