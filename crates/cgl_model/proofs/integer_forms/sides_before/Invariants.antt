use Rattle.std.proofs.Common.{ℕ, ◌-◌, ◌<◌, ◌≤◌, get_or, length}
use Rattle.cgl_model.specs.declared.places.Side.{Side}
use Rattle.cgl_model.specs.PlaceOrder.{rank}
use Rattle.cgl_model.proofs.integer_forms.sides_before.Given as goal

abbrev pub invariant-loop-low : goal.invariant-loop-low
invariant-loop-low l = record {
  order : l.low ≤ l.high;
  within : l.high ≤ length l.sides;
  before : (k : ℕ) (d : Side) → k < l.low → rank (get_or l.sides k d).place < l.target;
  after : (k : ℕ) (d : Side) → l.high ≤ k → k < length l.sides → l.target ≤ rank (get_or l.sides k d).place;
}

abbrev pub decreases-loop-low : goal.decreases-loop-low
decreases-loop-low l = l.high - l.low
