use Rattle.std.proofs.Common.{◌≡◌, length}
use Rattle.cgl_knap.proofs.ChoiceLaws.{IsChosenFrom}
use Rattle.cgl_knap.proofs.cover.add_choice.Given as goal

abbrev pub invariant-loop-need : goal.invariant-loop-need
invariant-loop-need l = record {
  size : length l.table ≡ length l.fn.table;
  choices : length l.choice ≡ length l.fn.table;
  chosen : IsChosenFrom l.fn.weight l.fn.cost l.need l.fn.table l.table l.choice;
}
