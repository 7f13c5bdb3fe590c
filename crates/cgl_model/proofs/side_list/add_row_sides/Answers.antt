use Rattle.std.proofs.Common.{arith, rules}
use Rattle.std.proofs.lemmas.Grind.{common_steps}
use Rattle.cgl_model.proofs.side_list.add_row_sides.Goals as goal

pub returns-in_ok-push-2 : goal.returns-in_ok-push-2
returns-in_ok-push-2 c = grind (arith, common_steps)

pub returns-in_default-up : goal.returns-in_default-up
returns-in_default-up c = search rules
