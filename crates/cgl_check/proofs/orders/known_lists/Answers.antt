use Rattle.cgl_check.proofs.DeepLaws.{end_inside, step_inside, third_inside}
use Rattle.cgl_check.proofs.OrderLaws.{first_step, other_cut, second_step, step_before_end}
use Rattle.cgl_check.proofs.orders.known_lists.Goals as goal

pub returns-clause-first : goal.returns-clause-first
returns-clause-first c = first_step

pub returns-clause-second : goal.returns-clause-second
returns-clause-second c = second_step

pub returns-clause-before_end : goal.returns-clause-before_end
returns-clause-before_end c = step_before_end

pub returns-clause-end : goal.returns-clause-end
returns-clause-end c = other_cut

pub returns-clause-third : goal.returns-clause-third
returns-clause-third c = third_inside

pub returns-clause-inside : goal.returns-clause-inside
returns-clause-inside c = step_inside

pub returns-clause-inside_end : goal.returns-clause-inside_end
returns-clause-inside_end c = end_inside
