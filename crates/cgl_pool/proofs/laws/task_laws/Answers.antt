use Rattle.cgl_pool.proofs.TaskLaws.{lists_task}
use Rattle.cgl_pool.proofs.laws.task_laws.Goals as goal

pub returns : goal.returns
returns c = lists_task
