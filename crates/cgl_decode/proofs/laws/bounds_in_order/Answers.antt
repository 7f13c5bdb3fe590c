use Rattle.cgl_decode.proofs.BoundLaws.{lower_of_push, upper_of_push}
use Rattle.cgl_decode.proofs.laws.bounds_in_order.Goals as goal

pub returns-clause-lower : goal.returns-clause-lower
returns-clause-lower c = lower_of_push

pub returns-clause-upper : goal.returns-clause-upper
returns-clause-upper c = upper_of_push
