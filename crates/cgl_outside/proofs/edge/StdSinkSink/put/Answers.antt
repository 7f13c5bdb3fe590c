use Rattle.std.proofs.Common.{refl}
use Rattle.cgl_outside.specs.Sink.{with_put}
use Rattle.cgl_outside.proofs.CountRules.{each_ok, each_err}
use Rattle.cgl_outside.proofs.edge.StdSinkSink.put.Goals as goal

pub returns-clause-ok : goal.returns-clause-ok
unfolding with_put
returns-clause-ok c = each_ok c.counted.result refl

pub returns-clause-err : goal.returns-clause-err
unfolding with_put
returns-clause-err c = each_err c.counted.result (0, refl)
