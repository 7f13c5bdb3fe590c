use Rattle.cgl_outside.proofs.SinkLaws as laws
use Rattle.cgl_outside.proofs.laws.sink_laws.Goals as goal

pub returns : goal.returns
returns c = record {
  twice = laws.put_twice;
  nothing = laws.put_empty;
  told = λ told a. (laws.put_told_before told a, laws.put_told told a);
}
