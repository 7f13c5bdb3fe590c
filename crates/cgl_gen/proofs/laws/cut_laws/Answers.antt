use Rattle.std.proofs.Common.{[]}
use Rattle.cgl_gen.proofs.CutLaws.{cut_columns}
use Rattle.cgl_gen.proofs.laws.cut_laws.Goals as goal

pub returns : goal.returns
returns c = record {
  columns = cut_columns;
  met = (λ m x y k decimals has feasible. c.soundness.ensures.derivation m [] k.derivation k.cut y decimals has.derives feasible tt);
}
