use Rattle.std.proofs.Common.{refl}
use Rattle.cgl_outside.specs.Shelf.{file_of, with_file, with_more}
use Rattle.cgl_outside.proofs.CountRules.{each_ok, each_err}
use Rattle.cgl_outside.proofs.edge.DirShelfShelf.append.Goals as goal

pub returns-clause-ok : goal.returns-clause-ok
unfolding file_of with_file with_more
returns-clause-ok c = each_ok c.counted.result refl

pub returns-clause-err : goal.returns-clause-err
unfolding file_of with_file with_more
returns-clause-err c = each_err c.counted.result (0, refl)
