use Rattle.std.proofs.Common.{length}
use Rattle.cgl_mps.proofs.sections.+names_row.Given as goal

abbrev pub decreases-names_row : goal.decreases-names_row
decreases-names_row l = length l.fields.now
