use Rattle.std.proofs.Common.{length}
use Rattle.cgl_mps.proofs.pair_table.PairTable.+put_fields.Given as goal

abbrev pub decreases-put_fields : goal.decreases-put_fields
decreases-put_fields l = length l.fields.now
