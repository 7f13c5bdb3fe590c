use Rattle.std.proofs.Common.{arith}
use Rattle.std.proofs.lemmas.Grind.{common_steps}
use Rattle.cgl_prooftext.proofs.LongerLaws.{head_of_none, head_of_some}
use Rattle.cgl_prooftext.proofs.print.append_head.Goals as goal

pub returns-then-is_empty : goal.returns-then-is_empty
returns-then-is_empty c = head_of_none c.args.shared.now _ _ (grind (arith, common_steps)) c.append.ensures

pub returns-else-is_empty : goal.returns-else-is_empty
returns-else-is_empty c = head_of_some c.args.shared.now _ _ _ (grind (arith, common_steps)) c.append-else-is_empty.ensures c.append_entries.ensures
