use Rattle.cgl_prooftext.proofs.LongerLaws.{field_longer}
use Rattle.cgl_prooftext.proofs.field.append_field.Goals as goal

pub returns : goal.returns
returns c = field_longer c.args.field.now _ _ _ c.append.ensures c.append-2.ensures
