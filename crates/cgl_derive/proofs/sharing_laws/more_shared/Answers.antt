use Rattle.cgl_derive.proofs.MoreShared.{derives_more}
use Rattle.cgl_derive.proofs.sharing_laws.more_shared.Goals as goal

pub returns : goal.returns
returns c = derives_more
