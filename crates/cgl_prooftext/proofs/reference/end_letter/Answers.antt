use Rattle.std.proofs.Common.{sym, ap}
use Rattle.cgl_prooftext.specs.ProofText.{end_text}
use Rattle.cgl_prooftext.proofs.reference.end_letter.Goals as goal

pub returns-in-Lower : goal.returns-in-Lower
returns-in-Lower c = sym (ap end_text c.in-Lower.is)
