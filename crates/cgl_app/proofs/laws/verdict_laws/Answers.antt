use Rattle.cgl_app.proofs.VerdictLaws.{accepts_verdict, verdict_accepts}
use Rattle.cgl_app.proofs.laws.verdict_laws.Goals as goal

pub returns : goal.returns
returns c = λ m n book. (verdict_accepts c.exactness.ensures.book m n book, accepts_verdict c.exactness.ensures.book m n book)
