use Rattle.cgl_check.proofs.laws.soundness.Goals as goal

pub returns : goal.returns
returns c = λ m shared d cut x decimals columns none feasible met.
    c.soundness.ensures.derivation m shared d cut x decimals ((c.exactness.ensures.derivation m shared d cut columns).0 none) feasible met
