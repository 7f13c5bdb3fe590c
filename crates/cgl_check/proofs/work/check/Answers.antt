use Rattle.std.proofs.Common.{◌≡◌, None, rules, arith}
use Rattle.std.proofs.lemmas.Grind.{common_steps}
use Rattle.cgl_check.specs.FirstFailure.{first_failure}
use Rattle.cgl_check.proofs.work.check.Goals as goal

pub returns-clause-sound : goal.returns-clause-sound
returns-clause-sound c = λ x feasible met.
    let m = c.args.m.now in
    let shared = c.args.shared.now in
    let d = c.args.d.now in
    let cut = c.args.cut.now in
    let none : first_failure m shared d cut ≡ None = first_of (search rules, grind (arith, common_steps)) in
    c.soundness.ensures.derivation m shared d cut x c.has_decimals.ensures ((c.exactness.ensures.derivation m shared d cut c.requires.shared).0 none) feasible met
