use Rattle.std.proofs.Common.{rules, ◌≡◌, ◌<◌, ◌∙◌, take, drop, arith}
use Rattle.cgl_outside.proofs.AheadLaws.{not_empty}
use Rattle.cgl_outside.proofs.ahead.Ahead.fill.Goals as goal

pub returns-then-self-2-clause-some : goal.returns-then-self-2-clause-some
returns-then-self-2-clause-some g c none =
    let seen : drop c.self.inside.from (take c.self.inside.to c.self.inside.buf.items) ≡ c.args.self.now.ahead = search rules in
    let some : c.self.inside.from < c.self.inside.to = omega arith in
    absurd (not_empty c.self.inside.buf.items c.self.inside.from c.self.inside.to some c.self.invariant.1 (seen ∙ none))

pub returns-then-self-2-clause-found : goal.returns-then-self-2-clause-found
returns-then-self-2-clause-found g c none _ _ =
    let seen : drop c.self.inside.from (take c.self.inside.to c.self.inside.buf.items) ≡ c.args.self.now.ahead = search rules in
    let some : c.self.inside.from < c.self.inside.to = omega arith in
    absurd (not_empty c.self.inside.buf.items c.self.inside.from c.self.inside.to some c.self.invariant.1 (seen ∙ none))
