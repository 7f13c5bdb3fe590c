use Rattle.cgl_mps.proofs.NextLaws.{line_stands, on_ok_with}
use Rattle.cgl_mps.proofs.state.State.push.Goals as goal

pub returns : goal.returns
returns c =
    let took = c.in_ok-take_tables.ensures in
    on_ok_with c.take_head.result
    (λ head rest before stands none. line_stands before c.args.r.now c.args.self.now c.take_tables.new.self c.take_head.new.self stands c.requires.kept none took.head took.tables head rest)
    c.take_head.ensures.head c.take_head.ensures.tables
