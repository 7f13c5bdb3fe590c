use Rattle.std.proofs.Common.{refl, subst}
use Rattle.std.proofs.lemmas.Result.{on_ok_weaker}
use Rattle.cgl_mps.specs.State.{State, TakesTables}
use Rattle.cgl_mps.proofs.ArmLaws.{rhs_taken}
use Rattle.cgl_mps.proofs.state.State.add_right_sides.Goals as goal

pub returns-clause-tables : goal.returns-clause-tables
returns-clause-tables c =
    let old : State = record { headers = c.self.inside.headers.items; name = c.self.inside.name.items; is_sense_given = c.self.inside.is_sense_given; maximise = c.self.inside.maximise; rows = c.self.inside.rows; kinds = c.self.inside.kinds.items; columns = c.self.inside.columns; rhs = c.self.inside.rhs; ranges = c.self.inside.ranges; bounds = c.self.inside.bounds } in
    let new : State = record { headers = c.self.inside.headers.items; name = c.self.inside.name.items; is_sense_given = c.self.inside.is_sense_given; maximise = c.self.inside.maximise; rows = c.self.inside.rows; kinds = c.self.inside.kinds.items; columns = c.self.inside.columns; rhs = c.add.new.self; ranges = c.self.inside.ranges; bounds = c.self.inside.bounds } in
    on_ok_weaker c.add.result
    (λ takes data_line at. subst (λ (was : State). TakesTables c.args.r.now was new) c.self.view_is (rhs_taken c.args.r.now old new data_line at refl refl refl refl refl takes))
    c.add.ensures.ok
