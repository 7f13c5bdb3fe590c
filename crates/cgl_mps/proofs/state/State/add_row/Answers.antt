use Rattle.std.proofs.Common.{◌≡◌, refl, subst, false}
use Rattle.std.proofs.lemmas.Result.{on_ok_weaker}
use Rattle.cgl_mps.specs.State.{AddsRow, State, has_row}
use Rattle.cgl_mps.proofs.NextLaws.{row_comes}
use Rattle.cgl_mps.proofs.state.State.add_row.Goals as goal

pub returns-clause-adds : goal.returns-clause-adds
returns-clause-adds c =
    let old : State = record { headers = c.self.inside.headers.items; name = c.self.inside.name.items; is_sense_given = c.self.inside.is_sense_given; maximise = c.self.inside.maximise; rows = c.self.inside.rows; kinds = c.self.inside.kinds.items; columns = c.self.inside.columns; rhs = c.self.inside.rhs; ranges = c.self.inside.ranges; bounds = c.self.inside.bounds } in
    let new : State = record { headers = c.self.inside.headers.items; name = c.self.inside.name.items; is_sense_given = c.self.inside.is_sense_given; maximise = c.self.inside.maximise; rows = c.find_or_push.new.self; kinds = c.push.new.self.items; columns = c.add_row.new.self; rhs = c.add_row-2.new.self; ranges = c.add_row-3.new.self; bounds = c.self.inside.bounds } in
    on_ok_weaker c.add_row-3.result
    (λ ranges. subst (λ (was : State). has_row was c.args.name.now ≡ false → AddsRow c.args.kind c.args.name.now was new) c.self.view_is
    (λ fresh. row_comes c.args.kind c.args.name.now old new fresh c.in_ok-find_or_push.ensures.names c.in-Ok.ensures.items c.in_ok-add_row.ensures.names c.in_ok-add_row.ensures.row c.in_ok-add_row-2.ensures.ok ranges refl))
    c.add_row-3.ensures.ok
