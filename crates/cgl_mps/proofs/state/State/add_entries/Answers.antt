use Rattle.std.proofs.Common.{◌≡◌, ◌<◌, ◌≤◌, refl, subst, sym}
use Rattle.cgl_decode.specs.Sections.{entry_pairs}
use Rattle.cgl_mps.specs.Tables.{resolved_all}
use Rattle.cgl_mps.specs.State.{State, TakesTables}
use Rattle.cgl_mps.proofs.ArmLaws.{entries_taken, subst₂}
use Rattle.cgl_mps.proofs.NextLaws.{bounds_with, bounds_without}
use Rattle.cgl_mps.proofs.state.State.add_entries.Goals as goal

pub returns-in_ok-add_column-clause-tables : goal.returns-in_ok-add_column-clause-tables
returns-in_ok-add_column-clause-tables c = λ data_line at.
    let old : State = record { headers = c.self.inside.headers.items; name = c.self.inside.name.items; is_sense_given = c.self.inside.is_sense_given; maximise = c.self.inside.maximise; rows = c.self.inside.rows; kinds = c.self.inside.kinds.items; columns = c.self.inside.columns; rhs = c.self.inside.rhs; ranges = c.self.inside.ranges; bounds = c.self.inside.bounds } in
    let new : State = record { headers = c.self.inside.headers.items; name = c.self.inside.name.items; is_sense_given = c.self.inside.is_sense_given; maximise = c.self.inside.maximise; rows = c.self.inside.rows; kinds = c.self.inside.kinds.items; columns = c.add.new.self; rhs = c.self.inside.rhs; ranges = c.self.inside.ranges; bounds = c.add_column.new.self } in
    let found = subst (λ (was : State). c.args.pairs.now ≡ resolved_all was.rows (entry_pairs c.args.r.now)) (sym c.self.view_is) c.requires in
    let longer = subst₂ (λ a b. a < b) c.len-count.ensures c.len.ensures c.if-count-len.true in
    subst (λ (was : State). TakesTables c.args.r.now was new) c.self.view_is
    (entries_taken c.args.r.now old new data_line at refl refl (λ read is next. c.in_ok-add.ensures old.rows read is found next) refl refl
    (bounds_with c.args.r.now old.rows old.columns new.columns old.bounds new.bounds (λ read is next. c.in_ok-add.ensures old.rows read is found next) longer c.in_ok-add_column.ensures.ok))

pub returns-else-count-len-clause-tables : goal.returns-else-count-len-clause-tables
returns-else-count-len-clause-tables c = λ data_line at.
    let old : State = record { headers = c.self.inside.headers.items; name = c.self.inside.name.items; is_sense_given = c.self.inside.is_sense_given; maximise = c.self.inside.maximise; rows = c.self.inside.rows; kinds = c.self.inside.kinds.items; columns = c.self.inside.columns; rhs = c.self.inside.rhs; ranges = c.self.inside.ranges; bounds = c.self.inside.bounds } in
    let new : State = record { headers = c.self.inside.headers.items; name = c.self.inside.name.items; is_sense_given = c.self.inside.is_sense_given; maximise = c.self.inside.maximise; rows = c.self.inside.rows; kinds = c.self.inside.kinds.items; columns = c.add.new.self; rhs = c.self.inside.rhs; ranges = c.self.inside.ranges; bounds = c.self.inside.bounds } in
    let found = subst (λ (was : State). c.args.pairs.now ≡ resolved_all was.rows (entry_pairs c.args.r.now)) (sym c.self.view_is) c.requires in
    let short = subst₂ (λ a b. a ≤ b) c.len.ensures c.len-count.ensures c.if-count-len.false in
    subst (λ (was : State). TakesTables c.args.r.now was new) c.self.view_is
    (entries_taken c.args.r.now old new data_line at refl refl (λ read is next. c.in_ok-add.ensures old.rows read is found next) refl refl
    (bounds_without c.args.r.now old.rows old.columns new.columns old.bounds (λ read is next. c.in_ok-add.ensures old.rows read is found next) short))
