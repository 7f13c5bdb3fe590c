use Rattle.std.proofs.Common.{◌≡◌, ◌∷◌, ◌++◌, [], refl, sym, ◌∙◌, subst, map, false}
use Rattle.std.proofs.lemmas.Result.{IfOk-at_ok}
use Rattle.cgl_model.specs.declared.mip.Model.{Model}
use Rattle.cgl_outside.specs.Line.{written}
use Rattle.cgl_outside.proofs.SoFarLaws.{IsSoFar, IsStep, so_far_begun, step_of}
use Rattle.cgl_where.specs.Carried.{carried_value, Carries, FollowsLine, IsSound}
use Rattle.cgl_where.specs.Limits.{ArePositive}
use Rattle.cgl_where.specs.PointFile.{is_too_fine, kept, point_in, record_of}
use Rattle.cgl_where.specs.PointRead.{point_result}
use Rattle.cgl_where.proofs.CarriedLaws.{carries_sound, carries_ready, carries_point}
use Rattle.cgl_where.proofs.LineLaws.{read_on, read_whole, long_line, over_line, no_line, bad_line, good_line}
use Rattle.cgl_where.proofs.read.read_point.Goals as goal

pub lines-init : goal.lines-init
lines-init g c =
    let held = g.S.Shelf.held c.args.shelf.now in
    let name = c.args.name.now in
    let m = c.args.model.now in
    record {
      text = [];
      before = [];
      carries = subst (λ (m : Model). Carries m [] c.in-Ok-new.carried) c.in-Ok.ensures c.in-Ok-new.ensures;
      so_far = subst (λ reading. IsSoFar held name 4096 (point_result m) (read_on m []) reading []) (sym c.in-Ok-start.ensures.begun) (so_far_begun held name 4096 (point_result m) (read_on m []) (read_whole m));
      held = refl;
      reads = refl;
      writes = refl;
    }

pub take_line-requires : goal.take_line-requires
take_line-requires g c =
    subst (λ (m : Model). IsSound m c.lines.carried) (sym c.in-Ok.ensures) (carries_sound c.args.model.now c.lines.invariant.before c.lines.carried c.lines.invariant.carries)

pub returns-in-Ok-TooLong-clause-fault : goal.returns-in-Ok-TooLong-clause-fault
returns-in-Ok-TooLong-clause-fault g c =
    let held = g.S.Shelf.held c.args.shelf.now in
    let inv = c.lines.invariant in
    let so_far = inv.so_far in
    let step : IsStep held c.lines.lines c.next.new.self c.next.result =
    step_of held (g.S.Shelf.held c.lines.shelf) (g.S.Shelf.held c.next.new.shelf) c.lines.lines c.next.new.self c.next.result inv.held c.next.ensures.held so_far.open_ c.next.ensures.last c.next.ensures.says c.next.ensures.follows c.next.ensures.shape c.next.ensures.found c.next.ensures.ended c.next.ensures.name c.next.ensures.longest in
    long_line held c.args.name.now c.args.model.now inv.before c.lines.lines c.next.new.self inv.text so_far c.next.result step c.in-Ok-TooLong.field-0 c.in-Ok-TooLong.is c.in-Ok-TooLong.field-0-is c.number-in-Ok-TooLong.result c.number-in-Ok-TooLong.ensures

pub returns-in-Ok-Over-clause-fault : goal.returns-in-Ok-Over-clause-fault
returns-in-Ok-Over-clause-fault g c =
    let held = g.S.Shelf.held c.args.shelf.now in
    let inv = c.lines.invariant in
    let so_far = inv.so_far in
    let step : IsStep held c.lines.lines c.next.new.self c.next.result =
    step_of held (g.S.Shelf.held c.lines.shelf) (g.S.Shelf.held c.next.new.shelf) c.lines.lines c.next.new.self c.next.result inv.held c.next.ensures.held so_far.open_ c.next.ensures.last c.next.ensures.says c.next.ensures.follows c.next.ensures.shape c.next.ensures.found c.next.ensures.ended c.next.ensures.name c.next.ensures.longest in
    over_line held c.args.name.now c.args.model.now inv.before c.lines.lines c.next.new.self inv.text so_far c.next.result step c.in-Ok-Over.field-0 c.in-Ok-Over.is c.in-Ok-Over.field-0-is c.number-in-Ok-Over.result c.number-in-Ok-Over.ensures

pub returns-in-Some-clause-fault : goal.returns-in-Some-clause-fault
returns-in-Some-clause-fault g c =
    let held = g.S.Shelf.held c.args.shelf.now in
    let inv = c.lines.invariant in
    let so_far = inv.so_far in
    let step : IsStep held c.lines.lines c.next.new.self c.next.result =
    step_of held (g.S.Shelf.held c.lines.shelf) (g.S.Shelf.held c.next.new.shelf) c.lines.lines c.next.new.self c.next.result inv.held c.next.ensures.held so_far.open_ c.next.ensures.last c.next.ensures.says c.next.ensures.follows c.next.ensures.shape c.next.ensures.found c.next.ensures.ended c.next.ensures.name c.next.ensures.longest in
    let new = c.next.new.self in
    let follows = subst (λ (m : Model). FollowsLine m (record_of new.number c.bytes.result.now) c.in-Ok-take_line.fault c.lines.carried c.take_line.new.self) c.in-Ok.ensures (c.in-Ok-take_line.ensures new.number) in
    bad_line held c.args.name.now c.args.model.now inv.before c.lines.lines c.next.new.self inv.text so_far c.next.result step c.in-Ok-Line.field-0 c.in-Ok-Line.is c.in-Ok-Line.field-0-is c.bytes.result.now c.bytes.ensures c.in-Some.kind c.number.result c.number.ensures
    (sym c.in-Some.is ∙ (follows inv.before inv.carries).0)

pub lines-preserved : goal.lines-preserved
lines-preserved g c =
    let held = g.S.Shelf.held c.args.shelf.now in
    let inv = c.lines.invariant in
    let so_far = inv.so_far in
    let step : IsStep held c.lines.lines c.next.new.self c.next.result =
    step_of held (g.S.Shelf.held c.lines.shelf) (g.S.Shelf.held c.next.new.shelf) c.lines.lines c.next.new.self c.next.result inv.held c.next.ensures.held so_far.open_ c.next.ensures.last c.next.ensures.says c.next.ensures.follows c.next.ensures.shape c.next.ensures.found c.next.ensures.ended c.next.ensures.name c.next.ensures.longest in
    let new = c.next.new.self in
    let follows = subst (λ (m : Model). FollowsLine m (record_of new.number c.bytes.result.now) c.in-Ok-take_line.fault c.lines.carried c.take_line.new.self) c.in-Ok.ensures (c.in-Ok-take_line.ensures new.number) in
    let says = follows inv.before inv.carries in
    record {
      text = inv.text ++ written new.line new.has_lf;
      before = inv.before ++ kept (record_of new.number c.bytes.result.now ∷ []);
      carries = says.1 c.in_default-fault.is;
      so_far = good_line held c.args.name.now c.args.model.now inv.before c.lines.lines c.next.new.self inv.text so_far c.next.result step c.in-Ok-Line.field-0 c.in-Ok-Line.is c.in-Ok-Line.field-0-is c.bytes.result.now c.bytes.ensures (sym c.in_default-fault.is ∙ says.0);
      held = c.next.ensures.held ∙ inv.held;
      reads = IfOk-at_ok (λ _. g.S.Shelf.failed_reads c.next.new.shelf ≡ g.S.Shelf.failed_reads c.lines.shelf) c.in-Ok-Line.is (c.next.ensures.reads so_far.open_).ok ∙ inv.reads;
      writes = c.next.ensures.writes ∙ inv.writes;
    }

pub point-requires-clause-positive : goal.point-requires-clause-positive
point-requires-clause-positive g c =
    let named = c.lines.carried.named.items in
    subst (λ (m : Model). ArePositive (map (λ x. carried_value m named x.name) m.cols)) (sym c.in-Ok.ensures)
    (carries_ready c.args.model.now c.lines.invariant.before c.lines.carried c.lines.invariant.carries).positive

pub point-requires-clause-within : goal.point-requires-clause-within
point-requires-clause-within g c =
    let named = c.lines.carried.named.items in
    subst (λ (m : Model). is_too_fine (map (λ x. carried_value m named x.name) m.cols) ≡ false) (sym c.in-Ok.ensures)
    (carries_ready c.args.model.now c.lines.invariant.before c.lines.carried c.lines.invariant.carries).within

pub returns-in-Ok-End-clause-point : goal.returns-in-Ok-End-clause-point
returns-in-Ok-End-clause-point g c =
    let held = g.S.Shelf.held c.args.shelf.now in
    let inv = c.lines.invariant in
    let so_far = inv.so_far in
    let step : IsStep held c.lines.lines c.next.new.self c.next.result =
    step_of held (g.S.Shelf.held c.lines.shelf) (g.S.Shelf.held c.next.new.shelf) c.lines.lines c.next.new.self c.next.result inv.held c.next.ensures.held so_far.open_ c.next.ensures.last c.next.ensures.says c.next.ensures.follows c.next.ensures.shape c.next.ensures.found c.next.ensures.ended c.next.ensures.name c.next.ensures.longest in
    let is = subst (λ (m : Model). c.in-Ok-point.point ≡ point_in (map (λ x. carried_value m c.lines.carried.named.items x.name) m.cols)) c.in-Ok.ensures c.in-Ok-point.ensures in
    no_line held c.args.name.now c.args.model.now inv.before c.lines.lines c.next.new.self inv.text so_far c.next.result step c.in-Ok-End.field-0 c.in-Ok-End.is c.in-Ok-End.field-0-is c.in-Ok-point.point (carries_point c.args.model.now inv.before c.lines.carried inv.carries c.in-Ok-point.point is)
