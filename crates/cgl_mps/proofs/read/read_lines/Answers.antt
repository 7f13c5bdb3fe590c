use Rattle.std.proofs.Common.{rules, ◌≡◌, ◌∷◌, ◌++◌, [], refl, sym, ap, ◌∙◌, subst}
use Rattle.std.proofs.lemmas.Result.{IfOk-at_ok}
use Rattle.cgl_decode.specs.DeckResult.{deck_result}
use Rattle.cgl_decode.specs.Records.{kept}
use Rattle.cgl_decode.specs.declared.kinds.Section.TheVariants.{Start}
use Rattle.cgl_outside.specs.Line.{written}
use Rattle.cgl_outside.proofs.SoFarLaws.{IsSoFar, IsStep, so_far_begun, step_of}
use Rattle.cgl_mps.specs.State.{line_record}
use Rattle.cgl_mps.proofs.LoopLaws.{read_on, read_whole, long_line, over_line, no_line, bad_line, last_line, good_line}
use Rattle.cgl_mps.proofs.read.read_lines.Goals as goal

pub lines-init : goal.lines-init
lines-init g c =
    let held = g.S.Shelf.held c.args.shelf.now in
    let name = c.args.name.now in
    record {
      text = [];
      before = [];
      stands = c.requires;
      so_far = subst (λ reading. IsSoFar held name 4096 deck_result (read_on Start []) reading []) (sym c.in-Ok.ensures.begun) (so_far_begun held name 4096 deck_result (read_on Start []) read_whole);
      held = refl;
      reads = refl;
      writes = refl;
    }

pub returns-in_err-section-in-Ok-Line-clause-fault : goal.returns-in_err-section-in-Ok-Line-clause-fault
returns-in_err-section-in-Ok-Line-clause-fault g c =
    let held = g.S.Shelf.held c.args.shelf.now in
    let inv = c.lines.invariant in
    let so_far = inv.so_far in
    let step : IsStep held c.lines.lines c.next.new.self c.next.result =
    step_of held (g.S.Shelf.held c.lines.shelf) (g.S.Shelf.held c.next.new.shelf) c.lines.lines c.next.new.self c.next.result inv.held c.next.ensures.held so_far.open_ c.next.ensures.last c.next.ensures.says c.next.ensures.follows c.next.ensures.shape c.next.ensures.found c.next.ensures.ended c.next.ensures.name c.next.ensures.longest in
    let told = bad_line held c.args.name.now c.lines.section inv.before c.lines.lines c.next.new.self inv.text so_far c.next.result step c.in-Ok-Line.field-0 c.in-Ok-Line.is c.in-Ok-Line.field-0-is c.number.result c.bytes.result.now c.number.ensures c.bytes.ensures c.in_err-section-in-Ok-Line.field-0.0 c.lines.state inv.stands c.in_err-section-in-Ok-Line.ensures.fault in
    search (rules, told)

pub returns-then-is-clause-deck : goal.returns-then-is-clause-deck
returns-then-is-clause-deck g c =
    let held = g.S.Shelf.held c.args.shelf.now in
    let inv = c.lines.invariant in
    let so_far = inv.so_far in
    let step : IsStep held c.lines.lines c.next.new.self c.next.result =
    step_of held (g.S.Shelf.held c.lines.shelf) (g.S.Shelf.held c.next.new.shelf) c.lines.lines c.next.new.self c.next.result inv.held c.next.ensures.held so_far.open_ c.next.ensures.last c.next.ensures.says c.next.ensures.follows c.next.ensures.shape c.next.ensures.found c.next.ensures.ended c.next.ensures.name c.next.ensures.longest in
    λ m made.
    let taken = c.in_ok-section-in-Ok-Line.ensures in
    last_line held c.args.name.now c.lines.section inv.before c.lines.lines c.next.new.self inv.text so_far c.next.result step c.in-Ok-Line.field-0 c.in-Ok-Line.is c.in-Ok-Line.field-0-is c.number.result c.bytes.result.now c.number.ensures c.bytes.ensures c.lines.state c.take_line.new.state c.in_ok-section-in-Ok-Line.section m inv.stands taken.taken taken.section (sym c.is.ensures ∙ c.if-is.true) made

pub lines-preserved : goal.lines-preserved
lines-preserved g c =
    let held = g.S.Shelf.held c.args.shelf.now in
    let inv = c.lines.invariant in
    let so_far = inv.so_far in
    let step : IsStep held c.lines.lines c.next.new.self c.next.result =
    step_of held (g.S.Shelf.held c.lines.shelf) (g.S.Shelf.held c.next.new.shelf) c.lines.lines c.next.new.self c.next.result inv.held c.next.ensures.held so_far.open_ c.next.ensures.last c.next.ensures.says c.next.ensures.follows c.next.ensures.shape c.next.ensures.found c.next.ensures.ended c.next.ensures.name c.next.ensures.longest in
    let new = c.next.new.self in
    let taken = c.in_ok-section-in-Ok-Line.ensures in
    record {
      text = inv.text ++ written new.line new.has_lf;
      before = inv.before ++ kept (line_record c.number.result c.lines.section c.bytes.result.now ∷ []);
      stands = taken.taken.stands inv.before inv.stands;
      so_far = good_line held c.args.name.now c.lines.section inv.before c.lines.lines c.next.new.self inv.text so_far c.next.result step c.in-Ok-Line.field-0 c.in-Ok-Line.is c.in-Ok-Line.field-0-is c.number.result c.bytes.result.now c.number.ensures c.bytes.ensures c.lines.state c.take_line.new.state c.in_ok-section-in-Ok-Line.section inv.stands taken.taken taken.section (sym c.is.ensures ∙ c.if-is.false);
      held = c.next.ensures.held ∙ inv.held;
      reads = IfOk-at_ok (λ _. g.S.Shelf.failed_reads c.next.new.shelf ≡ g.S.Shelf.failed_reads c.lines.shelf) c.in-Ok-Line.is (c.next.ensures.reads so_far.open_).ok ∙ inv.reads;
      writes = c.next.ensures.writes ∙ inv.writes;
    }

pub returns-in-Ok-TooLong-clause-fault : goal.returns-in-Ok-TooLong-clause-fault
returns-in-Ok-TooLong-clause-fault g c =
    let held = g.S.Shelf.held c.args.shelf.now in
    let inv = c.lines.invariant in
    let so_far = inv.so_far in
    let step : IsStep held c.lines.lines c.next.new.self c.next.result =
    step_of held (g.S.Shelf.held c.lines.shelf) (g.S.Shelf.held c.next.new.shelf) c.lines.lines c.next.new.self c.next.result inv.held c.next.ensures.held so_far.open_ c.next.ensures.last c.next.ensures.says c.next.ensures.follows c.next.ensures.shape c.next.ensures.found c.next.ensures.ended c.next.ensures.name c.next.ensures.longest in
    long_line held c.args.name.now c.lines.section inv.before c.lines.lines c.next.new.self inv.text so_far c.next.result step c.in-Ok-TooLong.field-0 c.in-Ok-TooLong.is c.in-Ok-TooLong.field-0-is c.number-in-Ok-TooLong.result c.number-in-Ok-TooLong.ensures

pub returns-in-Ok-Over-clause-fault : goal.returns-in-Ok-Over-clause-fault
returns-in-Ok-Over-clause-fault g c =
    let held = g.S.Shelf.held c.args.shelf.now in
    let inv = c.lines.invariant in
    let so_far = inv.so_far in
    let step : IsStep held c.lines.lines c.next.new.self c.next.result =
    step_of held (g.S.Shelf.held c.lines.shelf) (g.S.Shelf.held c.next.new.shelf) c.lines.lines c.next.new.self c.next.result inv.held c.next.ensures.held so_far.open_ c.next.ensures.last c.next.ensures.says c.next.ensures.follows c.next.ensures.shape c.next.ensures.found c.next.ensures.ended c.next.ensures.name c.next.ensures.longest in
    over_line held c.args.name.now c.lines.section inv.before c.lines.lines c.next.new.self inv.text so_far c.next.result step c.in-Ok-Over.field-0 c.in-Ok-Over.is c.in-Ok-Over.field-0-is c.number-in-Ok-Over.result c.number-in-Ok-Over.ensures

pub returns-in-Ok-End-clause-fault : goal.returns-in-Ok-End-clause-fault
returns-in-Ok-End-clause-fault g c =
    let held = g.S.Shelf.held c.args.shelf.now in
    let inv = c.lines.invariant in
    let so_far = inv.so_far in
    let step : IsStep held c.lines.lines c.next.new.self c.next.result =
    step_of held (g.S.Shelf.held c.lines.shelf) (g.S.Shelf.held c.next.new.shelf) c.lines.lines c.next.new.self c.next.result inv.held c.next.ensures.held so_far.open_ c.next.ensures.last c.next.ensures.says c.next.ensures.follows c.next.ensures.shape c.next.ensures.found c.next.ensures.ended c.next.ensures.name c.next.ensures.longest in
    no_line held c.args.name.now c.lines.section inv.before c.lines.lines c.next.new.self inv.text so_far c.next.result step c.in-Ok-End.field-0 c.in-Ok-End.is c.in-Ok-End.field-0-is c.number-in-Ok-End.result c.number-in-Ok-End.ensures
