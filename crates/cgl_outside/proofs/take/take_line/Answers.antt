use Rattle.std.proofs.Common.{◌≡◌, ◌+◌, ◌-◌, None, length, inr, ap, sym, ◌∙◌, arith}
use Rattle.cgl_outside.specs.Shelf.{file_of}
use Rattle.cgl_outside.specs.Front.{Front, Follows}
use Rattle.cgl_outside.specs.Turns.{TurnSays}
use Rattle.cgl_outside.proofs.TurnLaws.{turn_says, turn_mid, found_by_now, turn_stands, turn_bare, turn_shape, goes_on_stands, leaves_off, nothing_goes_on}
use Rattle.cgl_outside.proofs.take.take_line.Goals as goal

pub pieces-preserved : goal.pieces-preserved
pieces-preserved g c =
    let before = c.pieces.invariant in
    let follows : Follows (g.S.Shelf.held c.args.shelf.now) c.fill.new.self = rw before.held at c.in-Ok.ensures.follows in
    let name : c.take_turn.new.ahead.name ≡ c.fill.new.self.name = c.take_turn.ensures.name in
    let says : TurnSays c.args.longest (c.done.result - c.done-start.result) c.fill.new.self c.take_turn.new.ahead c.pieces.line.items c.take_turn.new.line.items None = rw c.in-Ok-None.field-0-is at c.in-Ok-None.ensures.says in
    let now : c.take_turn.new.ahead.done ≡ c.fill.new.self.done + length c.fill.new.self.ahead = ap (λ (f : Front). f.done) says.0.new_is in
    record {
      follows = λ file is. goes_on_stands file c.fill.new.self c.take_turn.new.ahead (follows file (ap (file_of (g.S.Shelf.held c.args.shelf.now)) (sym name) ∙ is)) says.0;
      name = name ∙ c.in-Ok.ensures.name ∙ before.name;
      start = before.start;
      later = omega (arith, now, c.in-Ok.ensures.done, before.later);
      small = omega (arith, now, says.0.within);
      mid = λ file is. turn_mid c.args.longest c.done-start.result _ c.pieces.ahead.done file c.fill.new.self c.take_turn.new.ahead c.pieces.line.items c.take_turn.new.line.items
          (follows file (ap (file_of (g.S.Shelf.held c.args.shelf.now)) (c.in-Ok.ensures.name ∙ before.name) ∙ is)) before.later c.in-Ok.ensures.done
          (omega (arith, c.done.ensures, c.in-Ok.ensures.done)) (before.mid file is) says.0 says.1;
      bare = turn_bare c.args.longest c.done-start.result (c.done.result - c.done-start.result) c.pieces.ahead.done c.fill.new.self c.take_turn.new.ahead c.pieces.line.items c.take_turn.new.line.items before.later c.in-Ok.ensures.done
          (omega (arith, c.done.ensures, c.in-Ok.ensures.done)) before.bare says.0 says.1;
      past = λ past.
          let same = before.past past in
          let filled : c.fill.new.self ≡ c.pieces.ahead = (c.in-Ok.ensures.past (rw same past)).1 in
          absurd (nothing_goes_on c.fill.new.self c.take_turn.new.ahead (ap (λ (f : Front). f.ahead) (filled ∙ same) ∙ past.empty) says.0);
      found = inr (found_by_now _ _ c.args.ahead.now c.pieces.ahead before.held before.found c.in-Ok.ensures.found);
      held = c.in-Ok.ensures.held ∙ before.held;
      reads = c.in-Ok.ensures.reads.ok ∙ before.reads;
      writes = c.in-Ok.ensures.writes ∙ before.writes;
    }

pub returns-in-Ok-Some-clause-says : goal.returns-in-Ok-Some-clause-says
returns-in-Ok-Some-clause-says g c file is =
    let before = c.pieces.invariant in
    let follows : Follows (g.S.Shelf.held c.args.shelf.now) c.fill.new.self = rw before.held at c.in-Ok.ensures.follows in
    turn_says c.args.longest c.args.ahead.now.done c.done-start.result _ c.pieces.ahead.done file c.fill.new.self c.take_turn.new.ahead c.pieces.line.items c.take_turn.new.line.items c.in-Ok-Some.found
    (follows file (ap (file_of (g.S.Shelf.held c.args.shelf.now)) (c.in-Ok.ensures.name ∙ before.name) ∙ is)) c.in-Ok.ensures.some before.start before.later c.in-Ok.ensures.done
    (omega (arith, c.done.ensures, c.in-Ok.ensures.done)) before.small (before.mid file is) (rw c.in-Ok-Some.field-0-is at c.in-Ok-Some.ensures.says)

pub returns-in-Ok-Some-clause-follows : goal.returns-in-Ok-Some-clause-follows
returns-in-Ok-Some-clause-follows g c =
    let follows : Follows (g.S.Shelf.held c.args.shelf.now) c.fill.new.self = rw c.pieces.invariant.held at c.in-Ok.ensures.follows in
    leaves_off (g.S.Shelf.held c.args.shelf.now) c.fill.new.self.name c.take_turn.new.ahead c.in-Ok-Some.found
    (λ file is. turn_stands c.args.longest _ file c.fill.new.self c.take_turn.new.ahead c.pieces.line.items c.take_turn.new.line.items c.in-Ok-Some.found
    (follows file is) (rw c.in-Ok-Some.field-0-is at c.in-Ok-Some.ensures.says)) (sym c.take_turn.ensures.name)

pub returns-in-Ok-Some-clause-shape : goal.returns-in-Ok-Some-clause-shape
returns-in-Ok-Some-clause-shape g c =
    let before = c.pieces.invariant in
    turn_shape c.args.longest c.args.ahead.now.done c.done-start.result (c.done.result - c.done-start.result) c.pieces.ahead.done c.fill.new.self c.take_turn.new.ahead c.pieces.line.items c.take_turn.new.line.items c.in-Ok-Some.found
    before.start before.later c.in-Ok.ensures.done (omega (arith, c.done.ensures, c.in-Ok.ensures.done)) before.small c.in-Ok.ensures.some before.bare (rw c.in-Ok-Some.field-0-is at c.in-Ok-Some.ensures.says)
