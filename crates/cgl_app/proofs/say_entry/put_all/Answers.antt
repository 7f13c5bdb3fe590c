use Rattle.std.proofs.Common.{arith, ◌∙◌, ◌<◌, ◌≤◌, refl, sym, ap, map, length, List, ℕ, [], Bor}
use Rattle.std.proofs.Math.ListN.{get_or-map}
use Rattle.std.proofs.lemmas.List.{length-map, take_all}
use Rattle.cgl_outside.specs.ScriptLaws.{more_said, part_said, none_said}
use Rattle.cgl_outside.specs.Says.{joined}
use Rattle.cgl_outside.specs.Shelf.{Rose}
use Rattle.cgl_outside.specs.Sink.{with_put}
use Rattle.cgl_app.proofs.SaidLaws.{broken_of}
use Rattle.cgl_app.proofs.say_entry.put_all.Goals as goal

pub pieces-init : goal.pieces-init
pieces-init g c = record { written = none_said (map (λ (p : Bor (List ℕ)). p.now) c.args.pieces.now) _; faults = refl }

pub pieces-preserved : goal.pieces-preserved
pieces-preserved g c =
    let put = c.in-Ok.ensures in
    let is = sym (get_or-map (λ (p : Bor (List ℕ)). p.now) c.args.pieces.now c.pieces.piece-index (record { ref_ptr = (0, 0); now = [] })) in
    let within : c.pieces.piece-index < length (map (λ (p : Bor (List ℕ)). p.now) c.args.pieces.now) = omega (arith, c.pieces-test.true, length-map c.args.pieces.now (λ (p : Bor (List ℕ)). p.now)) in
    record {
      written = more_said _ _ _ _ _ _ within is c.pieces.invariant.written put.ok;
      faults = put.faults.ok ∙ c.pieces.invariant.faults;
    }

pub returns-in_default-clause-err : goal.returns-in_default-clause-err
returns-in_default-clause-err g c =
    let put = c.in_default.ensures in
    let is = sym (get_or-map (λ (p : Bor (List ℕ)). p.now) c.args.pieces.now c.pieces.piece-index (record { ref_ptr = (0, 0); now = [] })) in
    let within : c.pieces.piece-index < length (map (λ (p : Bor (List ℕ)). p.now) c.args.pieces.now) = omega (arith, c.pieces-test.true, length-map c.args.pieces.now (λ (p : Bor (List ℕ)). p.now)) in
    let rose : Rose (g.E.Sink.faults c.args.err.now) (g.E.Sink.faults c.put.new.self) = grind (arith, put.faults.failed, c.pieces.invariant.faults) in
    broken_of _ _ _ _ _ (part_said _ _ put.err.0 _ _ _ _ _ _ within is c.pieces.invariant.written put.err.1 rose) rose
