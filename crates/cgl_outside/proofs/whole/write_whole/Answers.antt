use Rattle.std.proofs.Common.{arith, ◌≤◌, ◌∙◌, inr}
use Rattle.cgl_outside.proofs.CountRules.{no_excuse, rose_or, same_later}
use Rattle.cgl_outside.proofs.ShelfRules.{not_lacking, more_written, part_written, none_written, all_written}
use Rattle.cgl_outside.proofs.whole.write_whole.Goals as goal

pub returns-in_default : goal.returns-in_default
returns-in_default g c =
    let counts = c.in_default.ensures.writes in
    record {
      ok = tt;
      stands = none_written _ _ _ _ c.in_default.ensures.err;
      fault = no_excuse (λ never. never) (rose_or _ _ counts.failed);
      ok_writes = tt;
      later = counts.later;
      reads = c.in_default.ensures.reads;
    }

pub pieces-init : goal.pieces-init
pieces-init g c = record { place = omega arith; held = c.in-Ok.ensures.ok; writes = c.in-Ok.ensures.writes.ok; reads = c.in-Ok.ensures.reads }

pub returns-in_default-append : goal.returns-in_default-append
returns-in_default-append g c =
    let before = c.pieces.invariant in
    let counts = rw before.writes at c.in_default-append.ensures.writes in
    let err = c.in_default-append.ensures.err in
    record {
      ok = tt;
      stands = inr (part_written _ _ _ _ _ _ err.0 _ before.held err.1);
      fault = no_excuse (not_lacking _ _ _ _ before.held) (rose_or _ _ counts.failed);
      ok_writes = tt;
      later = counts.later;
      reads = c.in_default-append.ensures.reads ∙ before.reads;
    }

pub pieces-preserved : goal.pieces-preserved
pieces-preserved g c =
    let le : c.pieces.done ≤ c.min-end.result = omega (arith, c.min-end.ensures, c.pieces-test.true) in
    record {
      place = omega (arith, c.min-end.ensures);
      held = more_written _ _ _ _ _ _ _ le c.pieces.invariant.held c.in-Ok-append.ensures.ok;
      writes = c.in-Ok-append.ensures.writes.ok ∙ c.pieces.invariant.writes;
      reads = c.in-Ok-append.ensures.reads ∙ c.pieces.invariant.reads;
    }

pub pieces-smaller : goal.pieces-smaller
pieces-smaller g c = omega (arith, c.min-end.ensures, c.pieces-test.true)

pub returns : goal.returns
returns g c =
    let before = c.pieces.invariant in
    record {
      ok = all_written _ _ _ _ _ before.held (omega arith);
      stands = tt;
      fault = tt;
      ok_writes = before.writes;
      later = same_later _ _ before.writes;
      reads = before.reads;
    }
