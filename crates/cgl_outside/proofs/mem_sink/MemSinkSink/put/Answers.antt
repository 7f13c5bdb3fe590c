use Rattle.std.proofs.Common.{ap, ◌∙◌, ◌++◌, ◌+◌, Some, inr, sym, arith}
use Rattle.std.specs.Option.{is_some}
use Rattle.cgl_outside.specs.MemSink.{MemBytes, put_keep}
use Rattle.cgl_outside.specs.Sink.{with_put}
use Rattle.cgl_outside.proofs.CountRules.{keeps, keeps_none, no_fault, one_fault}
use Rattle.cgl_outside.proofs.SinkLaws.{put_begun, put_failed}
use Rattle.cgl_outside.proofs.mem_sink.MemSinkSink.put.Goals as goal

pub returns-then-is_some : goal.returns-then-is_some
unfolding with_put
returns-then-is_some c =
    let old = c.args.self.now in
    let keep = keeps c.begin-fault.result (sym c.if-is_some.ensures) in
    let items = c.in-Ok.ensures.items ∙ ap (λ xs. c.self.inside.bytes.items ++ xs) (c.kept.ensures.front keep.0 keep.1) in
    let front = rw (ap (λ (s : MemBytes). s.bytes) c.self.view_is) at items in
    let failed = put_failed _ _ _ _ _ c.saturating_add-self-inside-then-is_some.result c.self.view_is front c.begin-fault.ensures.call (omega arith) in
    let listed = c.begin-fault.ensures.listed ∙ ap (λ fails. put_keep fails (c.self.inside.puts + 1)) c.deref.ensures.value in
    record {
      ok = tt;
      err = (keep.0, ap Some front);
      faults = one_fault _ _ (ap (λ (s : MemBytes). s.faults) failed) (λ never. never);
      unlisted = tt;
      rest = tt;
      fault = inr record {
        keep = keep.0;
        listed = ap (λ (s : MemBytes). put_keep s.fails (s.puts + 1)) (sym c.self.view_is) ∙ sym listed ∙ keep.1;
        rest = failed;
      };
    }

pub returns : goal.returns
unfolding with_put
returns c =
    let old = c.args.self.now in
    let none = keeps_none _ (sym c.if-is_some.ensures) in
    let items = c.in-Ok.ensures.items ∙ ap (λ xs. c.self.inside.bytes.items ++ xs) (c.kept.ensures.all none) in
    let made = put_begun _ _ _ _ c.self.view_is c.begin-fault.ensures.call in
    let listed = c.begin-fault.ensures.listed ∙ ap (λ fails. put_keep fails (c.self.inside.puts + 1)) c.deref.ensures.value in
    record {
      ok = ap Some (rw (ap (λ (s : MemBytes). s.bytes) c.self.view_is) at items);
      err = tt;
      faults = no_fault _ _ (ap (λ (s : MemBytes). s.faults) made);
      unlisted = ap is_some (ap (λ (s : MemBytes). put_keep s.fails (s.puts + 1)) (sym c.self.view_is) ∙ sym listed) ∙ sym c.if-is_some.ensures;
      rest = made;
      fault = tt;
    }
