use Rattle.std.proofs.Common.{ap, ◌∙◌, Some, inl, sym, arith}
use Rattle.std.specs.Option.{is_some}
use Rattle.cgl_outside.specs.declared.fail.Call.TheVariants.{Create}
use Rattle.cgl_outside.specs.MemShelf.{MemFiles}
use Rattle.cgl_outside.specs.Shelf.{with_file}
use Rattle.cgl_outside.proofs.CountRules.{no_fault, one_fault, some_not_none}
use Rattle.cgl_outside.proofs.MemShelfRules.{next_is, create_begun, create_failed, create_refused}
use Rattle.cgl_outside.proofs.mem_shelf.MemShelfShelf.create.Goals as goal

pub returns-then-is_some : goal.returns-then-is_some
returns-then-is_some c =
    let next = next_is Create (λ s. s.creates) _ _ _ _ c.self.view_is c.deref.ensures.value c.begin.ensures.listed in
    let failed = create_failed _ _ _ c.saturating_add-self-inside.result c.self.view_is c.begin.ensures.call (omega arith) in
    record {
      ok = tt;
      err = inl (ap (λ (s : MemFiles). Some s.files) failed);
      writes = one_fault _ _ (ap (λ (s : MemFiles). s.failed_writes) failed) (λ never. never);
      reads = ap (λ (s : MemFiles). s.failed_reads) failed;
      unlisted = tt;
      rest = tt;
      listed = λ _. failed;
      refused = λ none. absurd (some_not_none _ (ap is_some next ∙ sym c.if-is_some.ensures) none);
    }

pub returns-in-Ok : goal.returns-in-Ok
unfolding with_file
returns-in-Ok c =
    let next = next_is Create (λ s. s.creates) _ _ _ _ c.self.view_is c.deref.ensures.value c.begin.ensures.listed in
    let none = ap is_some next ∙ sym c.if-is_some.ensures in
    let made = create_begun _ _ _ _ c.self.view_is c.begin.ensures.call in
    record {
      ok = ap Some (rw (ap (λ (s : MemFiles). s.files) c.self.view_is) at c.in-Ok.ensures.ok);
      err = tt;
      writes = no_fault _ _ (ap (λ (s : MemFiles). s.failed_writes) made);
      reads = ap (λ (s : MemFiles). s.failed_reads) made;
      unlisted = none;
      rest = made;
      listed = λ some. absurd (some_not_none _ some none);
      refused = tt;
    }

pub returns-in-Err : goal.returns-in-Err
returns-in-Err c =
    let next = next_is Create (λ s. s.creates) _ _ _ _ c.self.view_is c.deref.ensures.value c.begin.ensures.listed in
    let none = ap is_some next ∙ sym c.if-is_some.ensures in
    let refused =
    create_refused _ _ _ _ c.saturating_add-self-inside-in-Err.result c.saturating_add-self-inside-in-Err-2.result c.self.view_is c.in-Err.ensures.err
    c.begin.ensures.call (omega arith) (omega arith) in
    record {
      ok = tt;
      err = inl (ap (λ (s : MemFiles). Some s.files) refused);
      writes = one_fault _ _ (ap (λ (s : MemFiles). s.failed_writes) refused) (λ never. never);
      reads = ap (λ (s : MemFiles). s.failed_reads) refused;
      unlisted = tt;
      rest = tt;
      listed = λ some. absurd (some_not_none _ some none);
      refused = λ _. refused;
    }
