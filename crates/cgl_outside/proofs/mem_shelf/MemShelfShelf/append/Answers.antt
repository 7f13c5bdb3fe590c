use Rattle.std.proofs.Common.{ap, ◌∙◌, Some, IsSome, inl, inr, arith}
use Rattle.std.specs.Option.{is_some}
use Rattle.cgl_outside.specs.declared.fail.Call.TheVariants.{Append}
use Rattle.cgl_outside.specs.MemShelf.{MemFiles}
use Rattle.cgl_outside.specs.Shelf.{file_of, with_more}
use Rattle.cgl_outside.proofs.CountRules.{keeps, keeps_none, false_not_true, no_fault, one_fault, excused, not_found, lacks_by}
use Rattle.cgl_outside.proofs.FilesRules.{none_kept}
use Rattle.cgl_outside.proofs.MemShelfRules.{next_is, append_begun, append_lacking, append_failed, append_refused}
use Rattle.cgl_outside.proofs.mem_shelf.MemShelfShelf.append.Goals as goal

pub returns-in-Ok-true : goal.returns-in-Ok-true
unfolding file_of
returns-in-Ok-true c =
    let says = rw (ap (λ (s : MemFiles). s.files) c.self.view_is) at c.in-Ok-true.ensures in
    let found = says.held.0 c.in-Ok-true.field-0-test in
    let next = next_is Append (λ s. s.appends) _ _ _ _ c.self.view_is c.deref.ensures.value c.begin-fault.ensures.listed in
    let made = append_begun _ _ _ _ c.self.view_is c.begin-fault.ensures.call in
    record {
      ok = says.ok ∙ ap (with_more (Some c.args.self.now.files) c.args.name.now) (c.kept.ensures.all (keeps_none _ c.if-is_none.ensures));
      found = λ _. found;
      err = tt;
      writes = no_fault _ _ (ap (λ (s : MemFiles). s.failed_writes) made);
      reads = ap (λ (s : MemFiles). s.failed_reads) made;
      unlisted = ap is_some next ∙ c.if-is_none.ensures;
      rest = made;
      lacking = λ lacks. absurd (not_found _ _ lacks found);
      fault = tt;
    }

pub returns-in-Ok-true-2 : goal.returns-in-Ok-true-2
unfolding file_of
returns-in-Ok-true-2 c =
    let says = rw (ap (λ (s : MemFiles). s.files) c.self.view_is) at c.in-Ok-true.ensures in
    let found = says.held.0 c.in-Ok-true.field-0-test in
    let next = next_is Append (λ s. s.appends) _ _ _ _ c.self.view_is c.deref.ensures.value c.begin-fault.ensures.listed in
    let keep = keeps c.begin-fault.result c.if-is_none.ensures in
    let more = says.ok ∙ ap (with_more (Some c.args.self.now.files) c.args.name.now) (c.kept.ensures.front keep.0 keep.1) in
    let failed = append_failed _ _ _ _ c.saturating_add-self-inside.result c.self.view_is c.begin-fault.ensures.call (omega arith) in
    record {
      ok = tt;
      found = tt;
      err = (keep.0, more);
      writes = one_fault _ _ (ap (λ (s : MemFiles). s.failed_writes) failed) (λ lacks. not_found _ _ lacks found);
      reads = ap (λ (s : MemFiles). s.failed_reads) failed;
      unlisted = tt;
      rest = tt;
      lacking = λ lacks. absurd (not_found _ _ lacks found);
      fault = λ _. inr record { keep = keep.0; listed = next ∙ keep.1; files = more; rest = failed };
    }

pub returns-in-Ok-false : goal.returns-in-Ok-false
unfolding file_of
returns-in-Ok-false c =
    let old = c.args.self.now in
    let name = c.args.name.now in
    let held = rw (ap (λ (s : MemFiles). s.files) c.self.view_is) at c.in-Ok-false.ensures.held in
    let never : IsSome (file_of (Some old.files) name) → ⊥ = λ found. false_not_true _ c.in-Ok-false.field-0-test (held.1 found) in
    let lacking = append_lacking _ _ _ _ c.self.view_is (c.in-Ok-false.ensures.none c.in-Ok-false.field-0-test) c.begin-fault.ensures.call in
    record {
      ok = tt;
      found = tt;
      err = (0, ap (λ (s : MemFiles). Some s.files) lacking ∙ none_kept old.files name c.args.bytes.now);
      writes = excused _ _ (ap (λ (s : MemFiles). s.failed_writes) lacking) (lacks_by old.files name never);
      reads = ap (λ (s : MemFiles). s.failed_reads) lacking;
      unlisted = tt;
      rest = tt;
      lacking = λ _. lacking;
      fault = λ found. absurd (never found);
    }

pub returns-in-Err : goal.returns-in-Err
unfolding file_of
returns-in-Err c =
    let old = c.args.self.now in
    let found = rw (ap (λ (s : MemFiles). s.files) c.self.view_is) at c.in-Err.ensures.err_held in
    let refused =
    append_refused _ _ _ _ c.saturating_add-self-inside-in-Err.result c.saturating_add-self-inside-in-Err-2.result c.self.view_is c.in-Err.ensures.err
    c.begin-fault.ensures.call (omega arith) (omega arith) in
    record {
      ok = tt;
      found = tt;
      err = (0, ap (λ (s : MemFiles). Some s.files) refused ∙ none_kept old.files c.args.name.now c.args.bytes.now);
      writes = one_fault _ _ (ap (λ (s : MemFiles). s.failed_writes) refused) (λ lacks. not_found _ _ lacks found);
      reads = ap (λ (s : MemFiles). s.failed_reads) refused;
      unlisted = tt;
      rest = tt;
      lacking = λ lacks. absurd (not_found _ _ lacks found);
      fault = λ _. inl refused;
    }
