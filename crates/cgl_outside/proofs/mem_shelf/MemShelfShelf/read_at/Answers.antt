use Rattle.std.proofs.Common.{ap, ◌∙◌, Some, refl, sym, arith}
use Rattle.std.specs.Option.{is_some}
use Rattle.cgl_outside.specs.declared.fail.Call.TheVariants.{Read}
use Rattle.cgl_outside.specs.MemShelf.{MemFiles}
use Rattle.cgl_outside.specs.Shelf.{Lacks, file_of}
use Rattle.cgl_outside.proofs.CountRules.{no_fault, one_fault, excused, not_found, found_by}
use Rattle.cgl_outside.proofs.FilesRules.{longest_piece, read_piece}
use Rattle.cgl_outside.proofs.MemShelfRules.{next_is, read_begun, read_failed}
use Rattle.cgl_outside.proofs.mem_shelf.MemShelfShelf.read_at.Goals as goal

pub returns-in_default : goal.returns-in_default
unfolding file_of
returns-in_default c =
    let call = read_begun _ _ _ c.self.view_is c.begin-fault.ensures.call in
    let none = rw (ap (λ (s : MemFiles). s.files) c.self.view_is) at c.in_default.ensures in
    let lacks : Lacks (Some c.args.self.now.files) c.args.name.now = record { told = refl; none = sym none } in
    record {
      within = tt;
      piece = tt;
      longest = tt;
      untouched = refl;
      found = tt;
      held = ap (λ (s : MemFiles). Some s.files) call;
      reads = excused _ _ (ap (λ (s : MemFiles). s.failed_reads) call) lacks;
      writes = ap (λ (s : MemFiles). s.failed_writes) call;
      ok = tt;
      lacking = λ _. call;
      listed = λ found. absurd (not_found _ _ lacks found);
    }

pub returns-then-is_some : goal.returns-then-is_some
unfolding file_of
returns-then-is_some c =
    let found = found_by _ _ (rw (ap (λ (s : MemFiles). s.files) c.self.view_is) at c.in-Some.ensures) in
    let next = next_is Read (λ s. s.reads) _ _ _ _ c.self.view_is c.deref.ensures.value c.begin-fault.ensures.listed in
    let failed = read_failed _ _ _ c.saturating_add-self-inside.result c.self.view_is c.begin-fault.ensures.call (omega arith) in
    record {
      within = tt;
      piece = tt;
      longest = tt;
      untouched = refl;
      found = tt;
      held = ap (λ (s : MemFiles). Some s.files) failed;
      reads = one_fault _ _ (ap (λ (s : MemFiles). s.failed_reads) failed) (λ lacks. not_found _ _ lacks found);
      writes = ap (λ (s : MemFiles). s.failed_writes) failed;
      ok = tt;
      lacking = λ lacks. absurd (not_found _ _ lacks found);
      listed = λ _. (ap is_some next ∙ sym c.if-is_some.ensures, failed);
    }

pub returns : goal.returns
unfolding file_of
returns c =
    let call = read_begun _ _ _ c.self.view_is c.begin-fault.ensures.call in
    let next = next_is Read (λ s. s.reads) _ _ _ _ c.self.view_is c.deref.ensures.value c.begin-fault.ensures.listed in
    let there = rw (ap (λ (s : MemFiles). s.files) c.self.view_is) at c.in-Some.ensures in
    record {
      within = c.copy_piece.ensures.within;
      piece = λ bytes is. read_piece bytes _ _ _ _ (there ∙ is) c.copy_piece.ensures.piece;
      longest = λ bytes is. longest_piece bytes _ _ _ _ _ (there ∙ is) c.copy_piece.ensures.longest;
      untouched = tt;
      found = λ _. found_by _ _ there;
      held = ap (λ (s : MemFiles). Some s.files) call;
      reads = no_fault _ _ (ap (λ (s : MemFiles). s.failed_reads) call);
      writes = ap (λ (s : MemFiles). s.failed_writes) call;
      ok = (ap is_some next ∙ sym c.if-is_some.ensures, call);
      lacking = λ _. call;
      listed = tt;
    }
