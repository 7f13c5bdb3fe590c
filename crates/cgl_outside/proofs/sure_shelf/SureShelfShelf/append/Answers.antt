use Rattle.std.proofs.Common.{ap, ◌∙◌, Some, IsSome, arith}
use Rattle.cgl_outside.specs.Shelf.{file_of}
use Rattle.cgl_outside.specs.SureShelf.{SureFiles}
use Rattle.cgl_outside.proofs.CountRules.{false_not_true, no_fault, one_fault, excused, not_found, lacks_by}
use Rattle.cgl_outside.proofs.FilesRules.{none_kept}
use Rattle.cgl_outside.proofs.SureShelfRules.{files_kept, refused_once}
use Rattle.cgl_outside.proofs.sure_shelf.SureShelfShelf.append.Goals as goal

pub returns-in-Ok-true : goal.returns-in-Ok-true
unfolding file_of
returns-in-Ok-true c =
    let says = rw (ap (λ (s : SureFiles). s.files) c.self.view_is) at c.in-Ok-true.ensures in
    let found = says.held.0 c.in-Ok-true.field-0-test in
    record {
      ok = says.ok;
      found = λ _. found;
      err = tt;
      lacking = λ lacks. absurd (not_found _ _ lacks found);
      refused = tt;
      writes = no_fault _ _ (ap (λ (s : SureFiles). s.refused) c.self.view_is);
    }

pub returns-in-Ok-false : goal.returns-in-Ok-false
unfolding file_of
returns-in-Ok-false c =
    let old = c.args.self.now in
    let name = c.args.name.now in
    let held = rw (ap (λ (s : SureFiles). s.files) c.self.view_is) at c.in-Ok-false.ensures.held in
    let never : IsSome (file_of (Some old.files) name) → ⊥ = λ found. false_not_true _ c.in-Ok-false.field-0-test (held.1 found) in
    let kept = files_kept _ _ _ (c.in-Ok-false.ensures.none c.in-Ok-false.field-0-test) c.self.view_is in
    record {
      ok = tt;
      found = tt;
      err = (0, ap (λ (s : SureFiles). Some s.files) kept ∙ none_kept old.files name c.args.bytes.now);
      lacking = λ _. kept;
      refused = λ found. absurd (never found);
      writes = excused _ _ (ap (λ (s : SureFiles). s.refused) kept) (lacks_by old.files name never);
    }

pub returns-in-Err : goal.returns-in-Err
unfolding file_of
returns-in-Err c =
    let old = c.args.self.now in
    let name = c.args.name.now in
    let found = rw (ap (λ (s : SureFiles). s.files) c.self.view_is) at c.in-Err.ensures.err_held in
    let refused = refused_once _ _ _ c.saturating_add-self-inside.result c.in-Err.ensures.err (omega arith) c.self.view_is in
    record {
      ok = tt;
      found = tt;
      err = (0, ap (λ (s : SureFiles). Some s.files) refused ∙ none_kept old.files name c.args.bytes.now);
      lacking = λ lacks. absurd (not_found _ _ lacks found);
      refused = λ _. refused;
      writes = one_fault _ _ (ap (λ (s : SureFiles). s.refused) refused) (λ lacks. not_found _ _ lacks found);
    }
