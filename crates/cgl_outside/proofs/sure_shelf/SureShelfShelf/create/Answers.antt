use Rattle.std.proofs.Common.{ap, ◌∙◌, Some, inl, arith, refl}
use Rattle.cgl_outside.specs.Shelf.{with_file}
use Rattle.cgl_outside.specs.SureShelf.{SureFiles}
use Rattle.cgl_outside.proofs.CountRules.{no_fault, one_fault}
use Rattle.cgl_outside.proofs.SureShelfRules.{refused_once}
use Rattle.cgl_outside.proofs.sure_shelf.SureShelfShelf.create.Goals as goal

pub returns-in-Ok : goal.returns-in-Ok
unfolding with_file
returns-in-Ok c = record {
  ok = ap (λ (s : SureFiles). Some s.files) c.in-Ok.ensures.ok;
  err = tt;
  refused = tt;
  writes = no_fault _ _ (ap (λ (s : SureFiles). s.refused) c.in-Ok.ensures.ok);
}

pub returns-in-Err : goal.returns-in-Err
returns-in-Err c =
    let refused = refused_once _ _ _ c.saturating_add-self-inside.result refl (omega arith) (c.self.view_is ∙ c.in-Err.ensures.err) in
    record {
      ok = tt;
      err = inl (ap (λ (s : SureFiles). Some s.files) refused);
      refused = refused;
      writes = one_fault _ _ (ap (λ (s : SureFiles). s.refused) refused) (λ never. never);
    }
