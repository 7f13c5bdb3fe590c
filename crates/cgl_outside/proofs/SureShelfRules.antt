-- The states of files in memory without faults, one call after another.
use Rattle.std.proofs.Common.{◌≡◌, ℕ, ap, ◌∙◌}
use Rattle.cgl_outside.specs.Shelf.{Files, risen}
use Rattle.cgl_outside.specs.SureShelf.{SureFiles, with_refusal}

-- the files stay as they were
pub files_kept : (s now : SureFiles) (files : Files) → files ≡ s.files → s ≡ now → record s { files = files } ≡ now
files_kept s now files same e = ap (λ files. record s { files = files }) same ∙ e

pub refused_once : (s now : SureFiles) (files : Files) (n : ℕ) → files ≡ s.files → n ≡ risen s.refused → s ≡ now → record { files = files; refused = n } ≡ with_refusal now
refused_once s now files n same rose e =
    ap (λ files. record s { files = files; refused = n }) same ∙ ap (λ n. record s { refused = n }) rose ∙ ap with_refusal e
