-- Files in memory, and how often a growth was refused.
use Rattle.std.specs.Prelude.{ℕ, refl}
use Rattle.std.specs.Coded.{Coded, code_by, coded×, coded_ℕ, coded_list}
use Rattle.std.specs.FinMap as map
use Rattle.cgl_outside.specs.Shelf.{Files, risen}

pub record SureFiles : Type 0 where
  pub files : Files
  pub refused : ℕ

abbrev pub sure_files_code : Coded SureFiles
sure_files_code =
    code_by (Files × ℕ) (coded× (map.code (coded_list coded_ℕ) (coded_list coded_ℕ)) coded_ℕ)
    (λ s. (s.files, s.refused)) (λ p. record { files = p.0; refused = p.1 }) (λ _. refl)

-- a growth was refused
abbrev pub with_refusal : SureFiles → SureFiles
with_refusal s = record s { refused = risen s.refused }
