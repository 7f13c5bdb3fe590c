-- Bytes in memory, and how often a growth was refused.
use Rattle.std.specs.Prelude.{ℕ, List, refl}
use Rattle.std.specs.Coded.{Coded, code_by, coded×, coded_ℕ, coded_list}

pub record SureBytes : Type 0 where
  pub bytes : List ℕ
  pub refused : ℕ

abbrev pub sure_bytes_code : Coded SureBytes
sure_bytes_code =
    code_by (List ℕ × ℕ) (coded× (coded_list coded_ℕ) coded_ℕ)
    (λ s. (s.bytes, s.refused)) (λ p. record { bytes = p.0; refused = p.1 }) (λ _. refl)
