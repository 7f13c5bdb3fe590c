-- Bytes in memory with a list of faults, and the puts and the faults so far.
use Rattle.std.specs.Prelude.{◌≡◌, ℕ, ◌+◌, List, ◌++◌, take, nat_eq, Option, Some, refl}
use Rattle.std.specs.List.{find}
use Rattle.std.specs.Option.{option_map}
use Rattle.std.specs.Coded.{Coded, code_by, coded×, coded_ℕ, coded_list}
use Rattle.cgl_outside.specs.Shelf.{risen}

pub record MemBytes : Type 0 where
  pub bytes : List ℕ
  pub fails : List (ℕ × ℕ)
  pub puts : ℕ
  pub faults : ℕ
  pub refused : ℕ

abbrev pub mem_bytes_code : Coded MemBytes
mem_bytes_code =
    code_by (List ℕ × (List (ℕ × ℕ) × (ℕ × (ℕ × ℕ))))
    (coded× (coded_list coded_ℕ) (coded× (coded_list (coded× coded_ℕ coded_ℕ)) (coded× coded_ℕ (coded× coded_ℕ coded_ℕ))))
    (λ s. (s.bytes, (s.fails, (s.puts, (s.faults, s.refused)))))
    (λ p. record { bytes = p.0; fails = p.1.0; puts = p.1.1.0; faults = p.1.1.1.0; refused = p.1.1.1.1 })
    (λ _. refl)

-- how many bytes the first pair for the nth put keeps, where there is one
abbrev pub put_keep : List (ℕ × ℕ) → ℕ → Option ℕ
put_keep fails nth = option_map (λ (p : ℕ × ℕ). p.1) (find (λ p. nat_eq p.0 nth) fails)

-- what the list says of the next put: how many bytes are kept, where it is to fail
abbrev pub next_put : MemBytes → Option ℕ
next_put s = put_keep s.fails (s.puts + 1)

-- one more put
abbrev pub with_call : MemBytes → MemBytes
with_call s = record s { puts = risen s.puts }

-- one more fault
abbrev pub with_fault : MemBytes → MemBytes
with_fault s = record s { faults = risen s.faults }

-- one more fault, for a growth that was refused
abbrev pub with_fault_refused : MemBytes → MemBytes
with_fault_refused s = record s { faults = risen s.faults; refused = risen s.refused }

-- a put that the list makes fail: the front of the bytes that the pair keeps stands at the end
pub record KeepsFront (before after : MemBytes) (bytes : List ℕ) : Type 0 where
  pub keep : ℕ
  pub listed : next_put before ≡ Some keep
  pub rest : after ≡ record (with_fault (with_call before)) { bytes = before.bytes ++ take keep bytes }
