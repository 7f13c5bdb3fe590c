-- Files in memory with a list of faults: what stands in them, and the calls and the faults so far.
use Rattle.std.specs.Prelude.{◌≡◌, ℕ, ◌+◌, List, take, Option, Some, refl}
use Rattle.std.specs.Coded.{Coded, code_by, coded×, coded_ℕ, coded_list}
use Rattle.std.specs.FinMap as map
use Rattle.cgl_outside.specs.declared.fail.Call.TheVariants.{Read, Create, Append}
use Rattle.cgl_outside.specs.declared.fail.Fail.{Fail}
use Rattle.cgl_outside.specs.Fails.{listed_keep, fail_code}
use Rattle.cgl_outside.specs.Shelf.{Files, risen, with_more}

pub record MemFiles : Type 0 where
  pub files : Files
  pub fails : List Fail
  pub reads : ℕ
  pub creates : ℕ
  pub appends : ℕ
  pub failed_reads : ℕ
  pub failed_writes : ℕ
  pub refused : ℕ

abbrev pub Parts : Type 0
Parts = Files × (List Fail × (ℕ × (ℕ × (ℕ × (ℕ × (ℕ × ℕ))))))

abbrev pub parts_code : Coded Parts
parts_code =
    coded× (map.code (coded_list coded_ℕ) (coded_list coded_ℕ)) (coded× (coded_list fail_code)
    (coded× coded_ℕ (coded× coded_ℕ (coded× coded_ℕ (coded× coded_ℕ (coded× coded_ℕ coded_ℕ))))))

abbrev pub mem_files_code : Coded MemFiles
mem_files_code =
    code_by Parts parts_code
    (λ s. (s.files, (s.fails, (s.reads, (s.creates, (s.appends, (s.failed_reads, (s.failed_writes, s.refused))))))))
    (λ p. record {
      files = p.0;
      fails = p.1.0;
      reads = p.1.1.0;
      creates = p.1.1.1.0;
      appends = p.1.1.1.1.0;
      failed_reads = p.1.1.1.1.1.0;
      failed_writes = p.1.1.1.1.1.1.0;
      refused = p.1.1.1.1.1.1.1;
    })
    (λ _. refl)

-- what the list says of the next call of each kind: how many bytes are kept, where it is to fail
abbrev pub next_read : MemFiles → Option ℕ
next_read s = listed_keep s.fails Read (s.reads + 1)

abbrev pub next_create : MemFiles → Option ℕ
next_create s = listed_keep s.fails Create (s.creates + 1)

abbrev pub next_append : MemFiles → Option ℕ
next_append s = listed_keep s.fails Append (s.appends + 1)

-- one more call of a kind
abbrev pub with_read : MemFiles → MemFiles
with_read s = record s { reads = risen s.reads }

abbrev pub with_create : MemFiles → MemFiles
with_create s = record s { creates = risen s.creates }

abbrev pub with_append : MemFiles → MemFiles
with_append s = record s { appends = risen s.appends }

-- one more fault
abbrev pub with_read_fault : MemFiles → MemFiles
with_read_fault s = record s { failed_reads = risen s.failed_reads }

abbrev pub with_write_fault : MemFiles → MemFiles
with_write_fault s = record s { failed_writes = risen s.failed_writes }

-- one more fault, for a growth that was refused
abbrev pub with_write_refused : MemFiles → MemFiles
with_write_refused s = record s { failed_writes = risen s.failed_writes; refused = risen s.refused }

-- an append that the list makes fail: the front of the bytes that the entry keeps stands at the end
pub record KeepsFront (before after : MemFiles) (name bytes : List ℕ) : Type 0 where
  pub keep : ℕ
  pub listed : next_append before ≡ Some keep
  pub files : Some after.files ≡ with_more (Some before.files) name (take keep bytes)
  pub rest : after ≡ record (with_write_fault (with_append before)) { files = after.files }
