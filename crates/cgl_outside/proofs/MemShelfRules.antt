-- The states of files in memory, one call after another.
use Rattle.std.proofs.Common.{◌≡◌, ◌+◌, ℕ, List, Option, sym, ap, ◌∙◌}
use Rattle.cgl_outside.specs.declared.fail.Call.{Call}
use Rattle.cgl_outside.specs.declared.fail.Fail.{Fail}
use Rattle.cgl_outside.specs.Fails.{listed_keep}
use Rattle.cgl_outside.specs.Shelf.{Files, risen}
use Rattle.cgl_outside.specs.MemShelf.{MemFiles, with_read, with_create, with_append, with_read_fault, with_write_fault, with_write_refused}

-- what the list says of the next call of a kind
pub next_is : (call : Call) (count : MemFiles → ℕ) (s old : MemFiles) (fails : List Fail) (fault : Option ℕ) → s ≡ old → fails ≡ s.fails
    → fault ≡ listed_keep fails call (count s + 1) → listed_keep old.fails call (count old + 1) ≡ fault
next_is call count s old fails fault e same listed =
    ap (λ (s : MemFiles). listed_keep s.fails call (count s + 1)) (sym e) ∙ ap (λ fails. listed_keep fails call (count s + 1)) (sym same) ∙ sym listed

pub read_begun : (s old : MemFiles) (n : ℕ) → s ≡ old → n ≡ risen s.reads → record s { reads = n } ≡ with_read old
read_begun s old n e call = ap (λ n. record s { reads = n }) call ∙ ap with_read e

pub read_failed : (s old : MemFiles) (n m : ℕ) → s ≡ old → n ≡ risen s.reads → m ≡ risen s.failed_reads
    → record s { reads = n; failed_reads = m } ≡ with_read_fault (with_read old)
read_failed s old n m e call fault = ap (λ m. record s { reads = n; failed_reads = m }) fault ∙ ap with_read_fault (read_begun s old n e call)

pub create_begun : (s old : MemFiles) (files : Files) (n : ℕ) → s ≡ old → n ≡ risen s.creates
    → record s { files = files; creates = n } ≡ record (with_create old) { files = files }
create_begun s old files n e call = ap (λ n. record s { files = files; creates = n }) call ∙ ap (λ s. record (with_create s) { files = files }) e

pub create_failed : (s old : MemFiles) (n m : ℕ) → s ≡ old → n ≡ risen s.creates → m ≡ risen s.failed_writes
    → record s { creates = n; failed_writes = m } ≡ with_write_fault (with_create old)
create_failed s old n m e call fault =
    ap (λ m. record s { creates = n; failed_writes = m }) fault ∙ ap (λ n. with_write_fault (record s { creates = n })) call
    ∙ ap (λ s. with_write_fault (with_create s)) e

pub create_refused : (s old : MemFiles) (files : Files) (n m k : ℕ) → s ≡ old → files ≡ s.files → n ≡ risen s.creates → m ≡ risen s.failed_writes → k ≡ risen s.refused
    → record s { files = files; creates = n; failed_writes = m; refused = k } ≡ with_write_refused (with_create old)
create_refused s old files n m k e same call fault refused =
    ap (λ files. record s { files = files; creates = n; failed_writes = m; refused = k }) same
    ∙ ap (λ k. record s { creates = n; failed_writes = m; refused = k }) refused
    ∙ ap (λ m. record s { creates = n; failed_writes = m; refused = risen s.refused }) fault
    ∙ ap (λ n. with_write_refused (record s { creates = n })) call
    ∙ ap (λ s. with_write_refused (with_create s)) e

pub append_begun : (s old : MemFiles) (files : Files) (n : ℕ) → s ≡ old → n ≡ risen s.appends
    → record s { files = files; appends = n } ≡ record (with_append old) { files = files }
append_begun s old files n e call = ap (λ n. record s { files = files; appends = n }) call ∙ ap (λ s. record (with_append s) { files = files }) e

pub append_lacking : (s old : MemFiles) (files : Files) (n : ℕ) → s ≡ old → files ≡ s.files → n ≡ risen s.appends
    → record s { files = files; appends = n } ≡ with_append old
append_lacking s old files n e same call =
    ap (λ files. record s { files = files; appends = n }) same ∙ ap (λ n. record s { appends = n }) call ∙ ap with_append e

pub append_failed : (s old : MemFiles) (files : Files) (n m : ℕ) → s ≡ old → n ≡ risen s.appends → m ≡ risen s.failed_writes
    → record s { files = files; appends = n; failed_writes = m } ≡ record (with_write_fault (with_append old)) { files = files }
append_failed s old files n m e call fault =
    ap (λ m. record s { files = files; appends = n; failed_writes = m }) fault
    ∙ ap (λ n. record (with_write_fault (record s { appends = n })) { files = files }) call
    ∙ ap (λ s. record (with_write_fault (with_append s)) { files = files }) e

pub append_refused : (s old : MemFiles) (files : Files) (n m k : ℕ) → s ≡ old → files ≡ s.files → n ≡ risen s.appends → m ≡ risen s.failed_writes → k ≡ risen s.refused
    → record s { files = files; appends = n; failed_writes = m; refused = k } ≡ with_write_refused (with_append old)
append_refused s old files n m k e same call fault refused =
    ap (λ files. record s { files = files; appends = n; failed_writes = m; refused = k }) same
    ∙ ap (λ k. record s { appends = n; failed_writes = m; refused = k }) refused
    ∙ ap (λ m. record s { appends = n; failed_writes = m; refused = risen s.refused }) fault
    ∙ ap (λ n. with_write_refused (record s { appends = n })) call
    ∙ ap (λ s. with_write_refused (with_append s)) e
