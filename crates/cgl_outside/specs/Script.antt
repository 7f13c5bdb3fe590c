-- What a command does, in order, and what may come of it. A refusal is of any type: each step has the one that it ends with
-- where it fails.
use Rattle.std.specs.Prelude.{◌≡◌, ℕ, List, take, Option, Some, None, IsSome, ◌⊎◌, Result, Ok, Err}
use Rattle.cgl_outside.specs.Shelf.{Held, file_of, with_file, Lacks, PartWritten, Rose}
use Rattle.cgl_outside.specs.Sink.{with_put}
use Rattle.cgl_outside.specs.View.{View}

pub data Script (R : Type 0) : Type 0 where
  Reads : R → List ℕ → (List ℕ → Script R) → Script R  -- reads the file of this name, then goes on by its bytes
  Works : Script R → Script R  -- works in memory, which may be refused
  Writes : R → List ℕ → List ℕ → Script R → Script R  -- writes the second bytes under the name that the first are
  Puts : R → List ℕ → Script R → Script R  -- puts these bytes on the output
  Refuses : R → Script R
  Ends : Script R

-- a read failed: its count rose, or the shelf tells that there is no such file, and then its count stays; nothing else changed
pub record ReadFailed (name : List ℕ) (before after : View) : Type 0 where
  pub cause : Rose before.reads after.reads ⊎ Lacks before.held name
  pub excused : Lacks before.held name → after.reads ≡ before.reads
  pub rest : after ≡ record before { reads = after.reads }

-- a write failed: its count rose, and the file is as before or has a first part of its bytes; nothing else changed
pub record WriteFailed (name bytes : List ℕ) (before after : View) : Type 0 where
  pub cause : Rose before.writes after.writes
  pub file : PartWritten before.held after.held name bytes
  pub rest : after ≡ record before { writes = after.writes; held = after.held }

-- a put failed: its count rose, and the output got a first part of the bytes; nothing else changed
pub record PutFailed (bytes : List ℕ) (before after : View) : Type 0 where
  pub cause : Rose before.faults after.faults
  pub kept : ℕ
  pub got : after.told ≡ with_put before.told (take kept bytes)
  pub rest : after ≡ record before { told = after.told; faults = after.faults }

-- these are the file's bytes, where the shelf tells
abbrev pub Shows : Held → List ℕ → List ℕ → Type 0
Shows held name bytes = IsSome held → file_of held name ≡ Some bytes

-- with no refusal the script was followed to its end; with one it stopped where that stands, or memory was refused, which has
-- the first refusal
unfoldable pub Came : {R : Type 0} → R → Script R → View → View → Option R → Type 0
Came memory (Reads unread name next) before after end =
    ((end ≡ Some unread) × ReadFailed name before after)
    ⊎ ((end ≡ Some memory) × (after ≡ before))
    ⊎ ((bytes : List ℕ) × Shows before.held name bytes × Came memory (next bytes) before after end)
Came memory (Works next) before after end =
    ((end ≡ Some memory) × (after ≡ before))
    ⊎ Came memory next before after end
Came memory (Writes unwritten name bytes next) before after end =
    ((end ≡ Some unwritten) × WriteFailed name bytes before after)
    ⊎ Came memory next (record before { held = with_file before.held name bytes }) after end
Came memory (Puts unput bytes next) before after end =
    ((end ≡ Some unput) × PutFailed bytes before after)
    ⊎ Came memory next (record before { told = with_put before.told bytes }) after end
Came memory (Refuses refusal) before after end = (end ≡ Some refusal) × (after ≡ before)
Came memory Ends before after end = (end ≡ None) × (after ≡ before)

-- goes on by what a text means, or refuses the text by the line and the kind of its fault
abbrev pub by_meaning : {A R : Type 0} → (ℕ → ℕ → R) → (A → Script R) → Result A (ℕ × ℕ) → Script R
by_meaning faulty next (Err fault) = Refuses (faulty fault.0 fault.1)
by_meaning faulty next (Ok a) = next a

-- reads the file of this name, and goes on by what its text means
unfoldable pub reads_file : {A R : Type 0} → R → (ℕ → ℕ → R) → List ℕ → (List ℕ → Result A (ℕ × ℕ)) → (A → Script R) → Script R
reads_file unread faulty name meaning next = Reads unread name (λ text. by_meaning faulty next (meaning text))
