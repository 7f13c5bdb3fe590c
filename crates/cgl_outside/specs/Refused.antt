-- Why each step of a command may be refused. A refusal is of any type.
use Rattle.std.specs.Prelude.{◌≡◌, ℕ, List, take, Option, ◌⊎◌, Result}
use Rattle.cgl_outside.specs.declared.errors.ReadError.{ReadError}
use Rattle.cgl_outside.specs.declared.errors.ReadError.TheVariants.{Fault, ReadFault, Memory}
use Rattle.cgl_outside.specs.Means.{IsFaulty}
use Rattle.cgl_outside.specs.Shelf.{Held, Lacks, PartWritten, Rose}
use Rattle.cgl_outside.specs.Sink.{with_put}

-- what refuses where a file could not be read: the refusal for want of memory, of an unread file, and of a faulty one
abbrev pub read_refusal : {R : Type 0} → R → R → (ℕ → ℕ → R) → ReadError → R
read_refusal memory unread faulty (Fault line kind) = faulty line kind
read_refusal memory unread faulty ReadFault = unread
read_refusal memory unread faulty Memory = memory

-- the file could not be read, memory was refused, or the file's bytes have a fault
abbrev pub ReadRefused : {A R : Type 0} → R → R → (ℕ → ℕ → R) → Held → ℕ → ℕ → List ℕ → (List ℕ → Result A (ℕ × ℕ)) → R → Type 0
ReadRefused memory unread faulty held reads now name meaning refusal =
    ((refusal ≡ unread) × (Rose reads now ⊎ Lacks held name) × (Lacks held name → now ≡ reads))
    ⊎ ((refusal ≡ memory) × (now ≡ reads))
    ⊎ ((line kind : ℕ) × IsFaulty held name meaning line kind × (refusal ≡ faulty line kind) × (now ≡ reads))

pub record WriteRefused {R : Type 0} (unwritten : R) (held now : Held) (writes count : ℕ) (name bytes : List ℕ) (refusal : R) : Type 0 where
  pub is : refusal ≡ unwritten
  pub cause : Rose writes count
  pub file_is : PartWritten held now name bytes

pub record PutRefused {R : Type 0} (unput : R) (told now : Option (List ℕ)) (faults count : ℕ) (bytes : List ℕ) (refusal : R) : Type 0 where
  pub is : refusal ≡ unput
  pub cause : Rose faults count
  pub kept : ℕ
  pub got : now ≡ with_put told (take kept bytes)
