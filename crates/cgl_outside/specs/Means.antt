-- What a file that was read means.
use Rattle.std.specs.Prelude.{◌≡◌, ℕ, List, Some, IsSome, Result, Ok, Err}
use Rattle.cgl_outside.specs.Shelf.{Held, file_of}
use Rattle.cgl_outside.specs.declared.errors.ReadError.{ReadError}
use Rattle.cgl_outside.specs.declared.errors.ReadError.TheVariants.{Fault, ReadFault, Memory}

-- a text means this, and it is the whole file of this name where the shelf tells its files
pub record Means {A : Type 0} (held : Held) (name : List ℕ) (meaning : List ℕ → Result A (ℕ × ℕ)) (answer : Result A (ℕ × ℕ)) : Type 0 where
  pub text : List ℕ
  pub shows : IsSome held → file_of held name ≡ Some text
  pub is : meaning text ≡ answer

-- the file has the fault that the error tells, if it tells one
abbrev pub MeansFault : {A : Type 0} → Held → List ℕ → (List ℕ → Result A (ℕ × ℕ)) → ReadError → Type 0
MeansFault held name meaning (Fault line kind) = Means held name meaning (Err (line, kind))
MeansFault held name meaning ReadFault = Unit {0}
MeansFault held name meaning Memory = Unit {0}

-- the file's bytes mean this
abbrev pub IsRead : {A : Type 0} → Held → List ℕ → (List ℕ → Result A (ℕ × ℕ)) → A → Type 0
IsRead held name meaning a = Means held name meaning (Ok a)

-- the file's bytes have this fault
abbrev pub IsFaulty : {A : Type 0} → Held → List ℕ → (List ℕ → Result A (ℕ × ℕ)) → ℕ → ℕ → Type 0
IsFaulty held name meaning line kind = Means held name meaning (Err (line, kind))

-- the file is there, and its bytes mean this
pub record Holds {A : Type 0} (held : Held) (name : List ℕ) (meaning : List ℕ → Result A (ℕ × ℕ)) (a : A) : Type 0 where
  pub text : List ℕ
  pub there : file_of held name ≡ Some text
  pub means : meaning text ≡ Ok a
