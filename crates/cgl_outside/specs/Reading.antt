-- A reader of the lines of a file, and what its next step says.
use Rattle.std.specs.Prelude.{◌≡◌, ◌≤◌, ◌+◌, ◌<◌, ℕ, Bool, false, List, [], length, drop, Option, None, Some, Result, Ok, Err}
use Rattle.cgl_text.specs.Text.{most_bytes}
use Rattle.cgl_outside.specs.Shelf.{Held, file_of}
use Rattle.cgl_outside.specs.Front.{Front, fresh}
use Rattle.cgl_outside.specs.Line.{IsFirst, IsOver, IsShaped, IsTooLong}
use Rattle.cgl_outside.specs.declared.line_reader.LineStep.{LineStep}
use Rattle.cgl_outside.specs.declared.line_reader.LineStep.TheVariants.{Line, TooLong, Over, End}
use Rattle.cgl_outside.specs.declared.errors.FetchError.{FetchError}

-- the file so far, the most bytes of a line, those of the last line and whether an LF ended it, its
-- number, and the last answer
pub record Reading : Type 0 where
  pub front : Front
  pub longest : ℕ
  pub line : List ℕ
  pub has_lf : Bool
  pub number : ℕ
  pub last : Option (Result LineStep FetchError)

-- before the first line
abbrev pub begun : List ℕ → ℕ → Reading
begun name longest = record { front = fresh name; longest = longest; line = []; has_lf = false; number = 0; last = None }

-- no step yet, or the last one gave a line
abbrev pub IsOpen : Option (Result LineStep FetchError) → Type 0
IsOpen None = Unit {0}
IsOpen (Some (Ok Line)) = Unit {0}
IsOpen _ = ⊥

-- what was handed out ended without an LF
pub record IsEnded (reading : Reading) : Type 0 where
  pub line : reading.last ≡ Some (Ok Line)
  pub bare : reading.has_lf ≡ false

-- what the rest of the file behind a place has first
abbrev pub StepSays : ℕ → List ℕ → Reading → LineStep → Type 0
StepSays start rest new Line = IsFirst start rest new.line new.has_lf new.front.done × (length new.line ≤ new.longest)
StepSays start rest new TooLong = IsTooLong new.longest start rest new.front.done
StepSays start rest new Over = IsOver start rest
StepSays start rest new End = rest ≡ []

-- so has the file of the name, where it is told
abbrev pub Steps : Held → Reading → Reading → LineStep → Type 0
Steps held old new step = (file : List ℕ) → file_of held old.front.name ≡ Some file → StepSays old.front.done (drop old.front.done file) new step

-- a line that is too long, also where its file is not told
pub record Passes (longest start now : ℕ) : Type 0 where
  pub longer : start + longest < now
  pub within : now ≤ most_bytes

-- the line and its number, or the number alone, also where the file is not told
abbrev pub StepShape : Reading → Reading → Result LineStep FetchError → Type 0
StepShape old new (Ok Line) = IsShaped old.front.done new.line new.has_lf new.front.done × (new.front.done ≤ most_bytes) × (new.number ≡ old.number + 1)
StepShape old new (Ok TooLong) = Passes old.longest old.front.done new.front.done × (new.number ≡ old.number + 1)
StepShape old new (Ok Over) = new.number ≡ old.number + 1
StepShape old new (Ok End) = (new.front.done ≡ old.front.done) × (new.number ≡ old.number)
StepShape old new (Err _) = new.number ≡ old.number
