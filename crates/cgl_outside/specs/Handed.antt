-- What a reader of lines has handed out, and laws of its answers.
use Rattle.std.specs.Prelude.{◌≡◌, ◌≤◌, ◌+◌, ◌<◌, ℕ, Bool, true, List, [], ◌∷◌, ◌++◌, length, take, drop, Some, Ok}
use Rattle.std.specs.List.{slice_get}
use Rattle.cgl_text.specs.Text.{is_over, lines_of, most_bytes}
use Rattle.cgl_outside.specs.Line.{IsFirst, IsOver, IsTooLong, written}
use Rattle.cgl_outside.specs.Reading.{IsEnded, Reading, StepSays, StepShape, begun}
use Rattle.cgl_outside.specs.declared.line_reader.LineStep.{LineStep}
use Rattle.cgl_outside.specs.declared.line_reader.LineStep.TheVariants.{Line}

-- what stands behind such a text begins a line of its own
abbrev pub EndsLine : List ℕ → Type 0
EndsLine text = (rest : List ℕ) → lines_of (text ++ rest) ≡ lines_of text ++ lines_of rest

-- the reader has handed out this text, whose lines it has counted
pub record Handed (text : List ℕ) (reading : Reading) : Type 0 where
  pub size : length text ≡ reading.front.done
  pub count : length (lines_of text) ≡ reading.number
  pub ends : (IsEnded reading → ⊥) → EndsLine text

-- the text with the line that the reader stands at
abbrev pub with_line : List ℕ → Reading → List ℕ
with_line text reading = text ++ written reading.line reading.has_lf

-- what is handed out grows by a line, whether the file is told or not
pub record HandsOut : Type 0 where
  pub nothing : (name : List ℕ) (longest : ℕ) → Handed [] (begun name longest)
  pub more : (text : List ℕ) (old new : Reading) → Handed text old → (IsEnded old → ⊥) → new.last ≡ Some (Ok Line)
      → StepShape old new (Ok Line) → Handed (with_line text new) new
  pub lines : (text : List ℕ) (old new : Reading) → Handed text old → (IsEnded old → ⊥)
      → StepShape old new (Ok Line) → lines_of (with_line text new) ≡ lines_of text ++ new.line ∷ []

-- the text that is handed out is a front of the file, so that the numbers are those of the file's lines
pub record NumbersLines : Type 0 where
  pub front : (file text : List ℕ) (old new : Reading) → text ≡ take old.front.done file
      → IsFirst old.front.done (drop old.front.done file) new.line new.has_lf new.front.done → with_line text new ≡ take new.front.done file
  pub line : (file text line : List ℕ) (has_lf : Bool) (now : ℕ) (old : Reading) → Handed text old → (IsEnded old → ⊥) → text ≡ take old.front.done file
      → IsFirst old.front.done (drop old.front.done file) line has_lf now → slice_get (lines_of file) old.number ≡ Some line
  pub too_long : (longest now : ℕ) (file text : List ℕ) (old : Reading) → Handed text old → (IsEnded old → ⊥) → text ≡ take old.front.done file
      → IsTooLong longest old.front.done (drop old.front.done file) now → (line : List ℕ) × (slice_get (lines_of file) old.number ≡ Some line) × (longest < length line)
  pub over : (file text : List ℕ) (old : Reading) → Handed text old → (IsEnded old → ⊥) → text ≡ take old.front.done file → old.front.done ≤ most_bytes
      → IsOver old.front.done (drop old.front.done file) → is_over most_bytes file (old.number + 1) ≡ true
  pub whole : (file text : List ℕ) (old : Reading) → text ≡ take old.front.done file → drop old.front.done file ≡ [] → text ≡ file
  pub end : (file text : List ℕ) (old : Reading) → Handed text old → text ≡ take old.front.done file → drop old.front.done file ≡ []
      → old.number ≡ length (lines_of file)

-- the rest of a file has one answer, and one first line
pub record OneAnswer : Type 0 where
  pub answer : (start : ℕ) (rest : List ℕ) (new other : Reading) (step another : LineStep) → start ≤ most_bytes → new.longest ≡ other.longest
      → StepSays start rest new step → StepSays start rest other another → step ≡ another
  pub line : (start now other_now : ℕ) (rest line other : List ℕ) (has_lf other_has : Bool) → IsFirst start rest line has_lf now
      → IsFirst start rest other other_has other_now → (line ≡ other) × (has_lf ≡ other_has) × (now ≡ other_now)
