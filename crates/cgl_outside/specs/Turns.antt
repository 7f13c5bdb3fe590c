-- What one turn of the reader of lines makes of the bytes that are read ahead.
use Rattle.std.specs.Prelude.{◌≡◌, ◌≤◌, ◌+◌, ◌-◌, ◌<◌, ℕ, Bool, true, false, List, [], ◌++◌, length, take, drop, slice_index, Option, None, Some}
use Rattle.cgl_text.specs.Text.{most_bytes}
use Rattle.cgl_outside.specs.Front.{Front, IsPast}
use Rattle.cgl_outside.specs.Line.{HasNoEnd, IsFirst, IsOver, IsShaped, IsTooLong}
use Rattle.cgl_outside.specs.Reading.{Passes}
use Rattle.cgl_outside.specs.declared.line.Found.{Found}
use Rattle.cgl_outside.specs.declared.line.Found.TheVariants.{Line, TooLong, Over, End}

-- the line so far, with n bytes more where it is not too long
abbrev pub Keeps : ℕ → ℕ → ℕ → List ℕ → List ℕ → List ℕ → Type 0
Keeps longest size n ahead line next = size + n ≤ longest → next ≡ line ++ take n ahead

-- an LF stands behind n bytes, and not past the greatest file
pub record EndsAt (old new : Front) (n : ℕ) : Type 0 where
  pub there : n < length old.ahead
  pub none : HasNoEnd old.ahead n
  pub at : slice_index old.ahead n ≡ 10
  pub within : old.done + n + 1 ≤ most_bytes
  pub new_is : new ≡ record old { done = old.done + n + 1; ahead = drop (n + 1) old.ahead }

-- all is taken, and the line goes on
pub record GoesOn (old new : Front) : Type 0 where
  pub some : 0 < length old.ahead
  pub none : HasNoEnd old.ahead (length old.ahead)
  pub within : old.done + length old.ahead ≤ most_bytes
  pub new_is : new ≡ record old { done = old.done + length old.ahead; ahead = [] }

-- nothing is ahead, and the line has bytes
pub record EndsHere (old new : Front) (size : ℕ) : Type 0 where
  pub empty : old.ahead ≡ []
  pub some : 0 < size
  pub new_is : new ≡ old

-- the first byte past the greatest file stands in this line
pub record GoesOver (old : Front) : Type 0 where
  pub there : most_bytes - old.done < length old.ahead
  pub none : HasNoEnd old.ahead (most_bytes - old.done)

-- a line that ended, by its end, with so many bytes
abbrev pub Ended : ℕ → Front → Front → ℕ → Bool → Type 0
Ended size old new n true = EndsAt old new n
Ended size old new n false = EndsHere old new size × (n ≡ 0)

-- what a turn found, or that the line goes on
abbrev pub TurnSays : ℕ → ℕ → Front → Front → List ℕ → List ℕ → Option Found → Type 0
TurnSays longest size old new line next None = GoesOn old new × Keeps longest size (length old.ahead) old.ahead line next
TurnSays longest size old new line next (Some (Line has_lf)) = (n : ℕ) × Ended size old new n has_lf × (size + n ≤ longest) × (next ≡ line ++ take n old.ahead)
TurnSays longest size old new line next (Some TooLong) = (n : ℕ) × (has_lf : Bool) × Ended size old new n has_lf × (longest < size + n)
TurnSays longest size old new line next (Some Over) = GoesOver old
TurnSays longest size old new line next (Some End) = (old.ahead ≡ []) × (size ≡ 0) × (new ≡ old)

-- what was found of the rest of the file behind a place
abbrev pub FoundSays : ℕ → ℕ → List ℕ → List ℕ → ℕ → Found → Type 0
FoundSays longest start rest line now (Line has_lf) = IsFirst start rest line has_lf now × (length line ≤ longest)
FoundSays longest start rest line now TooLong = IsTooLong longest start rest now
FoundSays longest start rest line now Over = IsOver start rest
FoundSays longest start rest line now End = rest ≡ []

-- what it is, also where the file is not told
abbrev pub Shaped : ℕ → ℕ → List ℕ → Front → Found → Type 0
Shaped longest start line now (Line has_lf) = IsShaped start line has_lf now.done × (now.done ≤ most_bytes) × (has_lf ≡ false → IsPast now)
Shaped longest start line now TooLong = Passes longest start now.done
Shaped longest start line now Over = Unit {0}
Shaped longest start line now End = now.done ≡ start

-- the reader goes on behind it
abbrev pub LeavesOff : Found → Type 0 → Type 0
LeavesOff (Line has_lf) fact = fact
LeavesOff _ fact = Unit {0}

-- the line goes on: the bytes so far, which are kept where they are not too many
pub record Mid (longest size : ℕ) (rest line : List ℕ) : Type 0 where
  pub there : size ≤ length rest
  pub none : HasNoEnd rest size
  pub kept : size ≤ longest → line ≡ take size rest

-- the bytes so far, where they are kept
abbrev pub Bare : ℕ → ℕ → List ℕ → Type 0
Bare longest size line = size ≤ longest → (length line ≡ size) × HasNoEnd line (length line)
