-- The first line of the rest of a file, which begins at a place of the file, and what may stand in its way.
use Rattle.std.specs.Prelude.{◌≡◌, ◌≢◌, ◌≤◌, ◌+◌, ◌-◌, ◌<◌, ℕ, Bool, false, List, [], ◌∷◌, ◌++◌, length, drop, slice_index, if◌then◌else◌}
use Rattle.cgl_text.specs.Text.{lines_of, most_bytes}

-- no LF among the first n bytes
abbrev pub HasNoEnd : List ℕ → ℕ → Type 0
HasNoEnd bytes n = (k : ℕ) → k < n → slice_index bytes k ≢ 10

-- a line as it stands in a file, with the LF behind it that may end it
abbrev pub written : List ℕ → Bool → List ℕ
written line has_lf = line ++ (if has_lf then 10 ∷ [] else [])

-- it ends before another place, within the greatest file, and has an LF unless it is the file's last line
pub record IsFirst (start : ℕ) (rest line : List ℕ) (has_lf : Bool) (now : ℕ) : Type 0 where
  pub lines : lines_of rest ≡ line ∷ lines_of (drop (now - start) rest)
  pub is : rest ≡ written line has_lf ++ drop (now - start) rest
  pub size : now ≡ start + length line + (if has_lf then 1 else 0)
  pub within : now ≤ most_bytes
  pub last : has_lf ≡ false → rest ≡ line

-- it has more than so many bytes
pub record IsTooLong (longest start : ℕ) (rest : List ℕ) (now : ℕ) : Type 0 where
  pub line : List ℕ
  pub has_lf : Bool
  pub first : IsFirst start rest line has_lf now
  pub longer : longest < length line

-- the first byte past the greatest file stands in it, maybe as its LF
pub record IsOver (start : ℕ) (rest : List ℕ) : Type 0 where
  pub there : most_bytes - start < length rest
  pub none : HasNoEnd rest (most_bytes - start)

-- what a line is, also where its file is not told: it has no LF, and with its LF it has a byte at least
pub record IsShaped (start : ℕ) (line : List ℕ) (has_lf : Bool) (now : ℕ) : Type 0 where
  pub clean : HasNoEnd line (length line)
  pub size : now ≡ start + length line + (if has_lf then 1 else 0)
  pub moves : start < now
