-- What a reader of pieces has of a file.
use Rattle.std.specs.Prelude.{◌≡◌, ℕ, Bool, true, false, List, [], Some, length, take, drop}
use Rattle.cgl_outside.specs.Shelf.{Held, file_of}

-- the file's name, the count of the bytes that were handed out, those read ahead behind them, and
-- whether a read has met the end
pub record Front : Type 0 where
  pub name : List ℕ
  pub done : ℕ
  pub ahead : List ℕ
  pub ended : Bool

-- before the first byte
abbrev pub fresh : List ℕ → Front
fresh name = record { name = name; done = 0; ahead = []; ended = false }

-- the bytes read ahead are the file's behind those that were handed out, and all where the end was met
pub record Stands (file : List ℕ) (front : Front) : Type 0 where
  pub piece : front.ahead ≡ take (length front.ahead) (drop front.done file)
  pub ended : front.ended ≡ true → drop front.done file ≡ front.ahead

-- so does the file of the name, where it is told
abbrev pub Follows : Held → Front → Type 0
Follows held front = (file : List ℕ) → file_of held front.name ≡ Some file → Stands file front

-- nothing is left: no byte is ahead, and the end was met
pub record IsPast (front : Front) : Type 0 where
  pub empty : front.ahead ≡ []
  pub ended : front.ended ≡ true
