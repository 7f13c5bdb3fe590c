-- A line that is put in pieces.
use Rattle.std.specs.Prelude.{◌≡◌, ℕ, List, [], ◌∷◌, ◌++◌, take, Option}
use Rattle.cgl_outside.specs.Shelf.{Rose}
use Rattle.cgl_outside.specs.Sink.{with_put}

abbrev pub joined : List (List ℕ) → List ℕ
joined [] = []
joined (piece ∷ rest) = piece ++ joined rest

-- the output got the line, or a first part of it and a put failed
pub data Says (told now : Option (List ℕ)) (faults count : ℕ) (line : List ℕ) : Type 0 where
  Whole : now ≡ with_put told line → count ≡ faults → Says told now faults count line
  Part : (kept : ℕ) → now ≡ with_put told (take kept line) → Rose faults count → Says told now faults count line
