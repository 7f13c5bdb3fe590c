-- A text that grows by pieces.
use Rattle.std.specs.Prelude.{◌≡◌, ℕ, List, Bool, false, ◌++◌}

-- what a text grew to, and whether memory was refused for a piece of it
pub record Grown : Type 0 where
  pub items : List ℕ
  pub refused : Bool

-- the text is longer by a piece, where memory was not refused before and is not now
pub record Grows (piece : List ℕ) (old new : Grown) : Type 0 where
  pub whole : new.refused ≡ false → (old.refused ≡ false) × (new.items ≡ old.items ++ piece)
