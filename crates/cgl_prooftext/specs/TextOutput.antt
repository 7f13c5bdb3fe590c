-- Texts that are written or only measured.
use Rattle.std.specs.Prelude.{◌≡◌, ℕ, ◌+◌, List, [], length, true, Option, None, Some, is_some}
use Rattle.cgl_text.specs.Growth.{Grown, Grows}
use Rattle.cgl_prooftext.specs.TextLength.{most}
use Rattle.cgl_prooftext.specs.declared.output.Output.{Output}

-- the bytes where they are kept; as after refused memory where they are not
abbrev pub grown : Option Grown → Grown
grown None = record { items = []; refused = true }
grown (Some bytes) = bytes

-- the text is longer by a piece, in its length and in its bytes, which are kept where they were
pub record Longer (piece : List ℕ) (old new : Output) : Type 0 where
  pub kept : is_some new.bytes ≡ is_some old.bytes
  pub len : (n : ℕ) → old.len ≡ most n → new.len ≡ most (n + length piece)
  pub bytes : Grows piece (grown old.bytes) (grown new.bytes)
