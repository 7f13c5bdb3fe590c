-- What a shelf holds once the canonical text of a model was written.
use Rattle.std.specs.Prelude.{◌≡◌, ℕ, ◌^◌, ◌≤◌, ◌⊎◌, List, length, take, Some}
use Rattle.cgl_model.specs.declared.mip.Model.{Model}
use Rattle.cgl_decode.specs.Decode.{Deck, decode}
use Rattle.cgl_outside.specs.Shelf.{Held, file_of, with_file}
use Rattle.cgl_deck.specs.DeckText.{deck_text}

-- the file is held, its bytes are the canonical text of the model, and they decode to it where they are at most 2^30
pub record HoldsDeck (held : Held) (name : List ℕ) (m : Model) : Type 0 where
  pub bytes : List ℕ
  pub file : file_of held name ≡ Some bytes
  pub text : bytes ≡ deck_text m
  pub decodes : length bytes ≤ 2 ^ 30 → decode bytes ≡ Deck m

-- all files are as before, or this one alone has a first part of the canonical text
abbrev pub HoldsPart : Held → Held → List ℕ → Model → Type 0
HoldsPart held now name m = (now ≡ held) ⊎ ((kept : ℕ) × (now ≡ with_file held name (take kept (deck_text m))))
