-- Why the writing of a deck may be refused.
use Rattle.std.specs.Prelude.{◌≡◌, ◌⊎◌, ℕ, List}
use Rattle.cgl_outside.specs.Refused.{WriteRefused}
use Rattle.cgl_outside.specs.Shelf.{Held}

-- memory was refused and nothing changed, or a create or an append failed
abbrev pub DeckRefused : {R : Type 0} → R → R → Held → Held → ℕ → ℕ → List ℕ → List ℕ → R → Type 0
DeckRefused memory unwritten held now writes count name bytes refusal =
    ((refusal ≡ memory) × (now ≡ held) × (count ≡ writes)) ⊎ WriteRefused unwritten held now writes count name bytes refusal
