-- What the bytes of a deck mean, as a result.
use Rattle.std.specs.Prelude.{◌≡◌, ℕ, List, Result, Ok, Err}
use Rattle.cgl_model.specs.declared.mip.Model.{Model}
use Rattle.cgl_model.specs.Valid.{IsValid}
use Rattle.cgl_model.specs.HasDecimals.{HasDecimals}
use Rattle.cgl_decode.specs.Decode.{Outcome, Deck, Fault, decode}

abbrev pub result_of : Outcome → Result Model (ℕ × ℕ)
result_of (Deck m) = Ok m
result_of (Fault line kind) = Err (line, kind)

-- the model, or the line and the kind of the first fault
unfoldable pub deck_result : List ℕ → Result Model (ℕ × ℕ)
deck_result bytes = result_of (decode bytes)

abbrev pub ResultsAreDecks : Type 0
ResultsAreDecks = (bytes : List ℕ) (m : Model) → deck_result bytes ≡ Ok m → decode bytes ≡ Deck m

abbrev pub ResultsAreFaults : Type 0
ResultsAreFaults = (bytes : List ℕ) (line kind : ℕ) → deck_result bytes ≡ Err (line, kind) → decode bytes ≡ Fault line kind

abbrev pub ResultsAreModels : Type 0
ResultsAreModels = (bytes : List ℕ) (m : Model) → deck_result bytes ≡ Ok m → IsValid m × HasDecimals m
