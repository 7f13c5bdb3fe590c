-- What is true of the model of every deck.
use Rattle.std.specs.Prelude.{◌≡◌, ℕ, List}
use Rattle.cgl_model.specs.declared.mip.Model.{Model}
use Rattle.cgl_model.specs.Valid.{IsSized, IsValid}
use Rattle.cgl_model.specs.HasDecimals.{HasDecimals}
use Rattle.cgl_decode.specs.Decode.{decode, Deck}

abbrev pub DecksAreSized : Type 0
DecksAreSized = (bytes : List ℕ) (m : Model) → decode bytes ≡ Deck m → IsSized m

abbrev pub DecksAreValid : Type 0
DecksAreValid = (bytes : List ℕ) (m : Model) → decode bytes ≡ Deck m → IsValid m

abbrev pub DecksAreDecimal : Type 0
DecksAreDecimal = (bytes : List ℕ) (m : Model) → decode bytes ≡ Deck m → HasDecimals m
