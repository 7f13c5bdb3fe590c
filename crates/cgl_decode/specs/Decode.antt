-- What the bytes of a deck mean: a model, or the line and the kind of the first fault.
use Rattle.std.specs.Prelude.{ℕ, ◌+◌, ◌^◌, if◌then◌else◌, List, [], ◌∷◌, length}
use Rattle.std.specs.List.{list_any}
use Rattle.cgl_decode.specs.Records.{Record, records, kept, is_end}
use Rattle.cgl_decode.specs.Faults.{Limits, faults}
use Rattle.cgl_model.specs.declared.mip.Model.{Model}
use Rattle.cgl_decode.specs.Models.{model_of}

pub data Outcome : Type 0 where
  Deck : Model → Outcome
  Fault : ℕ → ℕ → Outcome

abbrev pub outcome : List (ℕ × ℕ) → List Record → Outcome
outcome (fault ∷ others) records = Fault fault.0 fault.1
outcome [] records = if list_any is_end records then Deck (model_of (kept records)) else Fault (length records + 1) 10

abbrev pub decode_within : Limits → List ℕ → Outcome
decode_within limits bytes = outcome (faults limits bytes (records bytes)) (records bytes)

abbrev pub deck_limits : Limits
deck_limits = record { bytes = 2 ^ 30; rows = 2 ^ 20; columns = 2 ^ 20; entries = 2 ^ 22 }

abbrev pub decode : List ℕ → Outcome
decode bytes = decode_within deck_limits bytes
