-- The outcome again, line by line: all that a reader carries is the records so far.
use Rattle.std.specs.Prelude.{◌≡◌, ℕ, ◌+◌, Bool, true, false, ◌&&◌, if◌then◌else◌, List, [], ◌∷◌, ◌++◌, Option, Some, None, unwrap_or, filter_map}
use Rattle.cgl_text.specs.Text.{lines_of}
use Rattle.cgl_decode.specs.declared.kinds.Section.{Section}
use Rattle.cgl_decode.specs.declared.kinds.Section.TheVariants.{Start}
use Rattle.cgl_decode.specs.Records.{Record, record_of, section_after, is_end, kept}
use Rattle.cgl_decode.specs.Faults.{Limits, fault_after}
use Rattle.cgl_num.specs.Decimal.{Decimal}
use Rattle.cgl_num.specs.NumberText.{}
use Rattle.cgl_decode.specs.Sections.{Bound}
use Rattle.cgl_decode.specs.Models.{model_of, lower_by, upper_by, value_in, is_upper, is_below_zero, lower_of, upper_of}
use Rattle.cgl_decode.specs.Decode.{Outcome, Deck, Fault, decode_within}

-- a fault, or the end of the deck, or what the later lines give
abbrev pub turn : Option ℕ → ℕ → Bool → List Record → Outcome → Outcome
turn (Some kind) n ends records later = Fault n kind
turn None n true records later = Deck (model_of records)
turn None n false records later = later

abbrev pub read_from : Limits → List ℕ → ℕ → Section → List Record → List (List ℕ) → Outcome
read_from limits bytes n section before [] = Fault n 10
read_from limits bytes n section before (line ∷ lines) =
    let r = record_of n (section_after section line) line in
    turn (fault_after limits bytes before r) n (is_end r) (before ++ kept (r ∷ [])) (read_from limits bytes (n + 1) (section_after section line) (before ++ kept (r ∷ [])) lines)

-- one reading gives what the filters over all records say
abbrev pub ReadsAlike : Type 0
ReadsAlike = (limits : Limits) (bytes : List ℕ) → decode_within limits bytes ≡ read_from limits bytes 1 Start [] (lines_of bytes)

-- bounds act in order

abbrev pub setting : Bound → Option (Option Decimal)
setting b = lower_by b.kind (value_in b)

abbrev pub is_negative_upper : Bound → Bool
is_negative_upper b = is_upper b.kind && is_below_zero (value_in b)

abbrev pub nothing : List (Option Decimal) → Bool
nothing [] = true
nothing (x ∷ xs) = false

-- one record more: the lower bound is what it sets; infinite for a UP or UI below 0 with no earlier record that sets it; and else as it was
abbrev pub LowerInOrder : Type 0
LowerInOrder =
    (bounds : List Bound) (b : Bound)
    → lower_of (bounds ++ b ∷ []) ≡ unwrap_or (setting b) (if is_negative_upper b && nothing (filter_map setting bounds) then None else lower_of bounds)

abbrev pub UpperInOrder : Type 0
UpperInOrder = (bounds : List Bound) (b : Bound) → upper_of (bounds ++ b ∷ []) ≡ unwrap_or (upper_by b.kind (value_in b)) (upper_of bounds)
