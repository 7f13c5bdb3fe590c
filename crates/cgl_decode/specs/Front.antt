-- A deck is told by the bytes up to the one past the limit.
use Rattle.std.specs.Prelude.{◌≡◌, ℕ, ◌+◌, ◌^◌, List, take}
use Rattle.cgl_decode.specs.Faults.{Limits}
use Rattle.cgl_decode.specs.Decode.{decode_within, decode}

abbrev pub FrontWithin : Type 0
FrontWithin = (limits : Limits) (bytes : List ℕ) → decode_within limits (take (limits.bytes + 1) bytes) ≡ decode_within limits bytes

abbrev pub FrontDecides : Type 0
FrontDecides = (bytes : List ℕ) → decode (take (2 ^ 30 + 1) bytes) ≡ decode bytes
