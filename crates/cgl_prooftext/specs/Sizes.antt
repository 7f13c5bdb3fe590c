-- Numbers as they are held while a line is read.
use Rattle.std.specs.Prelude.{ℕ, ◌-◌, ◌^◌, min, Option, Some, None, if◌then◌else◌}
use Rattle.cgl_prooftext.specs.LineResult.{fits_number}

-- a number is known below 2^128
abbrev pub near : ℕ → ℕ
near n = min n (2 ^ 128 - 1)

abbrev pub fitting_number : ℕ → Option ℕ
fitting_number n = if fits_number n then Some n else None
