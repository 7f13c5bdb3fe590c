-- Lengths that stay at the end of 64 bits.
use Rattle.std.specs.Prelude.{ℕ, ◌-◌, ◌^◌, min}

abbrev pub most : ℕ → ℕ
most n = min n (2 ^ 64 - 1)
