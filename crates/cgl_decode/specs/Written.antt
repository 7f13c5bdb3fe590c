-- How literal decks are written down.
use Rattle.std.specs.Prelude.{◌≡◌, ℕ, ◌-◌, ℤ, Bool, List, [], ◌∷◌, ◌++◌, length, map, take, flat_map, Option}
use Rattle.cgl_num.specs.NumberText.{Word}
use Rattle.cgl_num.specs.Decimal.{Decimal}
use Rattle.cgl_model.specs.declared.mip.RowKind.{RowKind}
use Rattle.cgl_decode.specs.Faults.{Limits}
use Rattle.cgl_model.specs.declared.mip.Row.{Row}
use Rattle.cgl_model.specs.declared.mip.Column.{Column}
use Rattle.cgl_decode.specs.Decode.{Outcome, decode_within}

-- these lines, each with its LF
abbrev pub text : List (List ℕ) → List ℕ
text lines = flat_map (λ line. line ++ 10 ∷ []) lines

abbrev pub without_last : List ℕ → List ℕ
without_last bytes = take (length bytes - 1) bytes

abbrev pub dec : ℤ → ℤ → Decimal
dec m e = record { m = m; e = e }

abbrev pub row : Word → RowKind → Decimal → Option Decimal → Row
row name kind rhs range = record { name = name; kind = kind; rhs = rhs; range = range }

abbrev pub column : Word → Bool → Option Decimal → Option Decimal → List (ℕ × Decimal) → Column
column name integer lo up entries = record { name = name; integer = integer; lo = lo; up = up; entries = entries }

-- each text has this outcome
abbrev pub Means : Limits → List (List ℕ × Outcome) → Type 0
Means limits cases = map (λ c. decode_within limits c.0) cases ≡ map (λ c. c.1) cases
