-- The outcome again, line by line: all that a reader carries is the kept records so far.
use Rattle.std.specs.Prelude.{◌≡◌, ℕ, ◌+◌, List, [], ◌∷◌, ◌++◌, Option, Some, None}
use Rattle.cgl_text.specs.Text.{lines_of}
use Rattle.cgl_model.specs.declared.mip.Model.{Model}
use Rattle.cgl_where.specs.PointFile.{Record, record_of, kept, fault_after, Outcome, Values, Fault, point_from, point_within}

-- a fault, or what the later lines give
abbrev pub turn : Option ℕ → ℕ → Outcome → Outcome
turn (Some kind) n later = Fault n kind
turn None n later = later

abbrev pub read_from : ℕ → List ℕ → Model → ℕ → List Record → List (List ℕ) → Outcome
read_from most bytes m n before [] = Values (point_from m before)
read_from most bytes m n before (line ∷ lines) =
    let r = record_of n line in turn (fault_after most bytes m before r) n (read_from most bytes m (n + 1) (before ++ kept (r ∷ [])) lines)

-- one reading gives what the filters over all records say
abbrev pub ReadsAlike : Type 0
ReadsAlike = (most : ℕ) (bytes : List ℕ) (m : Model) → point_within most bytes m ≡ read_from most bytes m 1 [] (lines_of bytes)
