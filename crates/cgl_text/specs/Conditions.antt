-- The fault of a line: the first that applies, of conditions in order.
use Rattle.std.specs.Prelude.{ℕ, Bool, if◌then◌else◌, List, [], ◌∷◌, Option, Some, None}

-- whether it holds, and the kind of fault that it is
abbrev pub Condition : Type 0
Condition = Bool × ℕ

-- the kind of the first that holds
abbrev pub first_kind : List Condition → Option ℕ
first_kind [] = None
first_kind (condition ∷ conditions) = if condition.0 then Some condition.1 else first_kind conditions
