-- Where a derivation fails, and why. A path has the number of each step from outside inwards, each within its own list from
-- 0, with the branch of a split that was entered.
use Rattle.std.specs.Prelude.{ℕ, List, [], ◌∷◌, Option, Some, None, option_map}
use Rattle.cgl_check.specs.declared.path.Branch.{Branch}
use Rattle.cgl_check.specs.declared.path.Reject.{Reject}

-- of a whole list
abbrev pub at_list : ℕ → Reject
at_list why = record { path = []; why = why }

-- of a branch of step i
abbrev pub at_branch : ℕ → Branch → ℕ → Reject
at_branch i branch why = record { path = (i, Some branch) ∷ []; why = why }

-- of step i itself, where there is a failure
abbrev pub at_step : ℕ → Option ℕ → Option Reject
at_step i why = option_map (λ w. record { path = (i, None) ∷ []; why = w }) why

-- a failure in a branch of step i
abbrev pub inside : ℕ → Branch → Option Reject → Option Reject
inside i branch found = option_map (λ r. record { path = (i, Some branch) ∷ r.path; why = r.why }) found

-- the first of two failures
abbrev pub or_else : Option Reject → Option Reject → Option Reject
or_else None next = next
or_else (Some r) next = Some r
