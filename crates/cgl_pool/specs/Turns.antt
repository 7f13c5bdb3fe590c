-- How many items of each generator are served, by the turns that they have. Turns are told by the generators' places.
use Rattle.std.specs.Prelude.{ℕ, zero, suc, ◌+◌, ◌%◌, ◌==◌, min, List, [], ◌∷◌, length, slice_index, Option, Some, None}
use Rattle.std.specs.List.{count_by}

-- of each generator the first ones, as many as it has turns, or all of them where it has fewer
abbrev pub capped_from : ℕ → List ℕ → List ℕ → List ℕ
capped_from g turns [] = []
capped_from g turns (count ∷ counts) = min (count_by (λ t. t == g) turns) count ∷ capped_from (g + 1) turns counts

abbrev pub capped : List ℕ → List ℕ → List ℕ
capped turns counts = capped_from 0 turns counts

-- n turns from the i-th on: that of number i belongs to the place i modulo the length of the order
abbrev pub turns_from : List ℕ → ℕ → ℕ → List ℕ
turns_from order i zero = []
turns_from order i (suc n) = slice_index order (i % length order) ∷ turns_from order (i + 1) n

abbrev pub first_turns : List ℕ → ℕ → List ℕ
first_turns order n = turns_from order 0 n

-- how many items of each are served: all of them, or those of the first n turns
abbrev pub served_by : List ℕ → Option ℕ → List ℕ → List ℕ
served_by order None counts = counts
served_by order (Some n) counts = capped (first_turns order n) counts
