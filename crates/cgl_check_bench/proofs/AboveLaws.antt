-- A column above those of a list of terms.
use Rattle.std.proofs.Common.{ℕ, ℤ, ◌<◌, List, [], ◌∷◌, ◌++◌}
use Rattle.cgl_model.specs.Rising.{IsAboveAll}

pub above_push : (terms : List (ℕ × ℤ)) (t : ℕ × ℤ) (column : ℕ) → t.0 < column → IsAboveAll (terms ++ t ∷ []) column
above_push [] t column h = h
above_push (u ∷ []) t column h = h
above_push (u ∷ v ∷ terms) t column h = above_push (v ∷ terms) t column h
