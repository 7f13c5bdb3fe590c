-- The text of a path, by whether it has places.
use Rattle.std.proofs.Common.{◌≡◌, ℕ, List, [], ◌∷◌, ◌++◌, length, codes, flat_map, Option, refl}
use Rattle.cgl_check.specs.declared.path.Branch.{Branch}
use Rattle.cgl_app.specs.Refusals.{behind_point, path_text, place_text}

pub no_path : (path : List (ℕ × Option Branch)) → length path ≡ 0 → codes "-" ≡ path_text path
unfolding path_text
no_path [] e = refl
no_path (p ∷ path) e = cc

pub path_of : (path : List (ℕ × Option Branch)) (first : ℕ × Option Branch) (rest : List (ℕ × Option Branch)) → path ≡ first ∷ rest
    → place_text first ++ flat_map behind_point rest ≡ path_text path
unfolding path_text
path_of [] first rest e = cc
path_of (p ∷ path) first rest e = cc
