-- Where the names of a list stand.
use Rattle.std.specs.Prelude.{◌≡◌, ℕ, List, bytes_eq, position}
use denote.Ref.{Bor}
use Rattle.indexmap.specs.IndexMap.{IndexMap, get_by}
use Rattle.cgl_num.specs.NumberText.{Word}

-- the map has the first place of each name, and of no other word
abbrev pub ArePlaces : {S : Type 0} → List Word → IndexMap (Bor (List ℕ)) ℕ S → Type 0
ArePlaces names places = (word : Word) → get_by (λ key. bytes_eq word key.now) places ≡ position (bytes_eq word) names
