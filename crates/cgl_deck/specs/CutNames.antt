-- Names for the rows of cuts.
use Rattle.std.specs.Prelude.{ℕ, zero, suc, ◌+◌, Bool, not, List, [], ◌∷◌, ◌++◌, codes, decimal, length, map, filter, take}
use Rattle.cgl_num.specs.NumberText.{Word}
use Rattle.cgl_text.specs.Text.{is_one_of}
use Rattle.cgl_model.specs.declared.mip.Model.{Model}

abbrev pub cut_name : ℕ → Word
cut_name k = codes "CUT" ++ decimal k

-- k and the numbers behind it, n in all
abbrev pub numbers_from : ℕ → ℕ → List ℕ
numbers_from k zero = []
numbers_from k (suc n) = k ∷ numbers_from (k + 1) n

abbrev pub is_unused : Model → Word → Bool
is_unused m name = not (is_one_of (map (λ r. r.name) m.rows) name)

-- the first n of CUT1, CUT2, .. that are no row's name; at most as many as there are rows are used
unfoldable pub cut_names : Model → ℕ → List Word
cut_names m n = take n (filter (is_unused m) (map cut_name (numbers_from 1 (length m.rows + n))))
