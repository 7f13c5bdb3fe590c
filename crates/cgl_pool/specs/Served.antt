-- The items that were served, with their answers.
use Rattle.std.specs.Prelude.{ℕ, zero, suc, List, [], ◌∷◌, ◌++◌}
use Rattle.cgl_gen.specs.declared.stamped.Stamped.{Stamped}
use Rattle.cgl_gen.specs.Setting.{Setting}
use Rattle.cgl_pool.specs.Does.{Does, counts_of}

-- what a generator says of an item, under its key
abbrev pub stamped : {G : Type 0} → Does G → Setting → G → ℕ → Stamped
stamped d s g item = record { key = (d.number g, item); answer = d.says g s item }

-- of the first n items, the last one first
abbrev pub first_items : {G : Type 0} → Does G → Setting → G → ℕ → List Stamped
first_items d s g zero = []
first_items d s g (suc n) = stamped d s g n ∷ first_items d s g n

-- of the first items of each generator, as many as were served
abbrev pub served_items : {G : Type 0} → Does G → Setting → List G → List ℕ → List Stamped
served_items d s [] served = []
served_items d s (g ∷ gens) [] = []
served_items d s (g ∷ gens) (n ∷ served) = first_items d s g n ++ served_items d s gens served

-- of all items
abbrev pub all_items : {G : Type 0} → Does G → Setting → List G → List Stamped
all_items d s gens = served_items d s gens (counts_of d s gens)
