-- What generators of a type do.
use Rattle.std.specs.Prelude.{ℕ, ◌<◌, List, [], ◌∷◌, map}
use Rattle.std.specs.List.{AllByRecursion}
use Rattle.cgl_derive.specs.declared.answer.Answer.{Answer}
use Rattle.cgl_gen.specs.Setting.{Setting}

pub record Does (G : Type 0) : Type 0 where
  pub number : G → ℕ
  pub count : G → Setting → ℕ
  pub says : G → Setting → ℕ → Answer

-- how many items each has
abbrev pub counts_of : {G : Type 0} → Does G → Setting → List G → List ℕ
counts_of d s gens = map (λ g. d.count g s) gens

-- the number of each is below those of the later ones
abbrev pub AreRising : {G : Type 0} → Does G → List G → Type 0
AreRising d [] = Unit {0}
AreRising d (g ∷ gens) = AllByRecursion (λ h. d.number g < d.number h) gens × AreRising d gens

abbrev pub does : {G : Type 0} → (G → ℕ) → (G → Setting → ℕ) → (G → Setting → ℕ → Answer) → Does G
does number count says = record { number = number; count = count; says = says }
