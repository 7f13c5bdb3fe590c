-- What the outside shows at one moment.
use Rattle.std.specs.Prelude.{ℕ, List, Option}
use Rattle.cgl_outside.specs.Shelf.{Held}

pub record View : Type 0 where
  pub held : Held  -- the files, where the shelf tells them
  pub reads : ℕ  -- how many reads have failed
  pub writes : ℕ  -- how many creates and appends have failed
  pub told : Option (List ℕ)  -- what the output got, where it tells
  pub faults : ℕ  -- how many puts on it have failed

abbrev pub view : Held → ℕ → ℕ → Option (List ℕ) → ℕ → View
view held reads writes told faults = record { held = held; reads = reads; writes = writes; told = told; faults = faults }
