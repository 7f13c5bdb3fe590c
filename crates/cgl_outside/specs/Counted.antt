-- Which failed calls were counted between two views.
use Rattle.std.specs.Prelude.{◌≡◌}
use Rattle.cgl_outside.specs.Shelf.{Rose}
use Rattle.cgl_outside.specs.View.{View}

-- no call to the outside failed
pub record Calm (before after : View) : Type 0 where
  pub reads : Rose before.reads after.reads → ⊥
  pub writes : Rose before.writes after.writes → ⊥
  pub faults : Rose before.faults after.faults → ⊥

-- no failed call was counted
pub record NoneFailed (before after : View) : Type 0 where
  pub reads : after.reads ≡ before.reads
  pub writes : after.writes ≡ before.writes
  pub faults : after.faults ≡ before.faults

-- a failed create or append was counted, and no other call
pub record OnlyWriteFailed (before after : View) : Type 0 where
  pub writes : Rose before.writes after.writes
  pub reads : after.reads ≡ before.reads
  pub faults : after.faults ≡ before.faults

-- a failed put was counted, and no other call
pub record OnlyPutFailed (before after : View) : Type 0 where
  pub faults : Rose before.faults after.faults
  pub reads : after.reads ≡ before.reads
  pub writes : after.writes ≡ before.writes
