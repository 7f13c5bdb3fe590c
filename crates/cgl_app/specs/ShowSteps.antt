-- What the steps of a show make in memory.
use Rattle.std.specs.Prelude.{◌≡◌, false}
use Rattle.std.specs.declared.alloc.Global.{Global}
use Rattle.std.specs.Prelude.{ℕ, Vec}
use Rattle.cgl_model.specs.declared.mip.Model.{Model}
use Rattle.cgl_deck.specs.DeckText.{deck_text}
use Rattle.cgl_app.specs.CutOf.{is_too_long}
use Rattle.cgl_app.specs.Report.{counts_text}

-- the canonical text is no longer than it may be, and these are the counts of the model
pub record AreCounts (m : Model) (counts : Vec ℕ Global) : Type 0 where
  pub small : is_too_long (deck_text m) ≡ false
  pub counts_are : counts.items ≡ counts_text m
