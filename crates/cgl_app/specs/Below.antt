-- What the program takes from the laws of the crates that it stands on.
use Rattle.std.specs.Prelude.{List}
use Rattle.cgl_model.specs.declared.linear.Ineq.{Ineq}
use Rattle.cgl_model.specs.declared.mip.Model.{Model}
use Rattle.cgl_model.specs.Feasible.{IsFeasible}
use Rattle.cgl_model.specs.HasDecimals.{HasDecimals}
use Rattle.cgl_model.specs.Inequality.{Meets}
use Rattle.cgl_model.specs.Point.{Point}
use Rattle.cgl_decode.specs.DeckResult.{ResultsAreModels}
use Rattle.cgl_deck.specs.Laws.{Extends, ReadsBack}
use Rattle.cgl_derive.specs.declared.step.Derivation.{Derivation, out-Derivation}
use Rattle.cgl_derive.specs.Derives.{AreColumns, Derives, LastIs}
use Rattle.cgl_derive.specs.Soundness.{AreMet}
use Rattle.cgl_outside.specs.Laws.{KeepsFiles}
use Rattle.cgl_pool.specs.Laws.{ListsTask}
use Rattle.cgl_where.specs.Laws.{ResultsArePoints}
use Rattle.cgl_words.specs.FileNames.{FilesDiffer}

-- what a derivation proves holds at each feasible point, and a claim has columns of the model
pub record Derived : Type 0 where
  pub sound : (m : Model) (shared : List Ineq) (d : Derivation) (goal : Ineq) (x : Point) → HasDecimals m → Derives m shared d goal
      → IsFeasible m x → AreMet x shared → Meets x goal
  pub columns : (m : Model) (shared : List Ineq) (d : Derivation) (goal : Ineq) → Derives m shared d goal → LastIs (out-Derivation d).steps goal
      → AreColumns m goal.terms

pub record Below : Type 0 where
  pub files : KeepsFiles
  pub decks : ResultsAreModels
  pub points : ResultsArePoints
  pub texts : ReadsBack
  pub extensions : Extends
  pub listed : ListsTask
  pub derived : Derived
  pub names : FilesDiffer
