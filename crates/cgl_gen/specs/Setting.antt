-- What a site means: a model, a point and, where there is one, a tableau.
use Rattle.std.specs.Prelude.{◌≡◌, pos, ◌<ℤ◌, Option, length}
use Rattle.std.specs.Option.{IfSome}
use Rattle.cgl_model.specs.declared.mip.Model.{Model}
use Rattle.cgl_model.specs.FormList.{FormList}
use Rattle.cgl_model.specs.HasDecimals.{HasDecimals}
use Rattle.cgl_model.specs.IntegerForm.{forms_of}
use Rattle.cgl_model.specs.Point.{Point}
use Rattle.cgl_model.specs.Valid.{IsSized}
use Rattle.cgl_gen.specs.declared.tableau.Tableau.{Tableau}

pub record Setting : Type 0 where
  pub model : Model
  pub point : Point
  pub tableau : Option Tableau

-- the tableau is of this model and has this point; there is none yet
abbrev pub IsTableauAt : Model → Point → Tableau → Type 0
IsTableauAt m x t = ⊥

-- the model is within its sizes, and the point and the tableau are of this model
pub record IsSetting (s : Setting) : Type 0 where
  pub sized : IsSized s.model
  pub decimals : HasDecimals s.model
  pub point : length s.point.p ≡ length s.model.cols
  pub positive : pos 0 <ℤ s.point.d
  pub tableau : IfSome s.tableau (IsTableauAt s.model s.point)

pub record IsSite (forms : FormList) (s : Setting) : Type 0 where
  pub are_forms : forms ≡ forms_of s.model
  pub setting : IsSetting s
