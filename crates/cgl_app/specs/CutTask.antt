-- What a cut works on, by what was read and what the words choose.
use Rattle.std.specs.Prelude.{◌≡◌, ℕ, List, [], ◌∷◌, None}
use Rattle.cgl_model.specs.declared.mip.Model.{Model}
use Rattle.cgl_model.specs.Point.{Point}
use Rattle.cgl_decode.specs.DeckResult.{deck_result}
use Rattle.cgl_where.specs.PointRead.{point_result}
use Rattle.cgl_gen.specs.Setting.{Setting}
use Rattle.cgl_outside.specs.Means.{Holds, IsFaulty, IsRead}
use Rattle.cgl_outside.specs.Shelf.{Held}
use Rattle.cgl_pool.specs.declared.any_gen.AnyGen.{AnyGen}
use Rattle.cgl_pool.specs.declared.any_gen.AnyGen.TheVariants.{Rounder}
use Rattle.cgl_pool.specs.Task.{Task}
use Rattle.cgl_words.specs.CommandLine.{Start, AtPoint, CutWords}

-- simple rounding alone, whose turns have no end
abbrev pub generators : List AnyGen
generators = Rounder (record {}) ∷ []

abbrev pub setting_at : Model → Point → Setting
setting_at m x = record { model = m; point = x; tableau = None }

abbrev pub task_at : Model → Point → Task
task_at m x = record {
  setting = setting_at m x;
  generators = generators;
  order = 0 ∷ [];
  stop = None;
}

-- the task of these words: its model and where its columns stand are what the files hold, where the shelf tells them
abbrev pub IsStart : Held → Start → Task → Type 0
IsStart held (AtPoint name) t = IsRead held name (point_result t.setting.model) t.setting.point

pub record IsCutTask (c : CutWords) (held : Held) (t : Task) : Type 0 where
  pub model : IsRead held c.model deck_result t.setting.model
  pub start : IsStart held c.start t
  pub is : t ≡ task_at t.setting.model t.setting.point

-- the same, where the files are there and in form
abbrev pub HasStart : Held → Start → Task → Type 0
HasStart held (AtPoint name) t = Holds held name (point_result t.setting.model) t.setting.point

pub record InForm (c : CutWords) (held : Held) (t : Task) : Type 0 where
  pub model : Holds held c.model deck_result t.setting.model
  pub start : HasStart held c.start t
  pub is : t ≡ task_at t.setting.model t.setting.point

-- the file that says where the columns of the model stand has this fault
abbrev pub IsFaultyStart : Held → Start → Model → ℕ → ℕ → Type 0
IsFaultyStart held (AtPoint name) m line kind = IsFaulty held name (point_result m) line kind
