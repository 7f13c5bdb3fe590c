-- What the listed cuts are to the model and the point of the task that they are listed for.
use Rattle.std.specs.List.{AllByRecursion}
use Rattle.cgl_model.specs.Inequality.{Meets}
use Rattle.cgl_model.specs.Point.{Point}
use Rattle.cgl_pool.specs.Task.{Task, listed_cuts}
use Rattle.cgl_app.specs.CutAnswers.{IsRightCut}
use Rattle.cgl_app.specs.CutOf.{inequality_of}

-- each listed cut is violated by its fraction, which is above 0, and its derivation proves it
abbrev pub AreRight : Task → Type 0
AreRight t = AllByRecursion (IsRightCut t) (listed_cuts t)

-- the point y meets each listed cut
abbrev pub MeetsListed : Task → Point → Type 0
MeetsListed t y = AllByRecursion (λ k. Meets y (inequality_of k)) (listed_cuts t)
