-- What the bytes of a point file mean, as a result.
use Rattle.std.specs.Prelude.{ℕ, List, Result, Ok, Err}
use Rattle.cgl_model.specs.declared.mip.Model.{Model}
use Rattle.cgl_model.specs.Point.{Point}
use Rattle.cgl_where.specs.PointFile.{Outcome, Values, Fault, point_of}

abbrev pub outcome_result : Outcome → Result Point (ℕ × ℕ)
outcome_result (Values x) = Ok x
outcome_result (Fault line kind) = Err (line, kind)

-- the point of a point file, or the line and the kind of its first fault
unfoldable pub point_result : Model → List ℕ → Result Point (ℕ × ℕ)
point_result m bytes = outcome_result (point_of bytes m)
