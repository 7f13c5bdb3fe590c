-- What each cut has that a generator gives for a model at a point.
use Rattle.std.specs.Prelude.{◌≡◌, [], ◌≤◌, pos, ◌<ℤ◌, length}
use Rattle.cgl_model.specs.declared.mip.Model.{Model}
use Rattle.cgl_model.specs.Feasible.{IsFeasible}
use Rattle.cgl_model.specs.HasDecimals.{HasDecimals}
use Rattle.cgl_model.specs.Inequality.{AreColumnsBelow, Meets, violation}
use Rattle.cgl_model.specs.Point.{Point}
use Rattle.cgl_model.specs.Rising.{IsRising}
use Rattle.cgl_derive.specs.declared.answer.Candidate.{Candidate}
use Rattle.cgl_derive.specs.declared.step.Derivation.{out-Derivation}
use Rattle.cgl_derive.specs.Derives.{Derives, LastIs}
use Rattle.cgl_gen.specs.Listable.{IsListable}

-- the derivation proves the cut itself from the model alone, in at most two steps, and the point violates the cut by the
-- fraction
pub record IsCutAt (m : Model) (x : Point) (c : Candidate) : Type 0 where
  pub derives : Derives m [] c.derivation c.cut
  pub ends : LastIs (out-Derivation c.derivation).steps c.cut
  pub short : length (out-Derivation c.derivation).steps ≤ 2
  pub violation : c.violation ≡ violation c.cut x
  pub violated : pos 0 <ℤ c.violation.num
  pub listable : IsListable c.cut
  pub rising : IsRising c.cut.terms

-- each cut of a generator is over columns of the model, and each feasible point meets it
pub record CutsAreSound : Type 0 where
  pub columns : (m : Model) (x : Point) (c : Candidate) → IsCutAt m x c → AreColumnsBelow (length m.cols) c.cut.terms
  pub met : (m : Model) (x y : Point) (c : Candidate) → HasDecimals m → IsCutAt m x c → IsFeasible m y → Meets y c.cut
