-- What is promised of points where steps are right.
use Rattle.std.specs.Prelude.{List}
use Rattle.std.specs.List.{AllByRecursion}
use Rattle.cgl_model.specs.declared.linear.Ineq.{Ineq}
use Rattle.cgl_model.specs.Inequality.{Meets}
use Rattle.cgl_model.specs.Point.{Point}
use Rattle.cgl_derive.specs.declared.step.Step.{Step}
use Rattle.cgl_derive.specs.Derives.{Judge, Part}

abbrev pub AreMet : Point → List Ineq → Type 0
AreMet x inequalities = AllByRecursion (Meets x) inequalities

abbrev pub ArePartsMet : Point → List Part → Type 0
ArePartsMet x parts = AllByRecursion (λ part. Meets x part.0) parts

-- under givens and visible claims that the point meets, it meets each goal that is judged to be proved
abbrev pub IsSoundAt : Point → Judge → Type 0
IsSoundAt x judge =
    (givens claims : List Ineq) (steps : List Step) (goal : Ineq) → AreMet x givens → AreMet x claims → judge givens claims steps goal → Meets x goal
