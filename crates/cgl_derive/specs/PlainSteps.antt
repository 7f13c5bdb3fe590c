-- Steps whose references are all sides, so that they say the same wherever they stand, and when two are the same.
use Rattle.std.specs.Prelude.{ℕ, ◌==◌, ℤ, Bool, true, false, ◌&&◌, List}
use Rattle.std.specs.List.{list_all}
use lib.Pointwise.{pointwise}
use Rattle.std.specs.Ordering.{int_eq}
use Rattle.cgl_model.specs.declared.linear.Ineq.{Ineq}
use Rattle.cgl_model.specs.FormList.{same_place}
use Rattle.cgl_model.specs.Inequality.{Term}
use Rattle.cgl_derive.specs.declared.step.Ref.{Ref}
use Rattle.cgl_derive.specs.declared.step.Ref.TheVariants as by
use Rattle.cgl_derive.specs.declared.step.Lin.{Lin}
use Rattle.cgl_derive.specs.declared.step.Round.{Round}
use Rattle.cgl_derive.specs.declared.step.Knap.{Knap}
use Rattle.cgl_derive.specs.declared.step.Step.TheOpen as step
use Rattle.cgl_derive.specs.Derives.{Layer}

abbrev pub is_side : Ref → Bool
is_side (by.Side place) = true
is_side (by.Step k) = false
is_side (by.Given k) = false
is_side (by.Shared k) = false

-- a sum, a division or a knapsack step whose references are all sides, so that it says the same wherever it stands
abbrev pub is_plain : Layer → Bool
is_plain (step.Lin lin) = list_all (λ r. is_side r.0) lin.refs
is_plain (step.Round round) = is_side round.from
is_plain (step.Split s) = false
is_plain (step.Knap knap) = is_side knap.from

abbrev pub same_ref : Ref → Ref → Bool
same_ref (by.Side place) (by.Side other) = same_place place other
same_ref (by.Side place) (by.Step k) = false
same_ref (by.Side place) (by.Given k) = false
same_ref (by.Side place) (by.Shared k) = false
same_ref (by.Step k) (by.Side place) = false
same_ref (by.Step k) (by.Step n) = k == n
same_ref (by.Step k) (by.Given n) = false
same_ref (by.Step k) (by.Shared n) = false
same_ref (by.Given k) (by.Side place) = false
same_ref (by.Given k) (by.Step n) = false
same_ref (by.Given k) (by.Given n) = k == n
same_ref (by.Given k) (by.Shared n) = false
same_ref (by.Shared k) (by.Side place) = false
same_ref (by.Shared k) (by.Step n) = false
same_ref (by.Shared k) (by.Given n) = false
same_ref (by.Shared k) (by.Shared n) = k == n

abbrev pub same_ineq : Ineq → Ineq → Bool
same_ineq c d = pointwise (λ (t u : Term). t.0 == u.0 && int_eq t.1 u.1) c.terms d.terms && int_eq c.rhs d.rhs

abbrev pub same_refs : List (Ref × ℤ) → List (Ref × ℤ) → Bool
same_refs refs others = pointwise (λ (r s : Ref × ℤ). same_ref r.0 s.0 && int_eq r.1 s.1) refs others

abbrev pub same_lin : Lin → Lin → Bool
same_lin a b = same_refs a.refs b.refs && (int_eq a.q b.q && same_ineq a.claim b.claim)

abbrev pub same_round : Round → Round → Bool
same_round a b = same_ref a.from b.from && (int_eq a.g b.g && same_ineq a.claim b.claim)

abbrev pub same_knap : Knap → Knap → Bool
same_knap a b = same_ref a.from b.from && same_ineq a.claim b.claim

-- a split is the same as no step
abbrev pub is_same : Layer → Layer → Bool
is_same (step.Lin a) (step.Lin b) = same_lin a b
is_same (step.Lin a) (step.Round b) = false
is_same (step.Lin a) (step.Split b) = false
is_same (step.Lin a) (step.Knap b) = false
is_same (step.Round a) (step.Lin b) = false
is_same (step.Round a) (step.Round b) = same_round a b
is_same (step.Round a) (step.Split b) = false
is_same (step.Round a) (step.Knap b) = false
is_same (step.Split a) b = false
is_same (step.Knap a) (step.Lin b) = false
is_same (step.Knap a) (step.Round b) = false
is_same (step.Knap a) (step.Split b) = false
is_same (step.Knap a) (step.Knap b) = same_knap a b
