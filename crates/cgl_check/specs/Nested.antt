-- The search for failures in lists within a list.
use Rattle.std.specs.Prelude.{ℕ, zero, suc, List, None}
use Rattle.cgl_model.specs.declared.linear.Ineq.{Ineq}
use Rattle.cgl_model.specs.declared.mip.Model.{Model}
use Rattle.cgl_check.specs.FirstFailure.{Search, failure_within}

-- where n splits may still nest: that of the lists within one of them
unfoldable pub inner_search : Model → List Ineq → ℕ → Search
inner_search m shared zero = λ givens claims steps. None
inner_search m shared (suc n) = failure_within m shared n
